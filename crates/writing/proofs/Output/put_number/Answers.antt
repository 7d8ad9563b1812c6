-- `writing::Output::put_number` meets its contract: the library's text of a number is the definition's. Assumes nothing.
use native.Mathlib.Omega.{arith}
use mathlib.Core.Path.{sym, ap, ◌∙◌}
use Rattle.std.specs.Fmt.{decimal}
use Rattle.writing.proofs.NumberLaws.{number_decimal}
use Rattle.writing.proofs.TextLaws.{writes_same}
use Rattle.writing.proofs.Output.put_number.Goals as goal

pub returns : goal.returns
returns c =
    writes_same
    (c.as_bytes.ensures.value ∙ c.format.ensures.text ∙ ap decimal (omega arith) ∙ sym (number_decimal c.args.n c.ranges.n.fits))
    c.put_text.ensures
