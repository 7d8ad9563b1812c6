-- `writing::Output::put_refused_row` meets its contract: the name, the number, the place, the line feed, one behind the other.
-- Assumes nothing.
use Rattle.writing.specs.Text.{number_text, refused_row}
use Rattle.writing.proofs.TextLaws.{writes_then, writes_same}
use Rattle.writing.proofs.EachLaws.{spaced_two}
use Rattle.writing.proofs.Output.put_refused_row.Goals as goal

pub returns : goal.returns
unfolding refused_row
returns c =
    let values = writes_same (spaced_two number_text _ _) (writes_then (rw c.from.ensures at c.put_spaced_number.ensures) c.put_spaced_number-2.ensures) in
    writes_then (writes_then c.put_text.ensures values) c.put_byte.ensures
