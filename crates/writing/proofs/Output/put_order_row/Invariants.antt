-- `writing::Output::put_order_row` meets its contract: behind the name, the positions before the loop's place are written.
-- Assumes nothing.
use mathlib.Core.List.{◌∷◌}
use Rattle.words.specs.Words.{space}
use Rattle.writing.specs.Text.{number_text}
use Rattle.writing.proofs.EachLaws.{EachWritten}
use Rattle.writing.proofs.Output.put_order_row.Given as goal

abbrev pub invariant-loop-position : goal.invariant-loop-position
invariant-loop-position l = EachWritten (λ x. space ∷ number_text x) l.order l.initial.self l.position-index l.self
