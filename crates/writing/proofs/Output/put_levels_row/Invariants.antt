-- `writing::Output::put_levels_row` meets its contract: behind the name, the levels before the loop's place are written.
-- Assumes nothing.
use mathlib.Core.List.{◌∷◌}
use Rattle.words.specs.Words.{space}
use Rattle.writing.specs.Text.{level_text}
use Rattle.writing.proofs.EachLaws.{EachWritten}
use Rattle.writing.proofs.Output.put_levels_row.Given as goal

abbrev pub invariant-loop-level : goal.invariant-loop-level
invariant-loop-level l = EachWritten (λ x. space ∷ level_text x) l.levels l.initial.self l.level-index l.self
