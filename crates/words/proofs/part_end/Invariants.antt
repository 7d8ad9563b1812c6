-- `words::part_end` meets its contract: the part from here on ends where the part from the start does.
-- Assumes nothing.
use mathlib.Core.Path.{◌≡◌}
use Rattle.words.specs.Words.{part_end}
use Rattle.words.proofs.part_end.Given as goal

abbrev pub invariant-loop-i : goal.invariant-loop-i
invariant-loop-i l = part_end l.separator l.bytes l.i ≡ part_end l.separator l.bytes l.from
