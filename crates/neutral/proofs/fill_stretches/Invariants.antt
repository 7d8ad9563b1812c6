-- `neutral::fill_stretches` meets its contract: it goes from stretch to stretch of neutrals. The measure is what is left.
-- Assumes nothing.
use Rattle.std.proofs.Common.{length, ◌-◌}
use Rattle.neutral.proofs.StretchLaws.{Stands}
use Rattle.neutral.proofs.fill_stretches.Given as goal

abbrev pub invariant-loop-at : goal.invariant-loop-at
invariant-loop-at l = Stands l.finals l.sides.sor l.sides.eor l.types l.levels l.before l.at

abbrev pub decreases-loop-at : goal.decreases-loop-at
decreases-loop-at l = length l.types - l.at
