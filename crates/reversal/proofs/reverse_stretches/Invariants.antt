-- `reversal::reverse_stretches` meets its contract. The invariant: the places before `at` are as the pass leaves them, and those from there on as they were. The measure is what is left.
-- Assumes nothing.
use Prim.Native.Nat.{◌-◌}
use mathlib.Core.List.{[]}
use lib.ListN.{length}
use Rattle.laws.proofs.Filling.{Filled}
use Rattle.reversal.specs.Passes.{pass_by}
use Rattle.reversal.proofs.PassLaws.{pass_from}
use Rattle.reversal.proofs.reverse_stretches.Given as goal

abbrev pub invariant-loop-at : goal.invariant-loop-at
invariant-loop-at l = Filled (pass_by l.level [] l.levels l.initial.order) l.initial.order l.order l.at (pass_from l.level l.levels l.initial.order l.at)

abbrev pub decreases-loop-at : goal.decreases-loop-at
decreases-loop-at l = length l.levels - l.at
