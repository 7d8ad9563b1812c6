-- `runs::resolve_kept` meets its contract: the invariant is that the runs before i are resolved and all from i on stands as it was.
-- Assumes nothing.
use Rattle.runs.proofs.KeptLaws.{Resolving}
use Prim.Native.Nat.{◌-◌}
use lib.ListN.{length}
use Rattle.runs.proofs.resolve_kept.Given as goal

abbrev pub invariant-loop-i : goal.invariant-loop-i
invariant-loop-i l = Resolving l.initial.types l.initial.levels l.base l.types l.levels l.before l.i

abbrev pub decreases-loop-i : goal.decreases-loop-i
decreases-loop-i l = length l.initial.levels - l.i
