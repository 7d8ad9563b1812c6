-- `explicit::explicit_levels` meets its contract. The invariant: what is written, and the phase on what is left from the present state, is the phase on the whole.
-- Assumes nothing.
use Prim.Native.Nat.{◌≤◌}
use lib.ListN.{drop}
use Rattle.rules.specs.Explicit.{X1, explicit_levels}
use Rattle.machine.specs.Meaning.{meaning}
use Rattle.machine.specs.Sound.{counts}
use Rattle.laws.proofs.Filling.{Filled}
use Rattle.explicit.proofs.explicit_levels.Given as goal

abbrev pub invariant-loop-at : goal.invariant-loop-at
invariant-loop-at l =
    (counts l.machine ≤ l.at)
    × Filled (explicit_levels l.base (X1 l.base) l.classes) l.initial.levels l.levels l.at (explicit_levels l.base (meaning l.machine) (drop l.at l.classes))
