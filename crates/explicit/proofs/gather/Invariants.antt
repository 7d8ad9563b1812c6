-- `explicit::gather` meets its contract. The invariant, for levels and for types: what is written, and what is kept of the phase on what is left, is what is kept of the whole.
-- Assumes nothing.
use Prim.Native.Nat.{◌≤◌}
use lib.ListN.{drop}
use Rattle.rules.specs.Explicit.{X1, explicit_levels, explicit_types, kept}
use Rattle.machine.specs.Meaning.{meaning}
use Rattle.machine.specs.Sound.{counts}
use Rattle.laws.proofs.Filling.{Filled}
use Rattle.explicit.proofs.gather.Given as goal

abbrev pub invariant-loop-class : goal.invariant-loop-class
invariant-loop-class l =
    (counts l.machine ≤ l.class-index) × (l.k ≤ l.class-index)
    × Filled (kept l.classes (explicit_levels l.base (X1 l.base) l.classes)) l.initial.levels l.levels l.k (kept (drop l.class-index l.classes) (explicit_levels l.base (meaning l.machine) (drop l.class-index l.classes)))
    × Filled (kept l.classes (explicit_types (X1 l.base) l.classes)) l.initial.types l.types l.k (kept (drop l.class-index l.classes) (explicit_types (meaning l.machine) (drop l.class-index l.classes)))
