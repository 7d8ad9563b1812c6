-- `parts::leading` meets its contract: all before a place belong, so the stretch is as long as they are and as what it has
-- of the rest. Assumes nothing.
use Rattle.std.proofs.Common.{◌≡◌, ℕ, Bool, ◌+◌, drop}
use Rattle.laws.specs.Stretches.{span}
use Rattle.parts.specs.Computes.{Computes}
use Rattle.parts.proofs.leading.Given as goal

abbrev pub invariant-loop-i : goal.invariant-loop-i
invariant-loop-i g l =
    (test : ℕ → Bool) → Computes (goal.F-post g l.belongs) test → l.i + span test (drop l.i l.types) ≡ span test l.types
