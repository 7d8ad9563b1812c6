-- Ends that rise do so from one to the next, and stay within the last. Assumes nothing.
use Prim.Native.Nat.{ℕ, ◌≤◌, ◌<◌}
use native.Mathlib.Omega.{arith}
use mathlib.Core.Path.{◌≡◌, refl}
use mathlib.Core.Bool.{true, false}
use mathlib.Core.List.{List, [], ◌∷◌}
use borrow.Author.Tests.{eqb-true, ltb-true}
use lib.Dec.{ltb}
use Rattle.laws.proofs.Passes.{by_test}
use Rattle.laws.proofs.Tests.{not_both}
use Rattle.rules.specs.Refusals.{ends_rise_to}

pub next_rises : (before end : ℕ) (ends : List ℕ) (last : ℕ) → ends_rise_to before (end ∷ ends) last ≡ true → (before < end) × (ends_rise_to end ends last ≡ true)
unfolding ends_rise_to
next_rises before end ends last e =
    by_test (ltb before end)
    (λ b. (ltb-true before end b, rw b at e))
    (λ b. let z : false ≡ true = rw b at e in absurd (not_both z refl))

pub rises_within : (before : ℕ) (ends : List ℕ) (last : ℕ) → ends_rise_to before ends last ≡ true → before ≤ last
unfolding ends_rise_to
rises_within before [] last e = let same : before ≡ last = eqb-true before last e in omega arith
rises_within before (end ∷ ends) last e =
    let next = next_rises before end ends last e in
    let later : end ≤ last = rises_within end ends last next.1 in
    let lower : before < end = next.0 in
    omega arith
