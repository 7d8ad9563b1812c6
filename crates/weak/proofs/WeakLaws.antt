-- What holds of single rules, the two passes in turn, and that no rule changes a run's length: each is a sweep, W5 goes
-- by stretches.
-- Assumes nothing.
use Prim.Native.Nat.{ℕ}
use mathlib.Core.Bool.{true}
use mathlib.Core.Path.{◌≡◌, refl, ap, ◌∙◌}
use mathlib.Core.List.{List, [], ◌∷◌}
use borrow.Author.Tests.{eqb-true}
use lib.ListN.{length}
use Rattle.laws.specs.Choice.{head_or}
use Rattle.rules.specs.Classes.{ET}
use Rattle.rules.specs.Weak.{W1, W2, W3, W4, W5, W6, W7, change_W1, change_W2, strong_W2, change_W3, change_W4, change_W5, change_W6, change_W7, strong_W7, is_terminator, weak}
use Rattle.laws.proofs.Passes.{sweep, length_sweep, map_sweep, length_stretches}

W1_sweep : (before : ℕ) (ts : List ℕ) → W1 before ts ≡ sweep (λ s t n. change_W1 s t) change_W1 0 before ts
unfolding W1 sweep
W1_sweep before [] = refl
W1_sweep before (t ∷ ts) = ap (λ (r : List ℕ). change_W1 before t ∷ r) (W1_sweep (change_W1 before t) ts)

W2_sweep : (strong : ℕ) (ts : List ℕ) → W2 strong ts ≡ sweep (λ s t n. change_W2 s t) strong_W2 0 strong ts
unfolding W2 sweep
W2_sweep strong [] = refl
W2_sweep strong (t ∷ ts) = ap (λ (r : List ℕ). change_W2 strong t ∷ r) (W2_sweep (strong_W2 strong t) ts)

W3_sweep : (ts : List ℕ) → W3 ts ≡ sweep (λ s t n. change_W3 t) (λ s t. s) 0 0 ts
unfolding W3
W3_sweep ts = map_sweep change_W3 ts

W4_sweep : (before eor : ℕ) (ts : List ℕ) → W4 before eor ts ≡ sweep change_W4 (λ s t. t) eor before ts
unfolding W4 sweep
W4_sweep before eor [] = refl
W4_sweep before eor (t ∷ ts) = ap (λ (r : List ℕ). change_W4 before t (head_or eor ts) ∷ r) (W4_sweep t eor ts)

-- every type of a stretch of ET is ET
pub W5_same : (before next t : ℕ) → is_terminator t ≡ true → change_W5 before next t ≡ change_W5 before next ET
unfolding is_terminator
W5_same before next t is = ap (change_W5 before next) (eqb-true t ET is)

W6_sweep : (ts : List ℕ) → W6 ts ≡ sweep (λ s t n. change_W6 t) (λ s t. s) 0 0 ts
unfolding W6
W6_sweep ts = map_sweep change_W6 ts

W7_sweep : (strong : ℕ) (ts : List ℕ) → W7 strong ts ≡ sweep (λ s t n. change_W7 s t) strong_W7 0 strong ts
unfolding W7 sweep
W7_sweep strong [] = refl
W7_sweep strong (t ∷ ts) = ap (λ (r : List ℕ). change_W7 strong t ∷ r) (W7_sweep (strong_W7 strong t) ts)

-- the two passes one after the other, the second on what the first left
pub weak_in_turn : (sor eor : ℕ) (ts : List ℕ) {early late : List ℕ} → early ≡ W4 sor eor (W3 (W2 sor (W1 sor ts))) → late ≡ W7 sor (W6 (W5 sor eor early)) → late ≡ weak sor eor ts
unfolding weak
weak_in_turn sor eor ts first second = second ∙ ap (λ (r : List ℕ). W7 sor (W6 (W5 sor eor r))) first

pub length_weak : (sor eor : ℕ) (ts : List ℕ) → length (weak sor eor ts) ≡ length ts
unfolding weak W5
length_weak sor eor ts = simp (W1_sweep, W2_sweep, W3_sweep, W4_sweep, W6_sweep, W7_sweep, length_sweep, length_stretches)
