-- N1 and N2 as one pass: the second rule joins the first, stretch by stretch, and neither changes a run's length.
-- Assumes nothing.
use Prim.Native.Nat.{ℕ}
use mathlib.Core.Bool.{true, false}
use mathlib.Core.Path.{◌≡◌, refl, sym, ap, ◌∙◌}
use mathlib.Core.List.{List}
use borrow.Author.Tests.{eq-eqb, ne_eqb, eqb-true, eqb-false}
use lib.Dec.{eqb}
use lib.ListN.{length}
use Rattle.rules.specs.Classes.{ON, is_neutral, is_paragraph_end}
use Rattle.laws.specs.Stretches.{stretches}
use Rattle.rules.specs.Neutral.{direction, level_direction, change_N1, N1, change_N2, N2}
use Rattle.laws.proofs.Passes.{by_test, map_stretches, length_stretches}

pub N2_neutral : (level t : ℕ) → is_neutral t ≡ true → change_N2 level t ≡ level_direction level
unfolding change_N2
N2_neutral level t is = rw is

pub N2_other : (level t : ℕ) → is_neutral t ≡ false → change_N2 level t ≡ t
unfolding change_N2
N2_other level t not = rw not

pub N1_equal : (before next t : ℕ) → direction before ≡ direction next → change_N1 before next t ≡ direction before
unfolding change_N1
N1_equal before next t e = rw (eq-eqb (direction before) (direction next) e)

pub N1_apart : (before next t : ℕ) → (direction before ≡ direction next → ⊥) → change_N1 before next t ≡ t
unfolding change_N1
N1_apart before next t apart = rw (ne_eqb (direction before) (direction next) apart)

ON_neutral : is_neutral ON ≡ true
unfolding is_neutral is_paragraph_end
ON_neutral = refl

-- what both rules make of a neutral does not depend on which it is
pub N_same : (level before next t : ℕ) → is_neutral t ≡ true → change_N2 level (change_N1 before next t) ≡ change_N2 level (change_N1 before next ON)
N_same level before next t is =
    by_test (eqb (direction before) (direction next))
    (λ same.
    let e : direction before ≡ direction next = eqb-true (direction before) (direction next) same in
    ap (change_N2 level) (N1_equal before next t e ∙ sym (N1_equal before next ON e)))
    (λ differ.
    let e : direction before ≡ direction next → ⊥ = eqb-false (direction before) (direction next) differ in
    ap (change_N2 level) (N1_apart before next t e)
    ∙ N2_neutral level t is
    ∙ sym (N2_neutral level ON ON_neutral)
    ∙ ap (change_N2 level) (sym (N1_apart before next ON e)))

-- a stretch between equal directions, and between different ones
pub N_equal : (level before next : ℕ) → direction before ≡ direction next → change_N2 level (direction before) ≡ change_N2 level (change_N1 before next ON)
N_equal level before next e = ap (change_N2 level) (sym (N1_equal before next ON e))

pub N_apart : (level before next : ℕ) → (direction before ≡ direction next → ⊥) → level_direction level ≡ change_N2 level (change_N1 before next ON)
N_apart level before next e = sym (N2_neutral level ON ON_neutral) ∙ ap (change_N2 level) (sym (N1_apart before next ON e))

-- N2 after N1, stretch by stretch
pub N1_N2 : (level sor eor : ℕ) (ts : List ℕ) → N2 level (N1 sor eor ts) ≡ stretches is_neutral (λ b n t. change_N2 level (change_N1 b n t)) sor eor ts
unfolding N1 N2
N1_N2 level sor eor ts = map_stretches (change_N2 level) is_neutral change_N1 eor (N2_other level) sor ts

pub length_N : (level sor eor : ℕ) (ts : List ℕ) → length (N2 level (N1 sor eor ts)) ≡ length ts
length_N level sor eor ts = ap length (N1_N2 level sor eor ts) ∙ length_stretches is_neutral (λ b n t. change_N2 level (change_N1 b n t)) eor sor ts
