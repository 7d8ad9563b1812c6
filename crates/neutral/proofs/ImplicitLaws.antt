-- Implicit levels stay within the highest resolved one: at an odd level a type goes up by at most 1, at an even one by at
-- most 2. And I1 and I2 as the levels of a run. Assumes nothing.
use Rattle.std.specs.Prelude.{if◌then◌else◌}
use Prim.Native.Nat.{ℕ, ◌+◌, ◌≤◌, ◌<◌}
use native.Mathlib.Omega.{arith}
use mathlib.Core.Bool.{Bool, true, false, ◌||◌}
use mathlib.Core.Path.{◌≡◌, refl, sym, ap, ap₂, ◌∙◌}
use mathlib.Core.Logic.{⊎_elim}
use mathlib.Core.List.{List, [], ◌∷◌, map}
use borrow.Author.Tests.{eqb-true}
use lib.Dec.{eqb}
use lib.ListN.{length, length-map}
use Rattle.laws.specs.Choice.{is_odd}
use Rattle.rules.specs.Classes.{L, R, EN, AN}
use Rattle.rules.specs.Explicit.{highest_explicit}
use Rattle.rules.specs.Refusals.{highest_resolved}
use Rattle.rules.specs.Neutral.{N1, N2}
use Rattle.rules.specs.Implicit.{I1, I2, implicit_level}
use Rattle.neutral.specs.declared.Finals.{Finals}
use Rattle.neutral.specs.Finals.{final_level}
use Rattle.laws.proofs.Lists.{le_or_lt}
use Rattle.laws.proofs.Tests.{not_both}
use Rattle.laws.proofs.Passes.{by_test}

-- a choice is bounded where both of its sides are
choice_within : (b : Bool) (x y most : ℕ) → x ≤ most → y ≤ most → (if b then x else y) ≤ most
choice_within true x y most hx hy = hx
choice_within false x y most hx hy = hy

I1_within : (level t : ℕ) → I1 level t ≤ level + 2
unfolding I1
I1_within level t =
    choice_within (eqb t R) _ _ _ (omega arith) (choice_within (eqb t EN || eqb t AN) _ _ _ (omega arith) (omega arith))

I2_within : (level t : ℕ) → I2 level t ≤ level + 1
unfolding I2
I2_within level t = choice_within (eqb t L || eqb t EN || eqb t AN) _ _ _ (omega arith) (omega arith)

implicit_level_odd : (level t : ℕ) → is_odd level ≡ true → implicit_level level t ≡ I2 level t
unfolding implicit_level
implicit_level_odd level t odd = rw odd

implicit_level_even : (level t : ℕ) → is_odd level ≡ false → implicit_level level t ≡ I1 level t
unfolding implicit_level
implicit_level_even level t even = rw even

-- the highest level is odd, so an even one is below it
even_below : (most level : ℕ) → is_odd most ≡ true → level ≤ most → is_odd level ≡ false → level < most
even_below most level odd h even =
    ⊎_elim
    (λ above. let same : level ≡ most = omega arith in absurd (not_both odd (ap is_odd (sym same) ∙ even)))
    (λ below. below)
    (le_or_lt most level)

rises : (most level t : ℕ) → is_odd most ≡ true → level ≤ most → implicit_level level t ≤ most + 1
rises most level t odd h =
    by_test (is_odd level)
    (λ o. omega (arith, implicit_level_odd level t o, I2_within level t))
    (λ e. omega (arith, implicit_level_even level t e, I1_within level t, even_below most level odd h e))

pub implicit_level_within : (level t : ℕ) → level ≤ highest_explicit → implicit_level level t ≤ highest_resolved
implicit_level_within level t h = rises highest_explicit level t refl h

pub length_implicit : (level : ℕ) (ts : List ℕ) → length (map (implicit_level level) ts) ≡ length ts
length_implicit level ts = length-map ts (implicit_level level)

-- ---- the levels of a run: I2 gives them at an odd level, I1 at an even one
module _ (level : ℕ) (finals : Finals) (own : finals.own ≡ level) where
  pub finals_odd : is_odd level ≡ true → finals.l ≡ level + 1 → finals.r ≡ level → finals.en ≡ level + 1 → finals.an ≡ level + 1 → (t : ℕ) → final_level finals t ≡ implicit_level level t
  unfolding final_level implicit_level I2
  finals_odd odd l r en an t =
      rw (odd, l, r, en, an, own)
      (by_test (eqb t L) (λ a. rw a)
      (λ a. rw a
      (by_test (eqb t R) (λ b. let e : t ≡ R = eqb-true t R b in rw (b, e))
      (λ b. rw b (by_test (eqb t EN) (λ d. rw d) (λ d. rw d))))))

  pub finals_even : is_odd level ≡ false → finals.l ≡ level → finals.r ≡ level + 1 → finals.en ≡ level + 2 → finals.an ≡ level + 2 → (t : ℕ) → final_level finals t ≡ implicit_level level t
  unfolding final_level implicit_level I1
  finals_even even l r en an t =
      rw (even, l, r, en, an, own)
      (by_test (eqb t L) (λ a. let e : t ≡ L = eqb-true t L a in rw (a, e))
      (λ a. rw a
      (by_test (eqb t R) (λ b. rw b)
      (λ b. rw b (by_test (eqb t EN) (λ d. rw d) (λ d. rw d))))))

finals_mapped : (level : ℕ) (finals : Finals) → ((t : ℕ) → final_level finals t ≡ implicit_level level t) → (ts : List ℕ) → map (final_level finals) ts ≡ map (implicit_level level) ts
finals_mapped level finals same [] = refl
finals_mapped level finals same (t ∷ ts) = ap₂ (λ (x : ℕ) (xs : List ℕ). x ∷ xs) (same t) (finals_mapped level finals same ts)

pub finals_levels : (level : ℕ) (finals : Finals) (sor eor : ℕ) (ts : List ℕ) {out : List ℕ} → finals.own ≡ level → ((t : ℕ) → final_level finals t ≡ implicit_level level t) → out ≡ map (final_level finals) (N2 finals.own (N1 sor eor ts)) → out ≡ map (implicit_level level) (N2 level (N1 sor eor ts))
finals_levels level finals sor eor ts {out} own same is =
    is ∙ ap (λ (l : ℕ). map (final_level finals) (N2 l (N1 sor eor ts))) own ∙ finals_mapped level finals same (N2 level (N1 sor eor ts))
