-- The highest level of some items and their lowest odd one, by their equations; how high and how low they are.
-- Assumes nothing.
use Prim.Native.Nat.{ℕ, ◌≤◌, ◌%◌, min, max}
use native.Mathlib.Omega.{arith}
use mathlib.Core.Bool.{true, false}
use mathlib.Core.Path.{◌≡◌, refl, ◌∙◌}
use mathlib.Core.List.{List, [], ◌∷◌}
use borrow.Author.Tests.{eqb-true}
use Rattle.laws.specs.Any.{any_of}
use Rattle.laws.specs.Choice.{is_odd}
use Rattle.laws.proofs.Any.{none_first}
use Rattle.laws.proofs.Every.{Every, AtMost}
use Rattle.laws.proofs.Passes.{by_test}
use Rattle.rules.specs.Line.{Item, levels_of, highest, lowest_odd}

pub highest_cons : (x : Item) (xs : List Item) → highest (x ∷ xs) ≡ max x.level (highest xs)
unfolding highest
highest_cons x xs = refl

pub lowest_nil : (none : ℕ) → lowest_odd none [] ≡ none
unfolding lowest_odd
lowest_nil none = refl

pub lowest_odd_lem : (none : ℕ) (x : Item) (xs : List Item) → is_odd x.level ≡ true → lowest_odd none (x ∷ xs) ≡ min x.level (lowest_odd none xs)
unfolding lowest_odd
lowest_odd_lem none x xs e = rw e

pub lowest_even : (none : ℕ) (x : Item) (xs : List Item) → is_odd x.level ≡ false → lowest_odd none (x ∷ xs) ≡ lowest_odd none xs
unfolding lowest_odd
lowest_even none x xs e = rw e

-- no level is above the highest, and where none is above a number the highest is not
pub each_highest : (n : ℕ) (xs : List Item) → highest xs ≤ n → Every (λ (x : Item). x.level ≤ n) xs
each_highest n [] h = tt
each_highest n (x ∷ xs) h =
    let top : highest (x ∷ xs) ≡ max x.level (highest xs) = highest_cons x xs in
    (omega arith, each_highest n xs (omega arith))

pub highest_most : (n : ℕ) (xs : List Item) → AtMost n (levels_of xs) → highest xs ≤ n
unfolding highest
highest_most n [] each = omega arith
highest_most n (x ∷ xs) each =
    let here : x.level ≤ n = each.0 in
    let rest : highest xs ≤ n = highest_most n xs each.1 in
    omega arith

module _ (none : ℕ) where
  pub lowest_within : (xs : List Item) → lowest_odd none xs ≤ none
  lowest_within [] = omega (arith, lowest_nil none)
  lowest_within (x ∷ xs) =
      let rest : lowest_odd none xs ≤ none = lowest_within xs in
      by_test (is_odd x.level)
      (λ odd. omega (arith, lowest_odd_lem none x xs odd))
      (λ even. omega (arith, lowest_even none x xs even))

  pub lowest_positive : (xs : List Item) → 1 ≤ none → 1 ≤ lowest_odd none xs
  lowest_positive [] some = omega (arith, lowest_nil none)
  lowest_positive (x ∷ xs) some =
      let rest : 1 ≤ lowest_odd none xs = lowest_positive xs some in
      by_test (is_odd x.level)
      (λ odd. omega (arith, lowest_odd_lem none x xs odd, eqb-true (x.level % 2) 1 odd))
      (λ even. omega (arith, lowest_even none x xs even))

  -- with no odd level
  pub lowest_none : (xs : List Item) → any_of is_odd (levels_of xs) ≡ false → lowest_odd none xs ≡ none
  lowest_none [] even = lowest_nil none
  lowest_none (x ∷ xs) even =
      let split = none_first is_odd x.level (levels_of xs) even in
      lowest_even none x xs split.0 ∙ lowest_none xs split.1
