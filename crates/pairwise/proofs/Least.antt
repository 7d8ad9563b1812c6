-- The smallest level of some items: none of them is below it, and one of them is of that level.
-- Assumes nothing.
use Prim.Native.Nat.{ℕ, ◌≤◌, ◌<◌, ◌%◌, min}
use native.Mathlib.Omega.{arith}
use mathlib.Core.Path.{◌≡◌, refl, ap}
use mathlib.Core.List.{List, [], ◌∷◌, map}
use lib.Dec.{ltb}
use borrow.Author.Tests.{ltb-false, le-ltb, eq-eqb, eqb-true, eqb-false}
use Rattle.laws.specs.Choice.{is_odd}
use Rattle.rules.specs.Line.{Item, highest, lowest_odd}
use Rattle.rules.proofs.LowestLaws.{highest_cons, lowest_nil, lowest_odd_lem, lowest_even}
use Rattle.laws.proofs.Passes.{by_test}
use Rattle.pairwise.specs.Demand3.{least}
use Rattle.laws.proofs.Lists.{by_order}
use Rattle.laws.proofs.SumLaws.{one}
use Rattle.pairwise.proofs.Count.{count, is_below, is_of}

abbrev pub levels : List Item → List ℕ
levels xs = map (λ (x : Item). x.level) xs

least_one : (l : ℕ) → least (l ∷ []) ≡ l
unfolding least
least_one l = refl

least_more : (l m : ℕ) (ls : List ℕ) → least (l ∷ m ∷ ls) ≡ min l (least (m ∷ ls))
unfolding least
least_more l m ls = refl

pub none_below : (n : ℕ) (x : Item) (xs : List Item) → n ≤ least (levels (x ∷ xs)) → count (is_below n) (x ∷ xs) ≡ 0
none_below n x [] up = omega (arith, ap one (le-ltb x.level n (omega (arith, least_one x.level))))
none_below n x (y ∷ ys) up =
    let both : least (levels (x ∷ y ∷ ys)) ≡ min x.level (least (levels (y ∷ ys))) = least_more x.level y.level (levels ys) in
    omega (arith, ap one (le-ltb x.level n (omega arith)), none_below n y ys (omega arith))

pub least_reached : (n : ℕ) (x : Item) (xs : List Item) → count (is_below n) (x ∷ xs) ≡ 0 → n ≤ least (levels (x ∷ xs))
least_reached n x [] none =
    by_test (ltb x.level n)
    (λ low. absurd (omega (arith, ap one low)))
    (λ high. omega (arith, least_one x.level, ltb-false x.level n high))
least_reached n x (y ∷ ys) none =
    let both : least (levels (x ∷ y ∷ ys)) ≡ min x.level (least (levels (y ∷ ys))) = least_more x.level y.level (levels ys) in
    by_test (ltb x.level n)
    (λ low. absurd (omega (arith, ap one low)))
    (λ high. omega (arith, ltb-false x.level n high, least_reached n y ys (omega arith)))

pub least_found : (m : ℕ) (x : Item) (xs : List Item) → m ≡ least (levels (x ∷ xs)) → 1 ≤ count (is_of m) (x ∷ xs)
least_found m x [] is = omega (arith, ap one (eq-eqb x.level m (omega (arith, least_one x.level))))
least_found m x (y ∷ ys) is =
    let both : least (levels (x ∷ y ∷ ys)) ≡ min x.level (least (levels (y ∷ ys))) = least_more x.level y.level (levels ys) in
    by_order x.level (least (levels (y ∷ ys)))
    (λ first. omega (arith, ap one (eq-eqb x.level m (omega arith))))
    (λ later. omega (arith, least_found m y ys (omega arith)))

-- ---- The highest level, and the lowest odd one

pub at_most_highest : (m : ℕ) (xs : List Item) → 1 ≤ count (is_of m) xs → m ≤ highest xs
at_most_highest m [] some = absurd (omega arith)
at_most_highest m (x ∷ xs) some =
    by_test (is_of m x)
    (λ here. omega (arith, highest_cons x xs, eqb-true x.level m here))
    (λ not. omega (arith, highest_cons x xs, at_most_highest m xs (omega (arith, ap one not))))

module _ (none : ℕ) where
  pub lowest_is_odd : (xs : List Item) → lowest_odd none xs < none → lowest_odd none xs % 2 ≡ 1
  lowest_is_odd [] less = absurd (omega (arith, lowest_nil none))
  lowest_is_odd (x ∷ xs) less =
      by_test (is_odd x.level)
      (λ odd.
      by_order x.level (lowest_odd none xs)
      (λ first. omega (arith, lowest_odd_lem none x xs odd, eqb-true (x.level % 2) 1 odd))
      (λ later. omega (arith, lowest_odd_lem none x xs odd, lowest_is_odd xs (omega (arith, lowest_odd_lem none x xs odd)))))
      (λ even. omega (arith, lowest_even none x xs even, lowest_is_odd xs (omega (arith, lowest_even none x xs even))))

  pub lowest_reached : (m : ℕ) (xs : List Item) → m % 2 ≡ 1 → 1 ≤ count (is_of m) xs → lowest_odd none xs ≤ m
  lowest_reached m [] odd some = absurd (omega arith)
  lowest_reached m (x ∷ xs) odd some =
      by_test (is_odd x.level)
      (λ yes'.
      by_test (is_of m x)
      (λ here. omega (arith, lowest_odd_lem none x xs yes', eqb-true x.level m here))
      (λ not. omega (arith, lowest_odd_lem none x xs yes', lowest_reached m xs odd (omega (arith, ap one not)))))
      (λ no'.
      by_test (is_of m x)
      (λ here. absurd (eqb-false (x.level % 2) 1 no' (omega (arith, eqb-true x.level m here))))
      (λ not. omega (arith, lowest_even none x xs no', lowest_reached m xs odd (omega (arith, ap one not)))))
