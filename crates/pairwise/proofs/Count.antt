-- How many items of a list pass a test: a sum over the items. No pass of L2 changes that, so a count says of every
-- arrangement which items it holds and how often.
-- Assumes nothing.
use Prim.Native.Nat.{ℕ, ◌+◌}
use mathlib.Core.Bool.{Bool}
use mathlib.Core.Path.{◌≡◌}
use mathlib.Core.List.{List, ◌++◌, reverse_aux}
use lib.Dec.{eqb, ltb}
use Rattle.laws.specs.Sums.{sum_of}
use Rattle.laws.proofs.SumLaws.{one, sum_append, sum_reverse_aux}
use Rattle.rules.specs.Line.{Item, passes}
use Rattle.rules.proofs.PassLaws.{sum_passes}

abbrev pub count : (Item → Bool) → List Item → ℕ
count test xs = sum_of (λ (x : Item). one (test x)) xs

-- the tests in use: the item's position, its level, and whether its level is below a given one
abbrev pub stands_at : ℕ → Item → Bool
stands_at z x = eqb x.position z

abbrev pub is_of : ℕ → Item → Bool
is_of l x = eqb x.level l

abbrev pub is_below : ℕ → Item → Bool
is_below n x = ltb x.level n

module _ (test : Item → Bool) where
  pub count_append : (xs ys : List Item) → count test (xs ++ ys) ≡ count test xs + count test ys
  count_append xs ys = sum_append (λ (x : Item). one (test x)) xs ys

  pub count_reverse_aux : (xs ys : List Item) → count test (reverse_aux xs ys) ≡ count test xs + count test ys
  count_reverse_aux xs ys = sum_reverse_aux (λ (x : Item). one (test x)) xs ys

  pub count_passes : (h n : ℕ) (xs : List Item) → count test (passes h n xs) ≡ count test xs
  count_passes h n xs = sum_passes (λ (x : Item). one (test x)) h n xs
