-- The passes of L2 by their equations, and what a sum over items is worth after a pass: as much as before.
-- Assumes nothing.
use Prim.Native.Nat.{ℕ, zero, suc, ◌+◌, ◌≤◌, ◌<◌}
use native.Mathlib.Omega.{arith}
use mathlib.Core.Bool.{true, false}
use mathlib.Core.Path.{◌≡◌, refl, ap, ◌∙◌}
use mathlib.Core.List.{List, [], ◌∷◌, ◌++◌}
use lib.Dec.{leb}
use borrow.Author.Tests.{le-leb, lt-leb}
use Rattle.laws.specs.Sums.{sum_of}
use Rattle.laws.proofs.Lists.{by_order}
use Rattle.laws.proofs.Passes.{by_test}
use Rattle.laws.proofs.SumLaws.{sum_append}
use Rattle.rules.specs.Line.{Item, pass, passes}

pub pass_nil : (n : ℕ) (stretch : List Item) → pass n stretch [] ≡ stretch
unfolding pass
pass_nil n stretch = refl

pub pass_high : (n : ℕ) (stretch : List Item) (x : Item) (xs : List Item) → leb n x.level ≡ true → pass n stretch (x ∷ xs) ≡ pass n (x ∷ stretch) xs
unfolding pass
pass_high n stretch x xs e = rw e

pub pass_low : (n : ℕ) (stretch : List Item) (x : Item) (xs : List Item) → leb n x.level ≡ false → pass n stretch (x ∷ xs) ≡ stretch ++ (x ∷ pass n [] xs)
unfolding pass
pass_low n stretch x xs e = rw e

-- no pass where the lowest level is above the highest
pub passes_none : (h n : ℕ) (xs : List Item) → h < n → passes h n xs ≡ xs
unfolding passes
passes_none zero n xs below = refl
passes_none (suc h) n xs below = rw (lt-leb n (suc h) below)

pub passes_end : (n : ℕ) (xs : List Item) → passes zero n xs ≡ xs
unfolding passes
passes_end n xs = refl

-- the first pass, and what is left after it
pub passes_first : (h n : ℕ) (xs : List Item) → n ≤ suc h → passes (suc h) n xs ≡ passes h n (pass (suc h) [] xs)
unfolding passes
passes_first h n xs within = rw (le-leb n (suc h) within)

-- ---- a sum over the items
module _ (f : Item → ℕ) where
  pub sum_pass : (n : ℕ) (stretch xs : List Item) → sum_of f (pass n stretch xs) ≡ sum_of f stretch + sum_of f xs
  sum_pass n stretch [] = rw (pass_nil n stretch) (omega arith)
  sum_pass n stretch (x ∷ xs) =
      by_test (leb n x.level)
      (λ high. let rest : sum_of f (pass n (x ∷ stretch) xs) ≡ f x + sum_of f stretch + sum_of f xs = sum_pass n (x ∷ stretch) xs in rw (pass_high n stretch x xs high) (omega arith))
      (λ low.
      let rest : sum_of f (pass n [] xs) ≡ 0 + sum_of f xs = sum_pass n [] xs in
      rw (pass_low n stretch x xs low, sum_append f stretch (x ∷ pass n [] xs)) (omega arith))

  pub sum_passes : (h n : ℕ) (xs : List Item) → sum_of f (passes h n xs) ≡ sum_of f xs
  sum_passes zero n xs = rw (passes_end n xs)
  sum_passes (suc h) n xs =
      by_order n (suc h)
      (λ within. ap (sum_of f) (passes_first h n xs within) ∙ sum_passes h n (pass (suc h) [] xs) ∙ sum_pass (suc h) [] xs ∙ omega arith)
      (λ past. ap (sum_of f) (passes_none (suc h) n xs past))
