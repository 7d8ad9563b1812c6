-- Sums over a list: how they add up, when two are equal, how large they are; and a sum that a loop makes from the front.
-- Assumes nothing.
use Prim.Native.Nat.{ℕ, ◌+◌, ◌*◌, ◌≤◌, ◌<◌}
use native.Mathlib.Nat.{mul-suc}
use native.Mathlib.Omega.{arith}
use mathlib.Core.Path.{◌≡◌, refl, ap}
use mathlib.Core.Bool.{Bool, true, false}
use mathlib.Core.List.{List, [], ◌∷◌, ◌++◌, map, reverse_aux}
use lib.ListN.{length, get_or, drop, drop_of_length-le}
use Rattle.laws.specs.Sums.{sum_of}
use Rattle.laws.proofs.Every.{Every}
use Rattle.laws.proofs.Lists.{drop_next}

-- what a test counts for
abbrev pub one : Bool → ℕ
one true = 1
one false = 0

module _ {A : Type 0} (f : A → ℕ) where
  pub sum_append : (xs ys : List A) → sum_of f (xs ++ ys) ≡ sum_of f xs + sum_of f ys
  sum_append [] ys = omega arith
  sum_append (x ∷ xs) ys = let rest : sum_of f (xs ++ ys) ≡ sum_of f xs + sum_of f ys = sum_append xs ys in omega arith

  pub sum_reverse_aux : (xs ys : List A) → sum_of f (reverse_aux xs ys) ≡ sum_of f xs + sum_of f ys
  sum_reverse_aux [] ys = omega arith
  sum_reverse_aux (x ∷ xs) ys = let rest : sum_of f (reverse_aux xs (x ∷ ys)) ≡ sum_of f xs + (f x + sum_of f ys) = sum_reverse_aux xs (x ∷ ys) in omega arith

  pub sum_most : (limit : ℕ) (xs : List A) → Every (λ (x : A). f x ≤ limit) xs → sum_of f xs ≤ limit * length xs
  sum_most limit [] each = omega arith
  sum_most limit (x ∷ xs) each =
      let rest : sum_of f xs ≤ limit * length xs = sum_most limit xs each.1 in
      let here : f x ≤ limit = each.0 in
      omega (arith, mul-suc limit (length xs))

module _ {A : Type 0} (f g : A → ℕ) where
  pub sum_same : (xs : List A) → Every (λ (x : A). f x ≡ g x) xs → sum_of f xs ≡ sum_of g xs
  sum_same [] each = refl
  sum_same (x ∷ xs) each =
      let rest : sum_of f xs ≡ sum_of g xs = sum_same xs each.1 in
      let here : f x ≡ g x = each.0 in
      omega arith

  pub sum_both : (xs : List A) → sum_of (λ (x : A). f x + g x) xs ≡ sum_of f xs + sum_of g xs
  sum_both [] = omega arith
  sum_both (x ∷ xs) = let rest : sum_of (λ (x : A). f x + g x) xs ≡ sum_of f xs + sum_of g xs = sum_both xs in omega arith

pub sum_none : {A : Type 0} (f : A → ℕ) (xs : List A) → Every (λ (x : A). f x ≡ 0) xs → sum_of f xs ≡ 0
sum_none f [] each = refl
sum_none f (x ∷ xs) each =
    let rest : sum_of f xs ≡ 0 = sum_none f xs each.1 in
    let here : f x ≡ 0 = each.0 in
    omega arith

pub sum_map : {A B : Type 0} (f : B → ℕ) (g : A → B) (xs : List A) → sum_of f (map g xs) ≡ sum_of (λ (x : A). f (g x)) xs
sum_map f g [] = refl
sum_map f g (x ∷ xs) = ap (λ (n : ℕ). f (g x) + n) (sum_map f g xs)

-- one for each is how many there are
pub sum_ones : {A : Type 0} (xs : List A) → sum_of (λ (x : A). 1) xs ≡ length xs
sum_ones [] = refl
sum_ones (x ∷ xs) = let rest : sum_of (λ (x : _). 1) xs ≡ length xs = sum_ones xs in omega arith

-- ---- a loop that adds: what it has and what is left make the whole
module _ (f : ℕ → ℕ) (xs : List ℕ) (total i : ℕ) (whole : total + sum_of f (drop i xs) ≡ sum_of f xs) where
  pub sum_next : (here total' : ℕ) → i < length xs → here ≡ f (get_or xs i 0) → total' ≡ total + here → total' + sum_of f (drop (i + 1) xs) ≡ sum_of f xs
  sum_next here total' below is adds =
      let next : sum_of f (drop i xs) ≡ f (get_or xs i 0) + sum_of f (drop (i + 1) xs) = ap (sum_of f) (drop_next xs i below) in
      omega arith

  pub sum_done : length xs ≤ i → total ≡ sum_of f xs
  sum_done past =
      let none : sum_of f (drop i xs) ≡ 0 = ap (sum_of f) (drop_of_length-le xs past) in
      omega arith
