-- What holds of every element of a list. Assumes nothing.
use Prim.Native.Nat.{ℕ, zero, suc, ◌≤◌, ◌<◌}
use native.Mathlib.Nat.{le_of_suc-le-suc, not-suc-le-zero}
use mathlib.Core.Bool.{Bool}
use mathlib.Core.Path.{sym, subst}
use mathlib.Core.List.{List, [], ◌∷◌, ◌++◌}
use lib.ListN.{length, get_or}
use Rattle.laws.proofs.Passes.{by_test}
use Rattle.laws.specs.Sorting.{insert, sort}
use Rattle.laws.proofs.Settling.{goes_behind_lem, stays_before, insert_nil, sort_nil, sort_first}

abbrev pub Every : {A : Type 0} → (A → Type 0) → List A → Type 0
Every P [] = Unit {0}
Every P (x ∷ xs) = P x × Every P xs

-- no number is above a given one
abbrev pub AtMost : ℕ → List ℕ → Type 0
AtMost n xs = Every (λ (x : ℕ). x ≤ n) xs

module _ {A : Type 0} (P : A → Type 0) where
  pub every_append : (xs ys : List A) → Every P xs → Every P ys → Every P (xs ++ ys)
  every_append [] ys f g = g
  every_append (x ∷ xs) ys f g = (f.0, every_append xs ys f.1 g)

  every_insert : (passes : A → A → Bool) (x : A) (xs : List A) → P x → Every P xs → Every P (insert passes x xs)
  every_insert passes x [] h f = subst (Every P) (sym (insert_nil passes x)) (h, tt)
  every_insert passes x (y ∷ ys) h f =
      by_test (passes x y)
      (λ behind. subst (Every P) (sym (goes_behind_lem passes x y ys behind)) (f.0, every_insert passes x ys h f.1))
      (λ before. subst (Every P) (sym (stays_before passes x y ys before)) (h, f))

  pub every_sort : (passes : A → A → Bool) (xs : List A) → Every P xs → Every P (sort passes xs)
  every_sort passes [] f = subst (Every P) (sym (sort_nil passes)) tt
  every_sort passes (x ∷ xs) f = subst (Every P) (sym (sort_first passes x xs)) (every_insert passes x (sort passes xs) f.0 (every_sort passes xs f.1))

pub every_then : {A : Type 0} (P Q : A → Type 0) (xs : List A) → ((x : A) → P x → Q x) → Every P xs → Every Q xs
every_then P Q [] each f = tt
every_then P Q (x ∷ xs) each f = (each x f.0, every_then P Q xs each f.1)

pub every_both : {A : Type 0} (P Q R : A → Type 0) (xs : List A) → ((x : A) → P x → Q x → R x) → Every P xs → Every Q xs → Every R xs
every_both P Q R [] each f g = tt
every_both P Q R (x ∷ xs) each f g = (each x f.0 g.0, every_both P Q R xs each f.1 g.1)

pub every_one : {A : Type 0} (P : A → Type 0) (xs : List A) → ((x : A) → P x) → Every P xs
every_one P [] each = tt
every_one P (x ∷ xs) each = (each x, every_one P xs each)

-- at each place
pub every_at : {A : Type 0} (holds : A → Type 0) (d : A) (xs : List A) (i : ℕ) → Every holds xs → i < length xs → holds (get_or xs i d)
every_at holds d [] i hs h = absurd (not-suc-le-zero h)
every_at holds d (x ∷ xs) zero hs h = hs.0
every_at holds d (x ∷ xs) (suc i) hs h = every_at holds d xs i hs.1 (le_of_suc-le-suc h)
