-- Whether any number of a list passes a test: what a loop says that looks at every place and does not stop early, so
-- that it reads many places at once.
-- Assumes nothing.
use Prim.Native.Nat.{ℕ, ◌+◌, ◌≤◌, ◌<◌}
use native.Mathlib.Omega.{arith}
use mathlib.Core.Bool.{Bool, true, false, ◌||◌}
use mathlib.Core.Path.{◌≡◌, refl, sym, ap, ◌∙◌}
use mathlib.Core.List.{List, [], ◌∷◌}
use lib.ListN.{length, get_or, drop, drop_of_length-le}
use Rattle.std.specs.List.{fold}
use Rattle.laws.specs.Any.{any_of, any_pair}
use Rattle.laws.proofs.Lists.{drop_next}

-- of two tests neither holds
pub neither : (a b : Bool) → (a || b) ≡ false → (a ≡ false) × (b ≡ false)
neither true b e = let z : ◌≡◌ {A = ℕ} 0 1 = cc in absurd (omega arith)
neither false b e = (refl, e)

or_assoc : (a b c : Bool) → ((a || b) || c) ≡ (a || (b || c))
or_assoc true b c = refl
or_assoc false b c = refl

pub or_false : (a : Bool) → (a || false) ≡ a
or_false true = refl
or_false false = refl

pub none_first : (test : ℕ → Bool) (x : ℕ) (xs : List ℕ) → any_of test (x ∷ xs) ≡ false → (test x ≡ false) × (any_of test xs ≡ false)
unfolding any_of
none_first test x xs none = neither (test x) (any_of test xs) none

-- what is found up to i, or in what is left, is what is in the list
pub any_begun : (test : ℕ → Bool) (xs : List ℕ) → (false || any_of test xs) ≡ any_of test xs
any_begun test xs = refl

pub any_next : (test : ℕ → Bool) (xs : List ℕ) (i : ℕ) (found here more : Bool) → i < length xs → here ≡ test (get_or xs i 0) → more ≡ (found || here) → (found || any_of test (drop i xs)) ≡ any_of test xs → (more || any_of test (drop (i + 1) xs)) ≡ any_of test xs
unfolding any_of
any_next test xs i found here more below is joins now =
    ap (λ (b : Bool). b || any_of test (drop (i + 1) xs)) (joins ∙ ap (λ (b : Bool). found || b) is)
    ∙ or_assoc found (test (get_or xs i 0)) (any_of test (drop (i + 1) xs))
    ∙ ap (λ (r : List ℕ). found || any_of test r) (sym (drop_next xs i below))
    ∙ now

pub any_done : (test : ℕ → Bool) (xs : List ℕ) (i : ℕ) (found : Bool) → length xs ≤ i → (found || any_of test (drop i xs)) ≡ any_of test xs → found ≡ any_of test xs
unfolding any_of
any_done test xs i found past now =
    sym (or_false found) ∙ ap (λ (r : List ℕ). found || any_of test r) (sym (drop_of_length-le xs past)) ∙ now

-- found by a fold that looks at every element
fold_from : (test : ℕ → Bool) (xs : List ℕ) (found : Bool) → fold (λ (found : Bool) (x : ℕ). found || test x) found xs ≡ (found || any_of test xs)
unfolding any_of
fold_from test [] found = sym (or_false found)
fold_from test (x ∷ xs) found = fold_from test xs (found || test x) ∙ or_assoc found (test x) (any_of test xs)

pub fold_any : (test : ℕ → Bool) (xs : List ℕ) → fold (λ (found : Bool) (x : ℕ). found || test x) false xs ≡ any_of test xs
fold_any test xs = fold_from test xs false

-- ---- the same over two lists, place by place, up to where either ends
pub no_pair_first : (test : ℕ → ℕ → Bool) (x y : ℕ) (xs ys : List ℕ) → any_pair test (x ∷ xs) (y ∷ ys) ≡ false → (test x y ≡ false) × (any_pair test xs ys ≡ false)
unfolding any_pair
no_pair_first test x y xs ys none = neither (test x y) (any_pair test xs ys) none

pub pair_begun : (test : ℕ → ℕ → Bool) (xs ys : List ℕ) → (false || any_pair test xs ys) ≡ any_pair test xs ys
pair_begun test xs ys = refl

pub pair_next : (test : ℕ → ℕ → Bool) (xs ys : List ℕ) (i : ℕ) (found here more : Bool) → i < length xs → length xs ≤ length ys → here ≡ test (get_or xs i 0) (get_or ys i 0) → more ≡ (found || here) → (found || any_pair test (drop i xs) (drop i ys)) ≡ any_pair test xs ys → (more || any_pair test (drop (i + 1) xs) (drop (i + 1) ys)) ≡ any_pair test xs ys
unfolding any_pair
pair_next test xs ys i found here more below room is joins now =
    let under : i < length ys = omega arith in
    ap (λ (b : Bool). b || any_pair test (drop (i + 1) xs) (drop (i + 1) ys)) (joins ∙ ap (λ (b : Bool). found || b) is)
    ∙ or_assoc found (test (get_or xs i 0) (get_or ys i 0)) (any_pair test (drop (i + 1) xs) (drop (i + 1) ys))
    ∙ ap (λ (r : List ℕ). found || any_pair test r (get_or ys i 0 ∷ drop (i + 1) ys)) (sym (drop_next xs i below))
    ∙ ap (λ (r : List ℕ). found || any_pair test (drop i xs) r) (sym (drop_next ys i under))
    ∙ now

pub pair_done : (test : ℕ → ℕ → Bool) (xs ys : List ℕ) (i : ℕ) (found : Bool) → length xs ≤ i → (found || any_pair test (drop i xs) (drop i ys)) ≡ any_pair test xs ys → found ≡ any_pair test xs ys
unfolding any_pair
pair_done test xs ys i found past now =
    sym (or_false found) ∙ ap (λ (r : List ℕ). found || any_pair test r (drop i ys)) (sym (drop_of_length-le xs past)) ∙ now
