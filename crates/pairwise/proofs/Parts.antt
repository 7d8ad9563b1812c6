-- Parts of a list, from one place up to, not including, another.
-- Assumes nothing.
use Prim.Native.Nat.{ℕ, zero, suc, ◌+◌, ◌-◌, ◌≤◌, ◌<◌}
use native.Mathlib.Omega.{arith}
use mathlib.Core.Path.{◌≡◌, sym, ap, ◌∙◌}
use mathlib.Core.List.{List, [], ◌∷◌, ◌++◌}
use lib.ListN.{length, get_or, take, drop, length-drop, take-append-drop}
use lib.Seq.{drop-cons, take-suc, take-nil, take-take, drop-drop, get_or-take, get_or-drop}
use Rattle.laws.specs.Parts.{part}

pub get_d_part : (from to : ℕ) (xs : List ℕ) (i : ℕ) → i < to - from → get_or (part from to xs) i 0 ≡ get_or xs (from + i) 0
unfolding part
get_d_part from to xs i within = get_or-take (to - from) (drop from xs) i 0 within ∙ get_or-drop from xs i 0

-- a list in three parts
pub split_part : (i j : ℕ) (xs : List ℕ) → i ≤ j → take i xs ++ (part i j xs ++ drop j xs) ≡ xs
unfolding part
split_part i j xs up =
    let there : j ≡ i + (j - i) = omega arith in
    ap (λ (k : ℕ). take i xs ++ (take (j - i) (drop i xs) ++ drop k xs)) there
    ∙ ap (λ (r : List ℕ). take i xs ++ (take (j - i) (drop i xs) ++ r)) (sym (drop-drop (j - i) i xs))
    ∙ ap (λ (r : List ℕ). take i xs ++ r) (take-append-drop (j - i) (drop i xs))
    ∙ take-append-drop i xs

-- a part by its first, its last and what is between them
pub part_ends : (i j : ℕ) (xs : List ℕ) → i < j → j < length xs → part i (suc j) xs ≡ get_or xs i 0 ∷ (part (suc i) j xs ++ (get_or xs j 0 ∷ []))
unfolding part
part_ends i j xs less within =
    let long : suc j - i ≡ suc (suc (j - suc i)) = omega arith in
    let last : suc i + (j - suc i) ≡ j = omega arith in
    ap (λ (k : ℕ). take k (drop i xs)) long
    ∙ ap (take (suc (suc (j - suc i)))) (drop-cons xs i 0 (omega arith))
    ∙ ap (λ (r : List ℕ). get_or xs i 0 ∷ r) (take-suc (drop (suc i) xs) (j - suc i) 0 (omega (arith, length-drop (suc i) xs)))
    ∙ ap (λ (k : ℕ). get_or xs i 0 ∷ (take (j - suc i) (drop (suc i) xs) ++ (k ∷ []))) (get_or-drop (suc i) xs (j - suc i) 0 ∙ ap (λ (k : ℕ). get_or xs k 0) last)

drop_take : (i n : ℕ) (xs : List ℕ) → i ≤ n → drop i (take n xs) ≡ take (n - i) (drop i xs)
drop_take zero n xs up = let whole : n ≡ n - 0 = omega arith in ap (λ (k : ℕ). take k xs) whole
drop_take (suc i) zero xs up = absurd (omega arith)
drop_take (suc i) (suc n) [] up = sym (take-nil (suc n - suc i))
drop_take (suc i) (suc n) (x ∷ xs) up =
    let same : n - i ≡ suc n - suc i = omega arith in
    drop_take i n xs (omega arith) ∙ ap (λ (k : ℕ). take k (drop i xs)) same

-- a part of a part
pub part_part : (from to i j : ℕ) (xs : List ℕ) → i ≤ j → j ≤ to - from → part i j (part from to xs) ≡ part (from + i) (from + j) xs
unfolding part
part_part from to i j xs up within =
    let long : j - i ≡ from + j - (from + i) = omega arith in
    ap (take (j - i)) (drop_take i (to - from) (drop from xs) (omega arith))
    ∙ take-take (j - i) (to - from - i) (drop i (drop from xs)) (omega arith)
    ∙ ap (take (j - i)) (drop-drop i from xs)
    ∙ ap (λ (k : ℕ). take k (drop (from + i) xs)) long
