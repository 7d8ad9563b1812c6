-- Laws on lists and numbers that every pass over a slice cites: one place further, at `i + 1` as the code counts.
-- Assumes nothing.
use Prim.Native.Nat.{ℕ, zero, suc, ◌+◌, ◌-◌, ◌≤◌, ◌<◌, zero-le, suc-le-suc}
use native.Mathlib.Numerals.{add-one}
use native.Mathlib.Omega.{arith}
use mathlib.Core.Path.{◌≡◌, sym, ap, ◌∙◌}
use mathlib.Core.Logic.{◌⊎◌, inl, inr}
use mathlib.Core.List.{List, [], ◌∷◌, ◌++◌, append_assoc}
use lib.ListN.{length, get_or, take, drop, set, length-append, length-drop}
use lib.Seq.{take-suc-set, drop-cons, drop-set-lt, take-suc, take-add, take-take, get_or-take, get_or-drop, get_or-set_same, lt-length-set, length-take-le, take_at}
use borrow.Rule.Slice.PartMut.{post_of, put_mid}
use Rattle.laws.specs.Parts.{part}

-- what is written at i joins what was written before it
pub take_set_next : (out : List ℕ) (i v : ℕ) (rest : List ℕ) → i < length out → take (i + 1) (set out i v) ++ rest ≡ take i out ++ (v ∷ rest)
take_set_next out i v rest h =
    rw (add-one, take-suc-set out i v h) (append_assoc (take i out) (v ∷ []) rest)

-- what is left to read: the element at i, then what is left after it
pub drop_next : (xs : List ℕ) (i : ℕ) → i < length xs → drop i xs ≡ get_or xs i 0 ∷ drop (i + 1) xs
drop_next xs i h = rw (add-one, drop-cons xs i 0)

-- a write at i leaves what is behind it
pub drop_set_next : (out : List ℕ) (i v : ℕ) → drop (i + 1) (set out i v) ≡ drop (i + 1) out
drop_set_next out i v = drop-set-lt (i + 1) out i v (omega arith)

-- what stands from k on after a write at k
pub drop_set_here : (out : List ℕ) (k v : ℕ) → k < length out → drop k (set out k v) ≡ v ∷ drop (suc k) out
drop_set_here out k v h =
    drop-cons (set out k v) k 0 (lt-length-set out k v h)
    ∙ (λ j. get_or-set_same out k v 0 h j ∷ drop-set-lt (suc k) out k v (omega arith) j)

-- `take i xs`, one element longer
pub take_next : (xs : List ℕ) (i : ℕ) → i < length xs → take (i + 1) xs ≡ take i xs ++ (get_or xs i 0 ∷ [])
take_next xs i h = rw (add-one, take-suc xs i 0)

-- two numbers in order, one way or the other
pub le_or_lt : (a b : ℕ) → (a ≤ b) ⊎ (b < a)
le_or_lt zero b = inl zero-le
le_or_lt (suc a) zero = inr (suc-le-suc zero-le)
le_or_lt (suc a) (suc b) = up (le_or_lt a b)
  where
    up : (a ≤ b) ⊎ (b < a) → (suc a ≤ suc b) ⊎ (suc b < suc a)
    up (inl h) = inl (suc-le-suc h)
    up (inr h) = inr (suc-le-suc h)

-- a case split on the order of two numbers
pub by_order : {A : Type 0} (a b : ℕ) → (a ≤ b → A) → (b < a → A) → A
by_order {A} a b up_to above = go (le_or_lt a b)
  where
    go : (a ≤ b) ⊎ (b < a) → A
    go (inl h) = up_to h
    go (inr h) = above h

-- a part that was lent and is back: up to its end, what stood before it and then what is in its place now
pub take_put_end : (xs ys : List ℕ) (i e : ℕ) → i ≤ e → e ≤ length xs → length ys ≡ e - i → take e (put_mid i (e - i) xs ys) ≡ take i xs ++ ys
take_put_end xs ys i e h g l =
    let long : length (take i xs ++ ys) ≡ e = length-append (take i xs) ys ∙ omega (arith, length-take-le i xs (omega arith)) in
    ap (take e) (sym (append_assoc (take i xs) ys (post_of i (e - i) xs))) ∙ take_at (take i xs ++ ys) (post_of i (e - i) xs) e long

-- ---- a part of a list
module _ (xs : List ℕ) (from to : ℕ) where
  pub part_none : to ≤ from → part from to xs ≡ []
  unfolding part
  part_none h = let none : to - from ≡ 0 = omega arith in rw none

  pub length_part : to ≤ length xs → length (part from to xs) ≡ to - from
  unfolding part
  length_part h = length-take-le (to - from) (drop from xs) (rw (length-drop from xs) (omega arith))

  -- what stands before its end: what stands before it, then the part
  pub take_part : from ≤ to → take to xs ≡ take from xs ++ part from to xs
  unfolding part
  take_part h =
      let there : from + (to - from) ≡ to = omega arith in
      ap (λ (n : ℕ). take n xs) (sym there) ∙ take-add from (to - from) xs

  pub part_at : (i : ℕ) → i < to - from → get_or (part from to xs) i 0 ≡ get_or xs (from + i) 0
  unfolding part
  part_at i h = get_or-take (to - from) (drop from xs) i 0 h ∙ get_or-drop from xs i 0

  -- the front of a part is a part
  pub part_front : (end : ℕ) → to ≤ end → take (to - from) (part from end xs) ≡ part from to xs
  unfolding part
  part_front end h = take-take (to - from) (end - from) (drop from xs) (omega arith)

  -- one place longer
  pub part_next : from ≤ to → to < length xs → part from (to + 1) xs ≡ part from to xs ++ (get_or xs to 0 ∷ [])
  unfolding part
  part_next h below =
      let size : to + 1 - from ≡ suc (to - from) = omega arith in
      let there : from + (to - from) ≡ to = omega arith in
      let room : to - from < length (drop from xs) = rw (length-drop from xs) (omega arith) in
      ap (λ (n : ℕ). take n (drop from xs)) size ∙ take-suc (drop from xs) (to - from) 0 room
      ∙ ap (λ (x : ℕ). take (to - from) (drop from xs) ++ (x ∷ [])) (get_or-drop from xs (to - from) 0 ∙ ap (λ (n : ℕ). get_or xs n 0) there)
