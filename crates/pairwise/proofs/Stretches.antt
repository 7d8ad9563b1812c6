-- What the passes do to a list of items: an item below the lowest level of the passes parts what stands before it from
-- what stands behind it, and a list with no such item is reversed whole by the last pass.
-- Assumes nothing.
use Prim.Native.Nat.{ℕ, zero, suc, ◌≤◌, ◌<◌}
use native.Mathlib.Omega.{arith}
use mathlib.Core.Bool.{true, false}
use mathlib.Core.Path.{◌≡◌, refl, sym, ap, ◌∙◌}
use mathlib.Core.Logic.{◌⊎◌, inl, inr}
use mathlib.Core.List.{List, [], ◌∷◌, ◌++◌, reverse_aux, reverse, append-nil, append_assoc}
use lib.Dec.{leb, ltb}
use borrow.Author.Tests.{le-leb, lt-leb, ltb-true, ltb-false}
use Rattle.rules.specs.Line.{Item, pass, passes}
use Rattle.laws.proofs.Passes.{by_test}
use Rattle.laws.proofs.Lists.{by_order}
use Rattle.rules.proofs.PassLaws.{pass_nil, pass_high, pass_low, passes_none, passes_end, passes_first}
use Rattle.laws.proofs.SumLaws.{one}
use Rattle.pairwise.proofs.Count.{count, is_below, count_passes}

-- ---- An item below the level of a pass parts the list

pass_parts : (n : ℕ) (stretch xs : List Item) (b : Item) (ys : List Item) → b.level < n → pass n stretch (xs ++ (b ∷ ys)) ≡ pass n stretch xs ++ (b ∷ pass n [] ys)
pass_parts n stretch [] b ys below =
    pass_low n stretch b ys (lt-leb n b.level below)
    ∙ ap (λ (l : List Item). l ++ (b ∷ pass n [] ys)) (sym (pass_nil n stretch))
pass_parts n stretch (x ∷ xs) b ys below =
    by_test (leb n x.level)
    (λ high.
    pass_high n stretch x (xs ++ (b ∷ ys)) high
    ∙ pass_parts n (x ∷ stretch) xs b ys below
    ∙ ap (λ (l : List Item). l ++ (b ∷ pass n [] ys)) (sym (pass_high n stretch x xs high)))
    (λ low.
    pass_low n stretch x (xs ++ (b ∷ ys)) low
    ∙ ap (λ (l : List Item). stretch ++ (x ∷ l)) (pass_parts n [] xs b ys below)
    ∙ sym (append_assoc stretch (x ∷ pass n [] xs) (b ∷ pass n [] ys))
    ∙ ap (λ (l : List Item). l ++ (b ∷ pass n [] ys)) (sym (pass_low n stretch x xs low)))

pub passes_part : (h n : ℕ) (xs : List Item) (b : Item) (ys : List Item) → b.level < n → passes h n (xs ++ (b ∷ ys)) ≡ passes h n xs ++ (b ∷ passes h n ys)
passes_part zero n xs b ys below = rw (passes_end n xs, passes_end n ys) (passes_end n (xs ++ (b ∷ ys)))
passes_part (suc h) n xs b ys below =
    by_order n (suc h)
    (λ within.
    passes_first h n (xs ++ (b ∷ ys)) within
    ∙ ap (passes h n) (pass_parts (suc h) [] xs b ys (omega arith))
    ∙ passes_part h n (pass (suc h) [] xs) b (pass (suc h) [] ys) below
    ∙ (rw (passes_first h n xs within, passes_first h n ys within)))
    (λ past. rw (passes_none (suc h) n xs past, passes_none (suc h) n ys past) (passes_none (suc h) n (xs ++ (b ∷ ys)) past))

-- ---- A list with no such item is reversed

pass_turns : (n : ℕ) (stretch xs : List Item) → count (is_below n) xs ≡ 0 → pass n stretch xs ≡ reverse_aux xs stretch
pass_turns n stretch [] none = pass_nil n stretch
pass_turns n stretch (x ∷ xs) none =
    by_test (ltb x.level n)
    (λ low. absurd (omega (arith, ap one low)))
    (λ high. pass_high n stretch x xs (le-leb n x.level (ltb-false x.level n high)) ∙ pass_turns n (x ∷ stretch) xs (omega arith))

-- the last pass, and what came before it
passes_last : (h n : ℕ) (xs : List Item) → 1 ≤ n → n ≤ h → passes h n xs ≡ pass n [] (passes h (suc n) xs)
passes_last zero n xs some within = absurd (omega arith)
passes_last (suc h) n xs some within =
    by_order n h
    (λ more.
    passes_first h n xs within
    ∙ passes_last h n (pass (suc h) [] xs) some more
    ∙ ap (pass n []) (sym (passes_first h (suc n) xs (omega arith))))
    (λ last.
    passes_first h n xs within
    ∙ passes_none h n (pass (suc h) [] xs) last
    ∙ ap (λ (k : ℕ). pass k [] xs) (omega arith)
    ∙ ap (pass n []) (sym (passes_none (suc h) (suc n) xs (omega arith))))

pub passes_turn : (h n : ℕ) (xs : List Item) → 1 ≤ n → n ≤ h → count (is_below n) xs ≡ 0 → passes h n xs ≡ reverse (passes h (suc n) xs)
passes_turn h n xs some within none =
    passes_last h n xs some within
    ∙ pass_turns n [] (passes h (suc n) xs) (count_passes (is_below n) h (suc n) xs ∙ none)

-- ---- Where the stretch around a part of the list begins and ends

-- a list parted at an item below a level
pub record Parted (n : ℕ) (xs : List Item) : Type 0 where
  pub ahead : List Item
  pub parts : Item
  pub behind : List Item
  pub joined : xs ≡ ahead ++ (parts ∷ behind)
  pub low : parts.level < n

abbrev longer : {n : ℕ} {xs : List Item} (x : Item) → Parted n xs → Parted n (x ∷ xs)
longer x d = record { ahead = x ∷ d.ahead; parts = d.parts; behind = d.behind; joined = ap (λ (l : List Item). x ∷ l) d.joined; low = d.low }

abbrev here : {n : ℕ} (x : Item) (xs : List Item) → ltb x.level n ≡ true → Parted n (x ∷ xs)
here {n} x xs low = record { ahead = []; parts = x; behind = xs; joined = refl; low = ltb-true x.level n low }

-- no item is below the level, or the list is parted at the first such item
pub first_below : (n : ℕ) (xs : List Item) → (count (is_below n) xs ≡ 0) ⊎ ((d : Parted n xs) × (count (is_below n) d.ahead ≡ 0))
first_below n [] = inl refl
first_below n (x ∷ xs) =
    by_test (ltb x.level n) (λ low. inr (here x xs low, refl)) (λ high. go high (first_below n xs))
  where
    go : ltb x.level n ≡ false → (count (is_below n) xs ≡ 0) ⊎ ((d : Parted n xs) × (count (is_below n) d.ahead ≡ 0)) → (count (is_below n) (x ∷ xs) ≡ 0) ⊎ ((d : Parted n (x ∷ xs)) × (count (is_below n) d.ahead ≡ 0))
    go high (inl none) = inl (omega (arith, ap one high))
    go high (inr (d, none)) = inr (longer x d, omega (arith, ap one high))

-- or at the last one
last_below : (n : ℕ) (xs : List Item) → (count (is_below n) xs ≡ 0) ⊎ ((d : Parted n xs) × (count (is_below n) d.behind ≡ 0))
last_below n [] = inl refl
last_below n (x ∷ xs) = go (last_below n xs)
  where
    go : (count (is_below n) xs ≡ 0) ⊎ ((d : Parted n xs) × (count (is_below n) d.behind ≡ 0)) → (count (is_below n) (x ∷ xs) ≡ 0) ⊎ ((d : Parted n (x ∷ xs)) × (count (is_below n) d.behind ≡ 0))
    go (inl none) = by_test (ltb x.level n) (λ low. inr (here x xs low, none)) (λ high. inl (omega (arith, ap one high)))
    go (inr (d, none)) = inr (longer x d, none)

-- the passes over a list that goes on: what is before the stretch at its end is settled
pub record Begins (h n : ℕ) (xs : List Item) : Type 0 where
  pub inside : List Item
  pub outside : List Item
  pub high : count (is_below n) inside ≡ 0
  pub settled : (ys : List Item) → passes h n (xs ++ ys) ≡ outside ++ passes h n (inside ++ ys)

pub begins : (h n : ℕ) (xs : List Item) → Begins h n xs
begins h n xs = go (last_below n xs)
  where
    go : (count (is_below n) xs ≡ 0) ⊎ ((d : Parted n xs) × (count (is_below n) d.behind ≡ 0)) → Begins h n xs
    go (inl none) = record { inside = xs; outside = []; high = none; settled = λ ys. refl }
    go (inr (d, none)) =
        record {
          inside = d.behind;
          outside = passes h n d.ahead ++ (d.parts ∷ []);
          high = none;
          settled = λ ys.
              ap (λ (l : List Item). passes h n (l ++ ys)) d.joined
              ∙ ap (passes h n) (append_assoc d.ahead (d.parts ∷ d.behind) ys)
              ∙ passes_part h n d.ahead d.parts (d.behind ++ ys) d.low
              ∙ sym (append_assoc (passes h n d.ahead) (d.parts ∷ []) (passes h n (d.behind ++ ys)));
        }

-- the passes over a list that something stands before: what is behind the stretch at its start is settled
pub record Ends (h n : ℕ) (xs : List Item) : Type 0 where
  pub inside : List Item
  pub outside : List Item
  pub high : count (is_below n) inside ≡ 0
  pub settled : (ys : List Item) → passes h n (ys ++ xs) ≡ passes h n (ys ++ inside) ++ outside

pub ends : (h n : ℕ) (xs : List Item) → Ends h n xs
ends h n xs = go (first_below n xs)
  where
    go : (count (is_below n) xs ≡ 0) ⊎ ((d : Parted n xs) × (count (is_below n) d.ahead ≡ 0)) → Ends h n xs
    go (inl none) = record { inside = xs; outside = []; high = none; settled = λ ys. sym (append-nil (passes h n (ys ++ xs))) }
    go (inr (d, none)) =
        record {
          inside = d.ahead;
          outside = d.parts ∷ passes h n d.behind;
          high = none;
          settled = λ ys.
              ap (λ (l : List Item). passes h n (ys ++ l)) d.joined
              ∙ ap (passes h n) (sym (append_assoc ys d.ahead (d.parts ∷ d.behind)))
              ∙ passes_part h n (ys ++ d.ahead) d.parts d.behind d.low;
        }
