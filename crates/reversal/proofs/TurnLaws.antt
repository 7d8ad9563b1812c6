-- A part of a list turned round, by swaps from its two ends towards the middle.
-- Assumes nothing.
use Rattle.std.proofs.Common.{◌≡◌, ℕ, suc, ◌+◌, ◌-◌, ◌/◌, ◌≤◌, ◌<◌, List, ◌++◌, length, take, drop, refl, sym, ap, ◌∙◌, arith}
use mathlib.Core.Logic.{◌⊎◌, inl, inr}
use mathlib.Core.List.{reverse}
use lib.ListN.{get_or, set, length-set, length-append, length-drop, length-reverse, get_or-append}
use lib.Seq.{get_or-set_same, get_or-set_other, lt-length-set, get_or-take, get_or-drop, get_or-append_right, length-take-le, ext_get_or}
use Rattle.std.specs.List.{between}
use Rattle.std.proofs.lemmas.List.{get_or-reverse}
use Rattle.std.proofs.lemmas.List.Edits.{length-between}
use Rattle.laws.proofs.Lists.{le_or_lt}

-- two elements change places
abbrev pub swapped : List ℕ → ℕ → ℕ → List ℕ
swapped xs a b = set (set xs a (get_or xs b 0)) b (get_or xs a 0)

module _ (xs : List ℕ) (a b : ℕ) (ha : a < length xs) (hb : b < length xs) (apart : a < b) where
  swapped_first : get_or (swapped xs a b) a 0 ≡ get_or xs b 0
  swapped_first = get_or-set_other (set xs a (get_or xs b 0)) b a (get_or xs a 0) 0 (omega arith) ∙ get_or-set_same xs a (get_or xs b 0) 0 ha

  swapped_second : get_or (swapped xs a b) b 0 ≡ get_or xs a 0
  swapped_second = get_or-set_same (set xs a (get_or xs b 0)) b (get_or xs a 0) 0 (lt-length-set xs a (get_or xs b 0) hb)

  swapped_other : (p : ℕ) → (p ≡ a → ⊥) → (p ≡ b → ⊥) → get_or (swapped xs a b) p 0 ≡ get_or xs p 0
  swapped_other p na nb = get_or-set_other (set xs a (get_or xs b 0)) b p (get_or xs a 0) 0 nb ∙ get_or-set_other xs a p (get_or xs b 0) 0 na

-- the part between two places turned round, and all else as it was
abbrev pub turned : ℕ → ℕ → List ℕ → List ℕ
turned from to xs = take from xs ++ (reverse (between from to xs) ++ drop to xs)

-- n pairs are turned round, the outermost first; what stands between them is still to be turned
pub record Turning (from to : ℕ) (xs ys : List ℕ) (n : ℕ) : Type 0 where
  pub long : length ys ≡ length xs
  pub ahead : (p : ℕ) → p < from → get_or ys p 0 ≡ get_or xs p 0
  pub left : (p q : ℕ) → from ≤ p → from ≤ q → suc (p + q) ≡ from + to → p < from + n → get_or ys p 0 ≡ get_or xs q 0
  pub inner : (p : ℕ) → from + n ≤ p → p + n < to → get_or ys p 0 ≡ get_or xs p 0
  pub right : (p q : ℕ) → from ≤ p → from ≤ q → suc (p + q) ≡ from + to → to ≤ p + n → get_or ys p 0 ≡ get_or xs q 0
  pub past : (p : ℕ) → to ≤ p → get_or ys p 0 ≡ get_or xs p 0

pub begun : (from to : ℕ) (xs : List ℕ) → Turning from to xs xs 0
begun from to xs = record {
  long = refl;
  ahead = λ p l. refl;
  left = λ p q fp fq e l. absurd (omega arith);
  inner = λ p l r. refl;
  right = λ p q fp fq e l. absurd (omega arith);
  past = λ p l. refl;
}

module _ (from to : ℕ) (xs ys : List ℕ) (n : ℕ) (room : to ≤ length xs) (t : Turning from to xs ys n) where
  module _ (more : n < (to - from) / 2) where
    here : from + n < length ys
    here = omega (arith, t.long)

    there : to - 1 - n < length ys
    there = omega (arith, t.long)

    other : (p : ℕ) → (p ≡ from + n → ⊥) → (p ≡ to - 1 - n → ⊥) → get_or (swapped ys (from + n) (to - 1 - n)) p 0 ≡ get_or ys p 0
    other = swapped_other ys (from + n) (to - 1 - n) here there (omega arith)

    at_left : (p q : ℕ) → from ≤ p → from ≤ q → suc (p + q) ≡ from + to → p < from + (n + 1) → (from + n ≤ p) ⊎ (p < from + n) → get_or (swapped ys (from + n) (to - 1 - n)) p 0 ≡ get_or xs q 0
    at_left p q fp fq e l (inl h) =
        let pe : p ≡ from + n = omega arith in
        let qe : to - 1 - n ≡ q = omega arith in
        ap (λ (k : ℕ). get_or (swapped ys (from + n) (to - 1 - n)) k 0) pe
        ∙ swapped_first ys (from + n) (to - 1 - n) here there (omega arith)
        ∙ t.inner (to - 1 - n) (omega arith) (omega arith) ∙ ap (λ (k : ℕ). get_or xs k 0) qe
    at_left p q fp fq e l (inr h) = other p (λ z. omega arith) (λ z. omega arith) ∙ t.left p q fp fq e h

    at_right : (p q : ℕ) → from ≤ p → from ≤ q → suc (p + q) ≡ from + to → to ≤ p + (n + 1) → (p ≤ to - 1 - n) ⊎ (to - 1 - n < p) → get_or (swapped ys (from + n) (to - 1 - n)) p 0 ≡ get_or xs q 0
    at_right p q fp fq e l (inl h) =
        let pe : p ≡ to - 1 - n = omega arith in
        let qe : from + n ≡ q = omega arith in
        ap (λ (k : ℕ). get_or (swapped ys (from + n) (to - 1 - n)) k 0) pe
        ∙ swapped_second ys (from + n) (to - 1 - n) here there (omega arith)
        ∙ t.inner (from + n) (omega arith) (omega arith) ∙ ap (λ (k : ℕ). get_or xs k 0) qe
    at_right p q fp fq e l (inr h) = other p (λ z. omega arith) (λ z. omega arith) ∙ t.right p q fp fq e (omega arith)

    pub next : Turning from to xs (swapped ys (from + n) (to - 1 - n)) (n + 1)
    next = record {
      long = length-set (set ys (from + n) (get_or ys (to - 1 - n) 0)) (to - 1 - n) (get_or ys (from + n) 0) ∙ length-set ys (from + n) (get_or ys (to - 1 - n) 0) ∙ t.long;
      ahead = λ p l. other p (λ z. omega arith) (λ z. omega arith) ∙ t.ahead p l;
      left = λ p q fp fq e l. at_left p q fp fq e l (le_or_lt (from + n) p);
      inner = λ p l r. other p (λ z. omega arith) (λ z. omega arith) ∙ t.inner p (omega arith) (omega arith);
      right = λ p q fp fq e l. at_right p q fp fq e l (le_or_lt p (to - 1 - n));
      past = λ p l. other p (λ z. omega arith) (λ z. omega arith) ∙ t.past p l;
    }

  -- the one place that may be left in the middle is its own mirror
  inside : (to - from) / 2 ≤ n → (p q : ℕ) → from ≤ p → from ≤ q → suc (p + q) ≡ from + to → (from + n ≤ p) ⊎ (p < from + n) → (to ≤ p + n) ⊎ (p + n < to) → get_or ys p 0 ≡ get_or xs q 0
  inside h p q fp fq e (inr l) r = t.left p q fp fq e l
  inside h p q fp fq e (inl l) (inl r) = t.right p q fp fq e r
  inside h p q fp fq e (inl l) (inr r) = let pq : p ≡ q = omega arith in t.inner p l r ∙ ap (λ (k : ℕ). get_or xs k 0) pq

  module _ (ordered : from ≤ to) where
    front : length (take from xs) ≡ from
    front = length-take-le from xs (omega arith)

    part : length (between from to xs) ≡ to - from
    part = length-between xs from to room

    back : length (reverse (between from to xs)) ≡ to - from
    back = length-reverse (between from to xs) ∙ part

    whole : length (turned from to xs) ≡ length xs
    whole =
        let outer : length (turned from to xs) ≡ length (take from xs) + length (reverse (between from to xs) ++ drop to xs) = length-append (take from xs) (reverse (between from to xs) ++ drop to xs) in
        let inner : length (reverse (between from to xs) ++ drop to xs) ≡ length (reverse (between from to xs)) + length (drop to xs) = length-append (reverse (between from to xs)) (drop to xs) in
        let rest : length (drop to xs) ≡ length xs - to = length-drop to xs in
        omega (arith, front, back)

    -- behind the front
    behind : (p : ℕ) → from ≤ p → get_or (turned from to xs) p 0 ≡ get_or (reverse (between from to xs) ++ drop to xs) (p - from) 0
    behind p h =
        get_or-append_right (take from xs) (reverse (between from to xs) ++ drop to xs) p 0 (omega (arith, front))
        ∙ ap (λ (k : ℕ). get_or (reverse (between from to xs) ++ drop to xs) (p - k) 0) front

    each : (to - from) / 2 ≤ n → (p : ℕ) → (from ≤ p) ⊎ (p < from) → (to ≤ p) ⊎ (p < to) → get_or ys p 0 ≡ get_or (turned from to xs) p 0
    each h p (inr l) r =
        t.ahead p l ∙ sym (get_or-take from xs p 0 l)
        ∙ sym (get_or-append (take from xs) (reverse (between from to xs) ++ drop to xs) 0 p (omega (arith, front)))
    each h p (inl l) (inl r) =
        let at : to + (p - from - (to - from)) ≡ p = omega arith in
        t.past p r ∙ ap (λ (k : ℕ). get_or xs k 0) (sym at) ∙ sym (get_or-drop to xs (p - from - (to - from)) 0)
        ∙ ap (λ (k : ℕ). get_or (drop to xs) (p - from - k) 0) (sym back)
        ∙ sym (get_or-append_right (reverse (between from to xs)) (drop to xs) (p - from) 0 (omega (arith, back)))
        ∙ sym (behind p l)
    each h p (inl l) (inr r) =
        let q : ℕ = to - from - 1 - (p - from) in
        inside h p (from + q) l (omega arith) (omega arith) (le_or_lt (from + n) p) (le_or_lt to (p + n))
        ∙ sym (get_or-drop from xs q 0) ∙ sym (get_or-take (to - from) (drop from xs) q 0 (omega arith))
        ∙ ap (λ (k : ℕ). get_or (between from to xs) (k - 1 - (p - from)) 0) (sym part)
        ∙ sym (get_or-reverse (between from to xs) (p - from) 0 (omega (arith, part)))
        ∙ sym (get_or-append (reverse (between from to xs)) (drop to xs) 0 (p - from) (omega (arith, back)))
        ∙ sym (behind p l)

    pub ended : (to - from) / 2 ≤ n → ys ≡ turned from to xs
    ended h = ext_get_or 0 ys _ (t.long ∙ sym whole) (λ p l. each h p (le_or_lt from p) (le_or_lt to p))
