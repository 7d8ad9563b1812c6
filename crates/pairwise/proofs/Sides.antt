-- Which of two positions stands to the left in an arrangement of items, and how that fares when more is put to either
-- side and when the arrangement is reversed.
-- Assumes nothing.
use Prim.Native.Nat.{ℕ, zero, suc, ◌≤◌}
use native.Mathlib.Omega.{arith}
use mathlib.Core.Path.{◌≡◌, sym, ap, ◌∙◌}
use mathlib.Core.List.{List, [], ◌++◌, reverse, append_assoc, reverse-append}
use Rattle.rules.specs.Line.{Item}
use Rattle.pairwise.proofs.Count.{count, stands_at, count_append, count_reverse_aux}

-- the arrangement can be cut with x in the left part and y in the right
pub record Left (x y : ℕ) (xs : List Item) : Type 0 where
  pub left : List Item
  pub right : List Item
  pub cut : xs ≡ left ++ right
  pub first : 1 ≤ count (stands_at x) left
  pub second : 1 ≤ count (stands_at y) right

left_between : {x y : ℕ} (us : List Item) {xs : List Item} (vs : List Item) → Left x y xs → Left x y (us ++ (xs ++ vs))
left_between {x} {y} us {xs} vs l =
    record {
      left = us ++ l.left;
      right = l.right ++ vs;
      cut = ap (λ (r : List Item). us ++ (r ++ vs)) l.cut ∙ ap (λ (r : List Item). us ++ r) (append_assoc l.left l.right vs) ∙ sym (append_assoc us l.left (l.right ++ vs));
      first = omega (arith, count_append (stands_at x) us l.left, l.first);
      second = omega (arith, count_append (stands_at y) l.right vs, l.second);
    }

left_reversed : {x y : ℕ} {xs : List Item} → Left x y xs → Left y x (reverse xs)
left_reversed {x} {y} l =
    record {
      left = reverse l.right;
      right = reverse l.left;
      cut = ap reverse l.cut ∙ reverse-append l.left l.right;
      first = omega (arith, count_reverse_aux (stands_at y) l.right [], l.second);
      second = omega (arith, count_reverse_aux (stands_at x) l.left [], l.first);
    }

-- x stands to the left of y, turned round so many times
abbrev pub Turned : ℕ → ℕ → ℕ → List Item → Type 0
Turned zero x y xs = Left x y xs
Turned (suc k) x y xs = Turned k y x xs

pub turned_between : (k x y : ℕ) (us xs vs : List Item) → Turned k x y xs → Turned k x y (us ++ (xs ++ vs))
turned_between zero x y us xs vs l = left_between us vs l
turned_between (suc k) x y us xs vs l = turned_between k y x us xs vs l

-- once more, when the arrangement is reversed
pub turned_reversed : (k x y : ℕ) (xs : List Item) → Turned k x y xs → Turned (suc k) x y (reverse xs)
turned_reversed zero x y xs l = left_reversed l
turned_reversed (suc k) x y xs l = turned_reversed k y x xs l
