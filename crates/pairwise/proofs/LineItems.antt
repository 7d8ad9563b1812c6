-- The items of a line: each kept position of the line once, with its level, in memory order.
-- Assumes nothing.
use Prim.Native.Nat.{ℕ, zero, suc, ◌+◌, ◌≤◌, ◌<◌}
use native.Mathlib.Omega.{arith}
use mathlib.Core.Bool.{true, false}
use mathlib.Core.Path.{◌≡◌, refl, sym, ap, ◌∙◌}
use mathlib.Core.List.{List, [], ◌∷◌, ◌++◌}
use lib.Dec.{eqb}
use lib.ListN.{length, get_or, take, drop}
use lib.Seq.{length-take-le}
use borrow.Author.Tests.{eq-eqb, eqb-true, ne_eqb}
use Rattle.rules.specs.Classes.{is_removed}
use Rattle.rules.specs.Explicit.{kept}
use Rattle.laws.specs.Parts.{part}
use Rattle.rules.specs.Line.{Item, items}
use Rattle.laws.proofs.Passes.{by_test}
use Rattle.laws.proofs.SumLaws.{one}
use Rattle.pairwise.proofs.Count.{count, stands_at}
use Rattle.pairwise.proofs.Least.{levels}
use Rattle.pairwise.proofs.Pairs.{from_to}
use Rattle.laws.proofs.Lists.{length_part}
use Rattle.pairwise.proofs.Parts.{split_part, part_ends}

-- the item of a position at a level
abbrev pub item : ℕ → ℕ → Item
item at l = record { position = at; level = l }

items_nil : (at : ℕ) (ls : List ℕ) → items at [] ls ≡ []
unfolding items
items_nil at ls = refl

items_removed : (at c l : ℕ) (cs ls : List ℕ) → is_removed c ≡ true → items at (c ∷ cs) (l ∷ ls) ≡ items (suc at) cs ls
unfolding items
items_removed at c l cs ls e = rw e

items_kept : (at c l : ℕ) (cs ls : List ℕ) → is_removed c ≡ false → items at (c ∷ cs) (l ∷ ls) ≡ item at l ∷ items (suc at) cs ls
unfolding items
items_kept at c l cs ls e = rw e

kept_nil : (ls : List ℕ) → kept [] ls ≡ []
unfolding kept
kept_nil ls = refl

kept_removed : (c l : ℕ) (cs ls : List ℕ) → is_removed c ≡ true → kept (c ∷ cs) (l ∷ ls) ≡ kept cs ls
unfolding kept
kept_removed c l cs ls e = rw e

kept_kept : (c l : ℕ) (cs ls : List ℕ) → is_removed c ≡ false → kept (c ∷ cs) (l ∷ ls) ≡ l ∷ kept cs ls
unfolding kept
kept_kept c l cs ls e = rw e

-- their levels are those of the kept positions
pub levels_items : (at : ℕ) (cs ls : List ℕ) → length cs ≡ length ls → levels (items at cs ls) ≡ kept cs ls
levels_items at [] ls same = ap levels (items_nil at ls) ∙ sym (kept_nil ls)
levels_items at (c ∷ cs) [] same = absurd (omega arith)
levels_items at (c ∷ cs) (l ∷ ls) same =
    by_test (is_removed c)
    (λ gone. ap levels (items_removed at c l cs ls gone) ∙ levels_items (suc at) cs ls (omega arith) ∙ sym (kept_removed c l cs ls gone))
    (λ stays. ap levels (items_kept at c l cs ls stays) ∙ ap (λ (r : List ℕ). l ∷ r) (levels_items (suc at) cs ls (omega arith)) ∙ sym (kept_kept c l cs ls stays))

-- the items of a line in two parts
pub items_append : (at : ℕ) (cs ds ls ms : List ℕ) → length cs ≡ length ls → items at (cs ++ ds) (ls ++ ms) ≡ items at cs ls ++ items (at + length cs) ds ms
items_append at [] ds [] ms same = rw (items_nil at []) (ap (λ (k : ℕ). items k ds ms) (omega arith))
items_append at [] ds (l ∷ ls) ms same = absurd (omega arith)
items_append at (c ∷ cs) ds [] ms same = absurd (omega arith)
items_append at (c ∷ cs) ds (l ∷ ls) ms same =
    let rest : items (suc at) (cs ++ ds) (ls ++ ms) ≡ items (suc at) cs ls ++ items (at + length (c ∷ cs)) ds ms =
    items_append (suc at) cs ds ls ms (omega arith) ∙ ap (λ (k : ℕ). items (suc at) cs ls ++ items k ds ms) (omega arith)
    in
    by_test (is_removed c)
    (λ gone. items_removed at c l (cs ++ ds) (ls ++ ms) gone ∙ rest ∙ ap (λ (r : List Item). r ++ items (at + length (c ∷ cs)) ds ms) (sym (items_removed at c l cs ls gone)))
    (λ stays.
    items_kept at c l (cs ++ ds) (ls ++ ms) stays
    ∙ ap (λ (r : List Item). item at l ∷ r) rest
    ∙ ap (λ (r : List Item). r ++ items (at + length (c ∷ cs)) ds ms) (sym (items_kept at c l cs ls stays)))

-- ---- Each kept position is counted once, no other is

module _ (z : ℕ) where
  pub kept_counted : (at i : ℕ) (cs ls : List ℕ) → length cs ≡ length ls → z ≡ at + i → i < length cs → is_removed (get_or cs i 0) ≡ false → 1 ≤ count (stands_at z) (items at cs ls)
  kept_counted at i [] ls same is within stays = absurd (omega arith)
  kept_counted at i (c ∷ cs) [] same is within stays = absurd (omega arith)
  kept_counted at zero (c ∷ cs) (l ∷ ls) same is within stays =
      rw (items_kept at c l cs ls stays) (omega (arith, ap one (eq-eqb at z (omega arith))))
  kept_counted at (suc i) (c ∷ cs) (l ∷ ls) same is within stays =
      let rest : 1 ≤ count (stands_at z) (items (suc at) cs ls) = kept_counted (suc at) i cs ls (omega arith) (omega arith) (omega arith) stays in
      by_test (is_removed c)
      (λ gone. rw (items_removed at c l cs ls gone) rest)
      (λ here. rw (items_kept at c l cs ls here) (omega arith))

  -- no position before the line is counted
  none_before : (at : ℕ) (cs ls : List ℕ) → length cs ≡ length ls → z < at → count (stands_at z) (items at cs ls) ≡ 0
  none_before at [] ls same less = rw (items_nil at ls)
  none_before at (c ∷ cs) [] same less = absurd (omega arith)
  none_before at (c ∷ cs) (l ∷ ls) same less =
      let rest : count (stands_at z) (items (suc at) cs ls) ≡ 0 = none_before (suc at) cs ls (omega arith) (omega arith) in
      by_test (is_removed c)
      (λ gone. rw (items_removed at c l cs ls gone) rest)
      (λ here. rw (items_kept at c l cs ls here) (omega (arith, ap one (ne_eqb at z (λ e. absurd (omega arith))))))

  pub counted_once : (at : ℕ) (cs ls : List ℕ) → length cs ≡ length ls → count (stands_at z) (items at cs ls) ≤ 1
  counted_once at [] ls same = rw (items_nil at ls) (omega arith)
  counted_once at (c ∷ cs) [] same = absurd (omega arith)
  counted_once at (c ∷ cs) (l ∷ ls) same =
      by_test (is_removed c)
      (λ gone. rw (items_removed at c l cs ls gone) (counted_once (suc at) cs ls (omega arith)))
      (λ stays.
      rw (items_kept at c l cs ls stays) (by_test (eqb at z)
      (λ here. omega (arith, ap one here, none_before (suc at) cs ls (omega arith) (omega (arith, eqb-true at z here))))
      (λ not. omega (arith, ap one not, counted_once (suc at) cs ls (omega arith)))))

  pub counted_kept : (at : ℕ) (cs ls : List ℕ) → length cs ≡ length ls → 1 ≤ count (stands_at z) (items at cs ls) → (i : ℕ) × (z ≡ at + i) × (i < length cs) × (is_removed (get_or cs i 0) ≡ false)
  counted_kept at [] ls same some = absurd (omega (arith, ap (count (stands_at z)) (items_nil at ls)))
  counted_kept at (c ∷ cs) [] same some = absurd (omega arith)
  counted_kept at (c ∷ cs) (l ∷ ls) same some =
      by_test (is_removed c)
      (λ gone. further (counted_kept (suc at) cs ls (omega arith) (rw (items_removed at c l cs ls gone) at some)))
      (λ stays.
      by_test (eqb at z)
      (λ here. (0, omega (arith, eqb-true at z here), omega arith, stays))
      (λ not. further (counted_kept (suc at) cs ls (omega arith) (omega (arith, ap one not, ap (count (stands_at z)) (items_kept at c l cs ls stays))))))
    where
      further : (i : ℕ) × (z ≡ suc at + i) × (i < length cs) × (is_removed (get_or cs i 0) ≡ false) → (i : ℕ) × (z ≡ at + i) × (i < length (c ∷ cs)) × (is_removed (get_or (c ∷ cs) i 0) ≡ false)
      further (i, is, within, stays) = (suc i, omega arith, omega arith, stays)

-- ---- The items from one kept position to a later one

-- among the items ds those from x to y, both counted, and their levels
pub record Spanned (ds : List Item) (x y : ℕ) (ls : List ℕ) : Type 0 where
  pub ahead : List Item
  pub between : List Item
  pub behind : List Item
  pub level_x : ℕ
  pub level_y : ℕ
  pub joined : ds ≡ ahead ++ (from_to (item x level_x) between (item y level_y) ++ behind)
  pub of_levels : levels (from_to (item x level_x) between (item y level_y)) ≡ ls

module _ (at : ℕ) (cs ls : List ℕ) (same : length cs ≡ length ls) (i j : ℕ) (less : i < j) (within : j < length cs) (stays-i : is_removed (get_or cs i 0) ≡ false) (stays-j : is_removed (get_or cs j 0) ≡ false) where
  abbrev first_item : Item
  first_item = item (at + i) (get_or ls i 0)

  abbrev last_item : Item
  last_item = item (at + j) (get_or ls j 0)

  abbrev items_between : List Item
  items_between = items (suc (at + i)) (part (suc i) j cs) (part (suc i) j ls)

  same_between : length (part (suc i) j cs) ≡ length (part (suc i) j ls)
  same_between = length_part cs (suc i) j (omega arith) ∙ sym (length_part ls (suc i) j (omega arith))

  same_part : length (part i (suc j) cs) ≡ length (part i (suc j) ls)
  same_part = length_part cs i (suc j) within ∙ sym (length_part ls i (suc j) (omega arith))

  last_alone : items (suc (at + i) + length (part (suc i) j cs)) (get_or cs j 0 ∷ []) (get_or ls j 0 ∷ []) ≡ last_item ∷ []
  last_alone =
      let there : suc (at + i) + length (part (suc i) j cs) ≡ at + j = omega (arith, length_part cs (suc i) j (omega arith)) in
      ap (λ (k : ℕ). items k (get_or cs j 0 ∷ []) (get_or ls j 0 ∷ [])) there
      ∙ items_kept (at + j) (get_or cs j 0) (get_or ls j 0) [] [] stays-j
      ∙ ap (λ (r : List Item). last_item ∷ r) (items_nil (suc (at + j)) [])

  items_of_part : items (at + i) (part i (suc j) cs) (part i (suc j) ls) ≡ from_to first_item items_between last_item
  items_of_part =
      ap (λ (r : List ℕ). items (at + i) r (part i (suc j) ls)) (part_ends i j cs less within)
      ∙ ap (items (at + i) (get_or cs i 0 ∷ (part (suc i) j cs ++ (get_or cs j 0 ∷ [])))) (part_ends i j ls less (omega arith))
      ∙ items_kept (at + i) (get_or cs i 0) (get_or ls i 0) (part (suc i) j cs ++ (get_or cs j 0 ∷ [])) (part (suc i) j ls ++ (get_or ls j 0 ∷ [])) stays-i
      ∙ ap (λ (r : List Item). first_item ∷ r)
      (items_append (suc (at + i)) (part (suc i) j cs) (get_or cs j 0 ∷ []) (part (suc i) j ls) (get_or ls j 0 ∷ []) same_between
      ∙ ap (λ (r : List Item). items_between ++ r) last_alone)

  levels_from_to : levels (from_to first_item items_between last_item) ≡ kept (part i (suc j) cs) (part i (suc j) ls)
  levels_from_to = ap levels (sym items_of_part) ∙ levels_items (at + i) (part i (suc j) cs) (part i (suc j) ls) same_part

  abbrev items_ahead : List Item
  items_ahead = items at (take i cs) (take i ls)

  abbrev items_behind : List Item
  items_behind = items (at + i + length (part i (suc j) cs)) (drop (suc j) cs) (drop (suc j) ls)

  items_joined : items at cs ls ≡ items_ahead ++ (from_to first_item items_between last_item ++ items_behind)
  items_joined =
      let ahead : length (take i cs) ≡ i = length-take-le i cs (omega arith) in
      let ahead' : length (take i ls) ≡ i = length-take-le i ls (omega arith) in
      ap (λ (r : List ℕ). items at r ls) (sym (split_part i (suc j) cs (omega arith)))
      ∙ ap (items at (take i cs ++ (part i (suc j) cs ++ drop (suc j) cs))) (sym (split_part i (suc j) ls (omega arith)))
      ∙ items_append at (take i cs) (part i (suc j) cs ++ drop (suc j) cs) (take i ls) (part i (suc j) ls ++ drop (suc j) ls) (ahead ∙ sym ahead')
      ∙ ap (λ (k : ℕ). items_ahead ++ items (at + k) (part i (suc j) cs ++ drop (suc j) cs) (part i (suc j) ls ++ drop (suc j) ls)) ahead
      ∙ ap (λ (r : List Item). items_ahead ++ r)
      (items_append (at + i) (part i (suc j) cs) (drop (suc j) cs) (part i (suc j) ls) (drop (suc j) ls) same_part
      ∙ ap (λ (r : List Item). r ++ items_behind) items_of_part)

  pub spanned : Spanned (items at cs ls) (at + i) (at + j) (kept (part i (suc j) cs) (part i (suc j) ls))
  spanned =
      record {
        ahead = items_ahead;
        between = items_between;
        behind = items_behind;
        level_x = get_or ls i 0;
        level_y = get_or ls j 0;
        joined = items_joined;
        of_levels = levels_from_to;
      }
