-- The order of one line from its reset, its kept positions and the passes; and of all lines, one after the other.
-- Assumes nothing.
use Rattle.std.specs.Prelude.{if◌then◌else◌}
use Prim.Native.Nat.{ℕ, suc, ◌+◌, ◌-◌, ◌*◌, ◌≤◌, ◌<◌}
use native.Mathlib.Omega.{arith}
use mathlib.Core.Path.{◌≡◌, refl, sym, ap, subst, ◌∙◌}
use mathlib.Core.Bool.{Bool, true}
use mathlib.Core.List.{List, [], ◌∷◌, ◌++◌, append_assoc, append-nil}
use lib.ListN.{length, get_or, take, drop, length-append, length-drop, length-map, drop_of_length-le}
use lib.Seq.{take_at, drop_at, drop-drop, length-take-le, take_all, drop-length}
use borrow.Rule.Slice.PartMut.{put_mid, Post-is}
use Rattle.rules.specs.Classes.{is_removed}
use Rattle.laws.specs.Parts.{over, part}
use Rattle.rules.specs.Line.{Item, L1, L2, items, highest, lowest_odd, line_levels, line_kept, line_order, all_orders, positions_of, levels_of}
use Rattle.rules.specs.Refusals.{ends_rise_to}
use Rattle.rules.specs.Reversals.{L2_reverses, line_reversed, all_reversed, slots}
use Rattle.laws.proofs.Lists.{drop_next}
use Rattle.kept.specs.LaidOut.{LaidOut}
use Rattle.line.specs.Items.{line_items}
use Rattle.line.specs.Ordered.{Ordered}
use Rattle.line.specs.declared.Placed.{Placed}
use Rattle.level_range.specs.Levels.{at_levels}
use Rattle.reversal.specs.Passes.{passes_by}
use Rattle.laws.proofs.Filling.{Filled, filled_begun, filled_part, filled_ended}
use Rattle.reversal.proofs.ItemLaws.{passes_positions, highest_levels, lowest_odd_levels, L2_of_bytes, reverses_of_bytes}
use Rattle.rules.proofs.LineLaws.{length_L1, length_items, length_L2, length_positions, length_line_order}
use Rattle.rules.proofs.LowestLaws.{lowest_positive}
use Rattle.rules.proofs.ReversalLaws.{slots_none, reverses_most}
use Rattle.rules.proofs.EndLaws.{next_rises, rises_within}

-- the lowest odd level is odd, and so not 0; nor is what stands for none
pub lowest_some : {lowest : ℕ} (xs : List Item) → lowest ≡ lowest_odd 255 xs → 1 ≤ lowest
lowest_some xs is = omega (arith, is, lowest_positive 255 xs (omega arith))

-- levels past the line's classes make no item
items_same : (b : Bool) (x : Item) (xs ys : List Item) → xs ≡ ys → (if b then xs else x ∷ xs) ≡ (if b then ys else x ∷ ys)
items_same b x xs ys e = ap (λ (l : List Item). if b then l else x ∷ l) e

pub items_over : (at : ℕ) (cs ls more : List ℕ) → length ls ≡ length cs → items at cs (ls ++ more) ≡ items at cs ls
unfolding items
items_over at [] ls more h = refl
items_over at (c ∷ cs) [] more h = absurd (omega arith)
items_over at (c ∷ cs) (l ∷ ls) more h =
    items_same (is_removed c) (record { position = at; level = l }) (items (suc at) cs (ls ++ more)) (items (suc at) cs ls) (items_over (suc at) cs ls more (omega arith))

module _ (base from : ℕ) (cs ls work work₁ work₂ order order₂ : List ℕ) (r : ℕ) (same : length ls ≡ length cs) (reset : work₁ ≡ over (L1 base cs ls) work) (gathered : LaidOut (items from cs work₁) work₁ order r work₂ order₂) where
  line_items_are : items from cs work₁ ≡ line_items base from cs ls
  line_items_are = ap (items from cs) reset ∙ items_over from cs (L1 base cs ls) (drop (length (L1 base cs ls)) work) (length_L1 base cs ls same)

  line_gathered : LaidOut (line_items base from cs ls) work₁ order r work₂ order₂
  line_gathered = subst (λ (xs : List Item). LaidOut xs work₁ order r work₂ order₂) line_items_are gathered

  pub count_within : r ≤ length cs
  count_within = let n : length (items from cs work₁) ≤ length cs = length_items from cs work₁ in omega (arith, gathered.count)

  levels_length : length (levels_of (line_items base from cs ls)) ≡ r
  levels_length = length-map (line_items base from cs ls) (λ (x : Item). x.level) ∙ sym line_gathered.count

  line_levels_are : take r work₂ ≡ levels_of (line_items base from cs ls)
  line_levels_are =
      ap (take r) line_gathered.packed
      ∙ take_at (levels_of (line_items base from cs ls)) (drop (length (levels_of (line_items base from cs ls))) work₁) r levels_length

  -- no pass reaches a level above the highest, and then nothing is reversed
  pub none_reversed : (top lowest : ℕ) → top ≡ highest (at_levels (take r work₂)) → top < lowest → 0 ≡ slots lowest (take r work₂)
  none_reversed top lowest et below =
      let xs : List Item = line_items base from cs ls in
      let top-is : top ≡ highest xs = et ∙ ap (λ (l : List ℕ). highest (at_levels l)) line_levels_are ∙ highest_levels xs in
      sym (ap (slots lowest) line_levels_are ∙ slots_none lowest xs (omega arith))

  -- the highest level, the lowest odd one, the passes between them and what they reverse, over the levels of the kept positions
  pub line_ordered : (top lowest reversed : ℕ) (order₃ : List ℕ) → top < 256 → top ≡ highest (at_levels (take r work₂)) → lowest ≡ lowest_odd 255 (at_levels (take r work₂)) → order₃ ≡ passes_by top lowest (take r work₂) order₂ → reversed ≡ slots lowest (take r work₂) → Ordered (positions_of (L2 (line_items base from cs ls))) (L2_reverses (line_items base from cs ls)) order (record { count = r; reversed = reversed }) order₃
  line_ordered top lowest reversed order₃ byte et el eo er =
      let xs : List Item = line_items base from cs ls in
      let top-is : top ≡ highest xs = et ∙ ap (λ (l : List ℕ). highest (at_levels l)) line_levels_are ∙ highest_levels xs in
      let lowest-is : lowest ≡ lowest_odd 255 xs = el ∙ ap (λ (l : List ℕ). lowest_odd 255 (at_levels l)) line_levels_are ∙ lowest_odd_levels 255 xs in
      let many : length (positions_of (L2 xs)) ≡ length xs = length_positions (L2 xs) ∙ length_L2 xs in
      let long : length (positions_of (L2 xs)) ≡ length (positions_of xs) = many ∙ sym (length_positions xs) in
      let in_bytes : highest xs < 256 = subst (λ (n : ℕ). n < 256) top-is byte in
      record {
        placed = line_gathered.count ∙ sym many;
        reversed = er ∙ (λ j. slots (lowest-is j) (line_levels_are j)) ∙ reverses_of_bytes xs in_bytes;
        order = eo ∙ (λ j. passes_by (top-is j) (lowest-is j) (line_levels_are j) (line_gathered.placed j))
            ∙ passes_positions (highest xs) (lowest_odd 255 xs) xs (drop (length (positions_of xs)) order)
            ∙ ap (λ (ys : List Item). positions_of ys ++ drop (length (positions_of xs)) order) (L2_of_bytes xs in_bytes)
            ∙ ap (λ (n : ℕ). positions_of (L2 xs) ++ drop n order) (sym long);
        few = rw many (reverses_most 255 xs (omega arith));
      }

-- a line of a paragraph is the line with its own parts of the classes and levels
pub ordered_of_parts : (base from to : ℕ) (cs ls entry : List ℕ) (r : Placed) (exit : List ℕ) → Ordered (positions_of (L2 (line_items base from (take (to - from) (drop from cs)) (take (to - from) (drop from ls))))) (L2_reverses (line_items base from (take (to - from) (drop from cs)) (take (to - from) (drop from ls)))) entry r exit → Ordered (line_order base cs ls from to) (line_reversed base cs ls from to) entry r exit
unfolding line_order line_reversed line_levels part
ordered_of_parts base from to cs ls entry r exit o = o

pub length_part : (from to : ℕ) (cs : List ℕ) → to ≤ length cs → length (take (to - from) (drop from cs)) ≡ to - from
length_part from to cs h = length-take-le (to - from) (drop from cs) (simp length-drop (omega arith))

pub order_within : (base : ℕ) (cs ls : List ℕ) (from to : ℕ) → to ≤ length cs → length (line_order base cs ls from to) ≤ to - from
unfolding part
order_within base cs ls from to h =
    let n : length (line_kept base cs ls from to) ≤ length (part from to cs) = length_items from (part from to cs) (line_levels base cs ls from to) in
    omega (arith, length_line_order base cs ls from to, length_part from to cs h)

-- the lines before number i are ordered, `from` being where line i begins
pub record Lines (base : ℕ) (cs ls ends order₀ order : List ℕ) (from count reversed i : ℕ) : Type 0 where
  pub within : i ≤ length ends
  pub behind : count ≤ from
  pub inside : from ≤ length cs
  pub rises : ends_rise_to from (drop i ends) (length cs) ≡ true
  pub filled : Filled (all_orders base cs ls 0 ends) order₀ order count (all_orders base cs ls from (drop i ends))
  pub added : reversed + all_reversed base cs ls from (drop i ends) ≡ all_reversed base cs ls 0 ends
  pub few : reversed ≤ 255 * count

pub lines_begun : (base : ℕ) (cs ls ends order : List ℕ) → ends_rise_to 0 ends (length cs) ≡ true → Lines base cs ls ends order order 0 0 0 0
lines_begun base cs ls ends order r = record {
  within = omega arith;
  behind = omega arith;
  inside = omega arith;
  rises = r;
  filled = filled_begun (all_orders base cs ls 0 ends) order;
  added = omega arith;
  few = omega arith;
}

module _ {base : ℕ} {cs ls ends order₀ order : List ℕ} {from count reversed i : ℕ} (l : Lines base cs ls ends order₀ order from count reversed i) where
  module _ (h : i < length ends) {to : ℕ} (end : to ≡ get_or ends i 0) where
    ends_next : drop i ends ≡ to ∷ drop (i + 1) ends
    ends_next = drop_next ends i h ∙ ap (λ (n : ℕ). n ∷ drop (i + 1) ends) (sym end)

    rises_next : (from < to) × (ends_rise_to to (drop (i + 1) ends) (length cs) ≡ true)
    rises_next = next_rises from to (drop (i + 1) ends) (length cs) (subst (λ (es : List ℕ). ends_rise_to from es (length cs) ≡ true) ends_next l.rises)

    -- the next line, where it begins and ends
    pub next_line : (from < to) × (to ≤ length cs)
    next_line = (rises_next.0, rises_within to (drop (i + 1) ends) (length cs) rises_next.1)

    orders_next : all_orders base cs ls from (drop i ends) ≡ line_order base cs ls from to ++ all_orders base cs ls to (drop (i + 1) ends)
    unfolding all_orders
    orders_next = ap (all_orders base cs ls from) ends_next

    reversed_next : all_reversed base cs ls from (drop i ends) ≡ line_reversed base cs ls from to + all_reversed base cs ls to (drop (i + 1) ends)
    unfolding all_reversed
    reversed_next = ap (all_reversed base cs ls from) ends_next

    -- the call is lent the places from count on
    lent_is : take (length order - count) (drop count order) ≡ drop count order
    lent_is = take_all (length order - count) (drop count order) (simp length-drop (omega arith))

    pub lent_room : length cs ≤ length order₀ → to - from ≤ length (take (length order - count) (drop count order))
    lent_room room =
        let n : length (take (length order - count) (drop count order)) ≡ length order - count = ap length lent_is ∙ length-drop count order in
        let m : length order ≡ length order₀ = l.filled.long in
        let b : count ≤ from = l.behind in
        let w = next_line in
        omega arith

    -- and so many of them are written, which leaves room for the lines to come
    count_next : (base' r : ℕ) → r ≡ length (line_order base' cs ls from to) → count + r ≤ to
    count_next base' r n =
        let w = next_line in
        let b : count ≤ from = l.behind in
        let long : length (line_order base' cs ls from to) ≤ to - from = order_within base' cs ls from to w.1 in
        omega arith

    -- and few enough are reversed that their number fits
    pub sums_fit : (base' : ℕ) {entry exit : List ℕ} {placed : Placed} → Ordered (line_order base' cs ls from to) (line_reversed base' cs ls from to) entry placed exit → (count + placed.count ≤ to) × (reversed ≤ 255 * to) × (reversed + placed.reversed ≤ 255 * to)
    sums_fit base' {placed = placed} o =
        let n : count + placed.count ≤ to = count_next base' placed.count o.placed in
        (n, omega (arith, l.few), omega (arith, l.few, o.few, o.reversed, o.placed))

    pub lines_next : {placed : Placed} {part' : List ℕ} → length cs ≤ length order₀ → Ordered (line_order base cs ls from to) (line_reversed base cs ls from to) (take (length order - count) (drop count order)) placed part' → Lines base cs ls ends order₀ (put_mid count (length order - count) order part') to (count + placed.count) (reversed + placed.reversed) (i + 1)
    lines_next {placed} {part'} room o =
        let order' : List ℕ = put_mid count (length order - count) order part' in
        let w = next_line in
        let r : ℕ = placed.count in
        let m : length order ≡ length order₀ = l.filled.long in
        let n : r ≡ length (line_order base cs ls from to) = o.placed in
        let within : count + r ≤ to = count_next base r n in
        let line : List ℕ = line_order base cs ls from to in
        let part-is : part' ≡ line ++ drop (count + r) order =
        o.order ∙ ap (λ (x : List ℕ). line ++ drop (length line) x) lent_is ∙ ap (λ (x : List ℕ). line ++ x) (drop-drop (length line) count order)
        ∙ ap (λ (x : ℕ). line ++ drop (count + x) order) (sym n) in
        let order_is : order' ≡ (take count order ++ line) ++ drop (count + r) order =
        ap (λ (x : List ℕ). take count order ++ (part' ++ x)) (Post-is count (length order) order (omega (arith, l.behind)) ∙ drop-length order)
        ∙ ap (λ (x : List ℕ). take count order ++ x) (append-nil part' ∙ part-is)
        ∙ sym (append_assoc (take count order) line (drop (count + r) order)) in
        let front : length (take count order ++ line) ≡ count + r =
        length-append (take count order) line ∙ (λ j. length-take-le count order (omega (arith, l.behind)) j + sym n j) in
        record {
          within = omega arith;
          behind = within;
          inside = w.1;
          rises = rises_next.1;
          filled = filled_part (all_orders base cs ls 0 ends) order₀ order count order' line (all_orders base cs ls to (drop (i + 1) ends)) (count + r)
              (ap length order_is ∙ length-append (take count order ++ line) (drop (count + r) order) ∙ (λ j. front j + length-drop (count + r) order j) ∙ omega arith)
              (ap (take (count + r)) order_is ∙ take_at (take count order ++ line) (drop (count + r) order) (count + r) front)
              (ap (drop (count + r)) order_is ∙ drop_at (take count order ++ line) (drop (count + r) order) (count + r) front)
              (omega arith) (subst (Filled (all_orders base cs ls 0 ends) order₀ order count) orders_next l.filled);
          added = omega (arith, o.reversed, l.added, reversed_next);
          few = omega (arith, o.reversed, o.few, l.few, n);
        }

  pub lines_ended : length cs ≤ length order₀ → length ends ≤ i → Ordered (all_orders base cs ls 0 ends) (all_reversed base cs ls 0 ends) order₀ (record { count = count; reversed = reversed }) order
  unfolding all_orders all_reversed
  lines_ended room h =
      let m : length order ≡ length order₀ = l.filled.long in
      let d = filled_ended (all_orders base cs ls 0 ends) order₀ order count (omega (arith, l.behind, l.inside))
      (subst (λ (es : List ℕ). Filled (all_orders base cs ls 0 ends) order₀ order count (all_orders base cs ls from es)) (drop_of_length-le ends h) l.filled) in
      let none : all_reversed base cs ls from (drop i ends) ≡ 0 = ap (all_reversed base cs ls from) (drop_of_length-le ends h) in
      let all : reversed ≡ all_reversed base cs ls 0 ends = omega (arith, l.added) in
      record { placed = d.1; reversed = all; order = d.0; few = omega (arith, l.few, d.1) }
