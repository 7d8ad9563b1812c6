-- Demand 3 holds of every line: what L2 makes of a line's items displays each kept position once and no other, and of
-- two the earlier to the left exactly where the smallest level from one to the other is even.
-- Assumes nothing.
use Prim.Native.Nat.{ℕ, suc, ◌+◌, ◌-◌, ◌≤◌, ◌<◌}
use native.Mathlib.Omega.{arith}
use mathlib.Core.Bool.{true, false}
use mathlib.Core.Path.{◌≡◌, refl, sym, ap, subst₂, ◌∙◌}
use mathlib.Core.Logic.{◌↔◌}
use mathlib.Core.List.{List}
use lib.ListN.{length, get_or}
use Rattle.laws.specs.Choice.{is_odd}
use Rattle.rules.specs.Classes.{is_removed}
use Rattle.rules.specs.Explicit.{kept}
use Rattle.laws.specs.Parts.{part}
use Rattle.rules.proofs.LineLaws.{length_L1}
use Rattle.rules.specs.Line.{Item, L1, items, L2, line_levels, line_order}
use Rattle.laws.proofs.Passes.{by_test}
use Rattle.pairwise.specs.Demand3.{least, OnLine, least_between, Displayed}
use Rattle.pairwise.proofs.Count.{count, stands_at}
use Rattle.pairwise.proofs.Sides.{Left}
use Rattle.pairwise.proofs.Least.{levels}
use Rattle.pairwise.proofs.Pairs.{from_to, count_L2, even_left, odd_right}
use Rattle.pairwise.proofs.Places.{places, At, counted, place, one_place, left_is_lower}
use Rattle.laws.proofs.Lists.{length_part}
use Rattle.pairwise.proofs.Parts.{get_d_part, part_part}
use Rattle.pairwise.proofs.LineItems.{kept_counted, counted_once, counted_kept, item, Spanned, spanned}

-- a line with any levels, one for each of its positions
module _ (cs ls : List ℕ) (from to : ℕ) (up : from ≤ to) (within : to ≤ length cs) (long : length ls ≡ to - from) where
  abbrev classes : List ℕ
  classes = part from to cs

  abbrev arranged : List Item
  arranged = L2 (items from classes ls)

  same : length classes ≡ length ls
  same = length_part cs from to within ∙ sym long

  stays_on_line : (i : ℕ) → i < to - from → is_removed (get_or classes i 0) ≡ is_removed (get_or cs (from + i) 0)
  stays_on_line i inside = ap is_removed (get_d_part from to cs i inside)

  on_line : (z : ℕ) → 1 ≤ count (stands_at z) arranged → OnLine cs from to z
  on_line z some = go (counted_kept z from classes ls same (omega (arith, count_L2 (stands_at z) (items from classes ls))))
    where
      go : (i : ℕ) × (z ≡ from + i) × (i < length classes) × (is_removed (get_or classes i 0) ≡ false) → OnLine cs from to z
      go (i, is, inside, stays) =
          let below : i < to - from = omega (arith, same) in
          record {
            begun = omega arith;
            before = omega arith;
            stays = ap (λ (k : ℕ). is_removed (get_or cs k 0)) is ∙ sym (stays_on_line i below) ∙ stays;
          }

  inside : (z : ℕ) → OnLine cs from to z → z - from < to - from
  inside z on = omega arith

  stays_inside : (z : ℕ) → OnLine cs from to z → is_removed (get_or classes (z - from) 0) ≡ false
  stays_inside z on =
      let there : from + (z - from) ≡ z = omega arith in
      stays_on_line (z - from) (inside z on) ∙ ap (λ (k : ℕ). is_removed (get_or cs k 0)) there ∙ on.stays

  shown : (z : ℕ) → OnLine cs from to z → 1 ≤ count (stands_at z) arranged
  shown z on =
      omega (arith, count_L2 (stands_at z) (items from classes ls), kept_counted z from (z - from) classes ls same (omega arith) (omega (arith, same, long)) (stays_inside z on))

  single : (z : ℕ) → count (stands_at z) arranged ≤ 1
  single z = omega (arith, count_L2 (stands_at z) (items from classes ls), counted_once z from classes ls same)

  -- two kept positions
  module _ (x y : ℕ) (on-x : OnLine cs from to x) (on-y : OnLine cs from to y) (less : x < y) where
    abbrev levels_between : List ℕ
    levels_between = kept (part (x - from) (suc (y - from)) classes) (part (x - from) (suc (y - from)) ls)

    between : least_between cs ls from x y ≡ least levels_between
    unfolding least_between
    between =
        let at_x : x ≡ from + (x - from) = omega arith in
        let at_y : suc y ≡ from + suc (y - from) = omega arith in
        let past-y : suc y - from ≡ suc (y - from) = omega arith in
        ap (λ (k : ℕ). least (kept (part x (suc y) cs) (part (x - from) k ls))) past-y
        ∙ ap (λ (r : List ℕ). least (kept r (part (x - from) (suc (y - from)) ls)))
        (ap (λ (k : ℕ). part k (suc y) cs) at_x
        ∙ ap (λ (k : ℕ). part (from + (x - from)) k cs) at_y
        ∙ sym (part_part from to (x - from) (suc (y - from)) cs (omega arith) (inside y on-y)))

    span : Spanned (items from classes ls) x y levels_between
    span =
        let at_x : from + (x - from) ≡ x = omega arith in
        let at_y : from + (y - from) ≡ y = omega arith in
        subst₂ (λ (a b : ℕ). Spanned (items from classes ls) a b levels_between) at_x at_y
        (spanned from classes ls same (x - from) (y - from) (omega arith) (omega (arith, same, long)) (stays_inside x on-x) (stays_inside y on-y))

    smallest : least_between cs ls from x y ≡ least (levels (from_to (item x span.level_x) span.between (item y span.level_y)))
    smallest = between ∙ ap least (sym span.of_levels)

    even_first : is_odd (least_between cs ls from x y) ≡ false → Left x y arranged
    even_first even = even_left (items from classes ls) span.ahead (item x span.level_x) span.between (item y span.level_y) span.behind span.joined (least_between cs ls from x y) smallest even

    odd_last : is_odd (least_between cs ls from x y) ≡ true → Left y x arranged
    odd_last odd = odd_right (items from classes ls) span.ahead (item x span.level_x) span.between (item y span.level_y) span.behind span.joined (least_between cs ls from x y) smallest odd

    sides : (p q : ℕ) → At (places arranged) x p → At (places arranged) y q → (p < q) ↔ (is_odd (least_between cs ls from x y) ≡ false)
    sides p q at_p at-q = (
      λ left.
          by_test (is_odd (least_between cs ls from x y))
          (λ odd. absurd (omega (arith, left_is_lower y x arranged (single y) (single x) (odd_last odd) q p at-q at_p)))
          (λ even. even),
      λ even. left_is_lower x y arranged (single x) (single y) (even_first even) p q at_p at-q,
    )

  shows_only : (p : ℕ) → p < length (places arranged) → OnLine cs from to (get_or (places arranged) p 0)
  shows_only p there = on_line (get_or (places arranged) p 0) (counted (get_or (places arranged) p 0) arranged p (there, refl))

  pub displayed : Displayed cs ls (places arranged) from to
  displayed =
      record {
        placed = λ x on. let found : (p : ℕ) × (At (places arranged) x p) = place x arranged (shown x on) in (found.0, found.1.0, found.1.1);
        once = λ p q there-p there-q e. one_place (get_or (places arranged) q 0) arranged (single (get_or (places arranged) q 0)) p q (there-p, e) (there-q, refl);
        only = shows_only;
        pairs = λ p q there-p there-q less. sides (get_or (places arranged) p 0) (get_or (places arranged) q 0) (shows_only p there-p) (shows_only q there-q) less p q (there-p, refl) (there-q, refl);
      }

-- ---- The line's own levels

pub demand3 : (base : ℕ) (cs ls : List ℕ) (from to : ℕ) → from ≤ to → to ≤ length cs → length cs ≤ length ls → Displayed cs (line_levels base cs ls from to) (line_order base cs ls from to) from to
unfolding line_levels line_order
demand3 base cs ls from to up within room =
    let classes : length (part from to cs) ≡ to - from = length_part cs from to within in
    let levels : length (part from to ls) ≡ to - from = length_part ls from to (omega arith) in
    displayed cs (L1 base (part from to cs) (part from to ls)) from to up within
    (length_L1 base (part from to cs) (part from to ls) (levels ∙ sym classes) ∙ classes)
