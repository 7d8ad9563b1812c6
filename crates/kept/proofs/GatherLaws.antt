-- The items of a line, one position at a time, and the two buffers that are filled with them; and all at once where
-- nothing is removed.
-- Assumes nothing.
use Rattle.std.specs.Prelude.{if◌then◌else◌}
use Prim.Native.Nat.{ℕ, suc, ◌+◌, ◌-◌, ◌≤◌, ◌<◌}
use native.Mathlib.Omega.{arith}
use Rattle.std.proofs.Common.{add-zero}
use mathlib.Core.Path.{◌≡◌, refl, sym, ap, ◌∙◌}
use mathlib.Core.Bool.{true, false}
use mathlib.Core.List.{List, [], ◌∷◌, ◌++◌}
use lib.ListN.{length, get_or, take, drop, set, length-map, take-append-drop, drop_of_length-le}
use lib.Seq.{length-take-le}
use Rattle.laws.specs.Choice.{up_from}
use Rattle.rules.specs.Classes.{is_removed}
use Rattle.laws.specs.Parts.{over}
use Rattle.rules.specs.Line.{Item, items, positions_of, levels_of}
use Rattle.laws.specs.Any.{any_of}
use Rattle.laws.proofs.Any.{none_first}
use Rattle.laws.proofs.Lists.{drop_next}
use Rattle.kept.specs.LaidOut.{LaidOut}
use Rattle.laws.proofs.Filling.{Filled, filled_from, filled_reads, filled_more, filled_count, filled_all}

-- the item at a place of the line
abbrev pub item_at : ℕ → List ℕ → ℕ → Item
item_at from ls i = record { position = from + i; level = get_or ls i 0 }

-- the items from place i of the line on
abbrev pub items_from : ℕ → List ℕ → List ℕ → ℕ → List Item
items_from from cs ls i = items (from + i) (drop i cs) (drop i ls)

items_at : (from : ℕ) (cs ls : List ℕ) (i : ℕ) → i < length cs → i < length ls → items_from from cs ls i ≡ (if is_removed (get_or cs i 0) then items_from from cs ls (i + 1) else item_at from ls i ∷ items_from from cs ls (i + 1))
unfolding items
items_at from cs ls i h g =
    let e : suc (from + i) ≡ from + (i + 1) = omega arith in
    (λ j. items (from + i) (drop_next cs i h j) (drop_next ls i g j))
    ∙ ap (λ (n : ℕ). if is_removed (get_or cs i 0) then items n (drop (i + 1) cs) (drop (i + 1) ls) else item_at from ls i ∷ items n (drop (i + 1) cs) (drop (i + 1) ls)) e

items_none : (from : ℕ) (cs ls : List ℕ) (i : ℕ) → length cs ≤ i → items_from from cs ls i ≡ []
unfolding items
items_none from cs ls i h = rw (drop_of_length-le cs h)

-- the positions before i are gathered, k of them kept
pub record Gathering (from : ℕ) (cs ls₀ order₀ ls order : List ℕ) (i k : ℕ) : Type 0 where
  pub behind : k ≤ i
  pub packed : Filled (levels_of (items from cs ls₀)) ls₀ ls k (levels_of (items_from from cs ls₀ i))
  pub placed : Filled (positions_of (items from cs ls₀)) order₀ order k (positions_of (items_from from cs ls₀ i))

pub begun : (from : ℕ) (cs ls order : List ℕ) → Gathering from cs ls order ls order 0 0
begun from cs ls order = record { behind = omega arith; packed = filled_from ls (rw add-zero); placed = filled_from order (rw add-zero) }

module _ (from : ℕ) (cs ls₀ order₀ ls order : List ℕ) (i k : ℕ) (lr : length cs ≤ length ls₀) (or : length cs ≤ length order₀) (g : Gathering from cs ls₀ order₀ ls order i k) where
  pub passed_over : i < length cs → is_removed (get_or cs i 0) ≡ true → Gathering from cs ls₀ order₀ ls order (i + 1) k
  passed_over h e =
      let same : items_from from cs ls₀ i ≡ items_from from cs ls₀ (i + 1) = items_at from cs ls₀ i h (omega arith) ∙ simp e in
      record { behind = omega (arith, g.behind); packed = rw same at g.packed; placed = rw same at g.placed }

  pub taken_up : i < length cs → is_removed (get_or cs i 0) ≡ false → Gathering from cs ls₀ order₀ (set ls k (get_or ls i 0)) (set order k (from + i)) (i + 1) (k + 1)
  taken_up h e =
      let same : items_from from cs ls₀ i ≡ item_at from ls₀ i ∷ items_from from cs ls₀ (i + 1) = items_at from cs ls₀ i h (omega arith) ∙ simp e in
      record {
        behind = omega (arith, g.behind);
        packed = rw (filled_reads _ ls₀ ls k _ i g.behind g.packed) (filled_more (ap levels_of same) (omega (arith, g.behind)) g.packed);
        placed = filled_more (ap positions_of same) (omega (arith, g.behind)) g.placed;
      }

  pub ended : length cs ≤ i → i ≤ length cs → LaidOut (items from cs ls₀) ls₀ order₀ k ls order
  ended h w =
      let none : items_from from cs ls₀ i ≡ [] = items_none from cs ls₀ i h in
      record {
        count = filled_count g.packed (ap levels_of none) (omega (arith, g.behind)) ∙ length-map (items from cs ls₀) (λ (x : Item). x.level);
        packed = filled_all g.packed (ap levels_of none) (omega (arith, g.behind));
        placed = filled_all g.placed (ap positions_of none) (omega (arith, g.behind));
      }

-- the places before i hold positions in a row
abbrev pub Numbered : ℕ → ℕ → List ℕ → List ℕ → ℕ → Type 0
Numbered from count order₀ order i = Filled (up_from from count) order₀ order i (up_from (from + i) (count - i))

module _ (from count : ℕ) where
  pub number_begun : (order : List ℕ) → Numbered from count order order 0
  number_begun order = let all : count - 0 ≡ count = omega arith in filled_from order (rw (add-zero, all))

  pub number_next : (order₀ order : List ℕ) (i : ℕ) → count ≤ length order₀ → i < count → Numbered from count order₀ order i → Numbered from count order₀ (set order i (from + i)) (i + 1)
  unfolding up_from
  number_next order₀ order i room h n =
      let left : count - i ≡ suc (count - (i + 1)) = omega arith in
      let further : suc (from + i) ≡ from + (i + 1) = omega arith in
      filled_more (rw (left, further)) (omega arith) n

  pub number_ended : (order₀ order : List ℕ) (i : ℕ) → count ≤ length order₀ → count ≤ i → i ≤ count → Numbered from count order₀ order i → order ≡ over (up_from from count) order₀
  unfolding up_from
  number_ended order₀ order i room h w n =
      let left : count - i ≡ 0 = omega arith in
      filled_all n (rw left) (omega arith)

-- where nothing is removed every position is kept, with its level
all_positions : (at : ℕ) (cs ls : List ℕ) → any_of is_removed cs ≡ false → length cs ≤ length ls → positions_of (items at cs ls) ≡ up_from at (length cs)
unfolding items up_from
all_positions at [] ls none h = refl
all_positions at (c ∷ cs) [] none h = absurd (omega arith)
all_positions at (c ∷ cs) (l ∷ ls) none h =
    let first = none_first is_removed c cs none in
    let rest : positions_of (items (suc at) cs ls) ≡ up_from (suc at) (length cs) = all_positions (suc at) cs ls first.1 (omega arith) in
    simp first.0 (ap (λ (r : List ℕ). at ∷ r) rest)

all_levels : (at : ℕ) (cs ls : List ℕ) → any_of is_removed cs ≡ false → length cs ≤ length ls → levels_of (items at cs ls) ≡ take (length cs) ls
unfolding items
all_levels at [] ls none h = refl
all_levels at (c ∷ cs) [] none h = absurd (omega arith)
all_levels at (c ∷ cs) (l ∷ ls) none h =
    let first = none_first is_removed c cs none in
    let rest : levels_of (items (suc at) cs ls) ≡ take (length cs) ls = all_levels (suc at) cs ls first.1 (omega arith) in
    simp first.0 (ap (λ (r : List ℕ). l ∷ r) rest)

pub all_gathered : (from : ℕ) (cs ls order order' : List ℕ) → length cs ≤ length ls → any_of is_removed cs ≡ false → order' ≡ over (up_from from (length cs)) order → LaidOut (items from cs ls) ls order (length cs) ls order'
all_gathered from cs ls order order' h none e =
    let levels : levels_of (items from cs ls) ≡ take (length cs) ls = all_levels from cs ls none h in
    let long : length (take (length cs) ls) ≡ length cs = length-take-le (length cs) ls h in
    record {
      count = sym (sym (length-map (items from cs ls) (λ (x : Item). x.level)) ∙ ap length levels ∙ long);
      packed = sym (ap (λ (l : List ℕ). over l ls) levels ∙ ap (λ (n : ℕ). take (length cs) ls ++ drop n ls) long ∙ take-append-drop (length cs) ls);
      placed = e ∙ ap (λ (l : List ℕ). over l order) (sym (all_positions from cs ls none h));
    }
