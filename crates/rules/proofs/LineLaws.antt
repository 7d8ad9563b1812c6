-- What the rules of a line keep. Assumes nothing.
use Rattle.std.specs.Prelude.{if◌then◌else◌}
use Prim.Native.Nat.{ℕ, suc, ◌≤◌}
use native.Mathlib.Omega.{arith}
use mathlib.Core.Path.{◌≡◌, refl, sym, ap, ◌∙◌}
use mathlib.Core.Bool.{Bool, true, false}
use mathlib.Core.List.{List, [], ◌∷◌}
use lib.ListN.{length, length-map}
use Rattle.laws.proofs.SumLaws.{sum_ones}
use Rattle.rules.specs.Classes.{is_removed}
use Rattle.rules.specs.Line.{Item, L1, L2, items, passes, highest, lowest_odd, positions_of, line_kept, line_order}
use Rattle.rules.proofs.PassLaws.{sum_passes}

-- the reset has a level for each position
pub length_L1 : (base : ℕ) (cs ls : List ℕ) → length ls ≡ length cs → length (L1 base cs ls) ≡ length cs
unfolding L1
length_L1 base [] ls h = refl
length_L1 base (c ∷ cs) [] h = h
length_L1 base (c ∷ cs) (l ∷ ls) h = ap suc (length_L1 base cs ls (omega arith))

-- how many items there are

items_if : (b : Bool) (x : Item) (xs : List Item) (n : ℕ) → length xs ≤ n → length (if b then xs else x ∷ xs) ≤ suc n
items_if true x xs n h = omega arith
items_if false x xs n h = omega arith

pub length_items : (at : ℕ) (cs ls : List ℕ) → length (items at cs ls) ≤ length cs
unfolding items
length_items at [] ls = omega arith
length_items at (c ∷ cs) [] = omega arith
length_items at (c ∷ cs) (l ∷ ls) =
    items_if (is_removed c) (record { position = at; level = l }) (items (suc at) cs ls) (length cs) (length_items (suc at) cs ls)

pub length_passes : (level lowest : ℕ) (xs : List Item) → length (passes level lowest xs) ≡ length xs
length_passes level lowest xs = sym (sum_ones (passes level lowest xs)) ∙ sum_passes (λ (x : Item). 1) level lowest xs ∙ sum_ones xs

pub length_L2 : (xs : List Item) → length (L2 xs) ≡ length xs
unfolding L2
length_L2 xs = length_passes (highest xs) (lowest_odd (suc (highest xs)) xs) xs

pub length_positions : (xs : List Item) → length (positions_of xs) ≡ length xs
length_positions xs = length-map xs (λ (x : Item). x.position)

pub length_line_order : (base : ℕ) (cs ls : List ℕ) (from to : ℕ) → length (line_order base cs ls from to) ≡ length (line_kept base cs ls from to)
unfolding line_order
length_line_order base cs ls from to =
    length_positions (L2 (line_kept base cs ls from to)) ∙ length_L2 (line_kept base cs ls from to)
