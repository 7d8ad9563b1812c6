-- What is read off a list of levels: the highest, the lowest and the lowest odd, each as a fold from the front.
-- Assumes nothing.
use Rattle.std.proofs.Common.{◌≡◌, ℕ, ◌≤◌, max, min, Bool, true, false, List, [], ◌∷◌, if◌then◌else◌, refl, ◌∙◌, arith}
use Rattle.std.specs.List.{fold}
use Rattle.laws.specs.Choice.{is_odd}
use Rattle.rules.specs.Line.{highest, lowest_odd}
use Rattle.level_range.specs.Levels.{at_levels, lowest}

highest_above : (a : ℕ) (ls : List ℕ) → fold max a ls ≡ max a (highest (at_levels ls))
unfolding highest
highest_above a [] = omega arith
highest_above a (l ∷ ls) = let rest : fold max (max a l) ls ≡ max (max a l) (highest (at_levels ls)) = highest_above (max a l) ls in omega arith

pub highest_folded : (ls : List ℕ) → fold max 0 ls ≡ highest (at_levels ls)
highest_folded ls = omega (arith, highest_above 0 ls)

lowest_min : (a none : ℕ) (ls : List ℕ) → lowest (min none a) ls ≡ min a (lowest none ls)
unfolding lowest
lowest_min a none [] = omega arith
lowest_min a none (l ∷ ls) = let rest : lowest (min none a) ls ≡ min a (lowest none ls) = lowest_min a none ls in omega arith

pub lowest_folded : (none : ℕ) (ls : List ℕ) → fold min none ls ≡ lowest none ls
unfolding lowest
lowest_folded none [] = refl
lowest_folded none (l ∷ ls) = lowest_folded (min none l) ls ∙ lowest_min l none ls

-- an odd level counts as itself, and an even one as 255, which is no lower than any byte
odd_if : (b : Bool) (l a low : ℕ) → a ≤ 255 → min (min a (if b then l else 255)) low ≡ min a (if b then min l low else low)
odd_if true l a low h = omega arith
odd_if false l a low h = omega arith

odd_below : (a : ℕ) (ls : List ℕ) → a ≤ 255 → fold (λ b l. min b (if is_odd l then l else 255)) a ls ≡ min a (lowest_odd 255 (at_levels ls))
unfolding lowest_odd
odd_below a [] h = omega arith
odd_below a (l ∷ ls) h = odd_below (min a (if is_odd l then l else 255)) ls (omega arith) ∙ odd_if (is_odd l) l a (lowest_odd 255 (at_levels ls)) h

odd_most : (ls : List ℕ) → lowest_odd 255 (at_levels ls) ≤ 255
unfolding lowest_odd
odd_most [] = omega arith
odd_most (l ∷ ls) = most_if (is_odd l) l (lowest_odd 255 (at_levels ls)) (odd_most ls)
  where
    most_if : (b : Bool) (l low : ℕ) → low ≤ 255 → (if b then min l low else low) ≤ 255
    most_if true l low h = omega arith
    most_if false l low h = h

pub odd_folded : (ls : List ℕ) → fold (λ b l. min b (if is_odd l then l else 255)) 255 ls ≡ lowest_odd 255 (at_levels ls)
odd_folded ls = omega (arith, odd_below 255 ls (omega arith), odd_most ls)
