-- Ticket 6: how many positions the passes of L2 reverse, a stretch of one counted as one, added over all passes.
use Rattle.std.specs.Prelude.{ℕ, zero, suc, ◌+◌, ◌-◌, ◌≡◌, false, List, [], ◌∷◌, leb, length, if◌then◌else◌}
use Rattle.laws.specs.Choice.{is_odd}
use Rattle.laws.specs.Any.{any_of}
use Rattle.laws.specs.Sums.{sum_of}
use Rattle.rules.specs.Line.{Item, levels_of, pass, highest, lowest_odd, line_kept}

-- one pass: the same walk as `pass`; where that puts down the stretch it holds, the stretch's length is counted
unfoldable pub pass_reverses : ℕ → List Item → List Item → ℕ
pass_reverses level stretch [] = length stretch
pass_reverses level stretch (x ∷ xs) =
    if leb level x.level then pass_reverses level (x ∷ stretch) xs else length stretch + pass_reverses level [] xs

-- the same passes as `passes`, and what each of them reverses, added up
unfoldable pub passes_reverse : ℕ → ℕ → List Item → ℕ
passes_reverse zero lowest xs = 0
passes_reverse (suc level) lowest xs =
    if leb lowest (suc level) then pass_reverses (suc level) [] xs + passes_reverse level lowest (pass (suc level) [] xs) else 0

-- all passes that L2 makes
unfoldable pub L2_reverses : List Item → ℕ
L2_reverses xs = passes_reverse (highest xs) (lowest_odd (suc (highest xs)) xs) xs

-- on one line, and on the lines with the given ends together
unfoldable pub line_reversed : ℕ → List ℕ → List ℕ → ℕ → ℕ → ℕ
line_reversed base cs ls from to = L2_reverses (line_kept base cs ls from to)

unfoldable pub all_reversed : ℕ → List ℕ → List ℕ → ℕ → List ℕ → ℕ
all_reversed base cs ls from [] = 0
all_reversed base cs ls from (to ∷ ends) = line_reversed base cs ls from to + all_reversed base cs ls to ends

-- ---- what the count comes to, with no pass in it

-- the sum over levels of the level less the lowest odd one plus 1, where that is positive (subtraction stops at 0)
unfoldable pub slots : ℕ → List ℕ → ℕ
slots lowest ls = sum_of (λ (l : ℕ). suc l - lowest) ls

-- n is the count of a line with these items: that sum over its kept positions, and 0 with no odd level
pub record Counted (xs : List Item) (n : ℕ) : Type 0 where
  pub sum : n ≡ slots (lowest_odd (suc (highest xs)) xs) (levels_of xs)
  pub none : any_of is_odd (levels_of xs) ≡ false → n ≡ 0

-- n is the sum of the counts of the lines with the given ends
abbrev pub EachCounted : ℕ → List ℕ → List ℕ → ℕ → List ℕ → ℕ → Type 0
EachCounted base cs ls from [] n = n ≡ 0
EachCounted base cs ls from (to ∷ ends) n =
    (here : ℕ) × (later : ℕ) × (n ≡ here + later) × Counted (line_kept base cs ls from to) here × EachCounted base cs ls to ends later
