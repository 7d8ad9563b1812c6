-- The order of one line: rules L1 and L2.
use Rattle.std.specs.Prelude.{ℕ, zero, suc, max, min, Bool, true, ◌||◌, ◌&&◌, List, [], ◌∷◌, ◌++◌, map, leb, if◌then◌else◌}
use Rattle.laws.specs.Parts.{part}
use Rattle.laws.specs.Choice.{is_odd}
use Rattle.rules.specs.Classes.{is_removed, is_separator, is_blank}

-- nothing but blanks (removed positions do not interrupt them) up to a separator or the line's end
unfoldable pub blank_ahead : List ℕ → Bool
blank_ahead [] = true
blank_ahead (c ∷ cs) = if is_removed c || is_blank c then blank_ahead cs else is_separator c

-- a level after the reset, given whether nothing but blanks comes between its position and a separator or the line's end
abbrev pub reset_level : ℕ → ℕ → ℕ → Bool → ℕ
reset_level base c l ahead = if is_separator c || (is_blank c && ahead) then base else l

-- L1: by original classes, separators and the blanks before a separator or the line's end go back to the base level
unfoldable pub L1 : ℕ → List ℕ → List ℕ → List ℕ
L1 base [] ls = []
L1 base (c ∷ cs) [] = []
L1 base (c ∷ cs) (l ∷ ls) = reset_level base c l (blank_ahead cs) ∷ L1 base cs ls

-- what is ordered: a position in memory, with its level on the line
pub record Item : Type 0 where
  pub position : ℕ
  pub level : ℕ

abbrev pub positions_of : List Item → List ℕ
positions_of xs = map (λ (x : Item). x.position) xs

abbrev pub levels_of : List Item → List ℕ
levels_of xs = map (λ (x : Item). x.level) xs

-- the kept positions of a line in memory order, the line's first position being `at`
unfoldable pub items : ℕ → List ℕ → List ℕ → List Item
items at [] ls = []
items at (c ∷ cs) [] = []
items at (c ∷ cs) (l ∷ ls) =
    if is_removed c then items (suc at) cs ls else record { position = at; level = l } ∷ items (suc at) cs ls

-- one pass: every longest stretch at that level or above is reversed. The stretch under way is held last first
unfoldable pub pass : ℕ → List Item → List Item → List Item
pass level stretch [] = stretch
pass level stretch (x ∷ xs) =
    if leb level x.level then pass level (x ∷ stretch) xs else stretch ++ (x ∷ pass level [] xs)

-- passes from one level down to another, one for each number, found on the line or not
unfoldable pub passes : ℕ → ℕ → List Item → List Item
passes zero lowest xs = xs
passes (suc level) lowest xs =
    if leb lowest (suc level) then passes level lowest (pass (suc level) [] xs) else xs

unfoldable pub highest : List Item → ℕ
highest [] = 0
highest (x ∷ xs) = max x.level (highest xs)

-- the lowest odd level, or the given number where there is none
unfoldable pub lowest_odd : ℕ → List Item → ℕ
lowest_odd otherwise [] = otherwise
lowest_odd otherwise (x ∷ xs) =
    if is_odd x.level then min x.level (lowest_odd otherwise xs) else lowest_odd otherwise xs

-- L2: from the highest level on the line down to the lowest odd one; with no odd level there is no pass
unfoldable pub L2 : List Item → List Item
L2 xs = passes (highest xs) (lowest_odd (suc (highest xs)) xs) xs

-- the levels of a line after its own reset
unfoldable pub line_levels : ℕ → List ℕ → List ℕ → ℕ → ℕ → List ℕ
line_levels base cs ls from to = L1 base (part from to cs) (part from to ls)

-- the kept positions of the line from one position up to, not including, another, with their levels on it
abbrev pub line_kept : ℕ → List ℕ → List ℕ → ℕ → ℕ → List Item
line_kept base cs ls from to = items from (part from to cs) (line_levels base cs ls from to)

-- the order of that line: positions from left to right
unfoldable pub line_order : ℕ → List ℕ → List ℕ → ℕ → ℕ → List ℕ
line_order base cs ls from to = positions_of (L2 (line_kept base cs ls from to))

-- the orders of the lines with the given ends, each following the last one's
unfoldable pub all_orders : ℕ → List ℕ → List ℕ → ℕ → List ℕ → List ℕ
all_orders base cs ls from [] = []
all_orders base cs ls from (to ∷ ends) = line_order base cs ls from to ++ all_orders base cs ls to ends
