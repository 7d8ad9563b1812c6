-- Demand 3: on one line, of any two kept positions the one earlier in memory is displayed to the left of the later
-- exactly when the smallest level on kept positions from one to the other, both counted, is even. Each kept position
-- is displayed once, no other is. Levels are the line's own, after its reset, and have no bound.
use Rattle.std.specs.Prelude.{ℕ, suc, ◌-◌, ◌≤◌, ◌<◌, min, ◌≡◌, ◌↔◌, false, List, [], ◌∷◌, length, get_or, take, drop}
use Rattle.laws.specs.Choice.{is_odd}
use Rattle.rules.specs.Classes.{is_removed}
use Rattle.rules.specs.Explicit.{kept}
use Rattle.laws.specs.Parts.{part}
use Rattle.rules.specs.Line.{line_levels}

-- the smallest of a list that is not empty, and 0 where there is none
unfoldable pub least : List ℕ → ℕ
least [] = 0
least (x ∷ []) = x
least (x ∷ y ∷ ys) = min x (least (y ∷ ys))

-- a kept position of the line from one position up to, not including, another
pub record OnLine (cs : List ℕ) (from to x : ℕ) : Type 0 where
  pub begun : from ≤ x
  pub before : x < to
  pub stays : is_removed (get_or cs x 0) ≡ false

-- the smallest level on kept positions from x to y, both counted; the line's first level is that of position `from`
unfoldable pub least_between : List ℕ → List ℕ → ℕ → ℕ → ℕ → ℕ
least_between cs levels from x y = least (kept (part x (suc y) cs) (part (x - from) (suc y - from) levels))

-- `order` displays the line: it holds positions from left to right
pub record Displayed (cs levels order : List ℕ) (from to : ℕ) : Type 0 where
  pub placed : (x : ℕ) → OnLine cs from to x → (p : ℕ) × (p < length order) × (get_or order p 0 ≡ x)
  pub once : (p q : ℕ) → p < length order → q < length order → get_or order p 0 ≡ get_or order q 0 → p ≡ q
  pub only : (p : ℕ) → p < length order → OnLine cs from to (get_or order p 0)
  pub pairs : (p q : ℕ) → p < length order → q < length order → get_or order p 0 < get_or order q 0 → (p < q) ↔ (is_odd (least_between cs levels from (get_or order p 0) (get_or order q 0)) ≡ false)

-- `order` is the orders of the lines with the given ends, one after the other, and each displays its line
abbrev pub EachDisplayed : ℕ → List ℕ → List ℕ → ℕ → List ℕ → List ℕ → Type 0
EachDisplayed base cs ls from [] order = order ≡ []
EachDisplayed base cs ls from (to ∷ ends) order =
    (n : ℕ) × Displayed cs (line_levels base cs ls from to) (take n order) from to × EachDisplayed base cs ls to ends (drop n order)
