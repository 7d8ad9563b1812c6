-- Levels by themselves, where the rules speak of items.
use Rattle.std.specs.Prelude.{ℕ, min, List, [], ◌∷◌, map}
use Rattle.rules.specs.Line.{Item}

-- items at the given levels, whatever their positions
abbrev pub at_levels : List ℕ → List Item
at_levels ls = map (λ (l : ℕ). record { position = 0; level = l }) ls

-- the lowest of a level and of all levels of a list
unfoldable pub lowest : ℕ → List ℕ → ℕ
lowest none [] = none
lowest none (l ∷ ls) = min l (lowest none ls)
