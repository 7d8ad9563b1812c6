-- The items of a line from its own classes and levels.
use Rattle.std.specs.Prelude.{ℕ, List}
use Rattle.rules.specs.Line.{Item, L1, items}

-- the items of a line that begins at a position, from its own classes and levels and the base: its reset, then what is kept
abbrev pub line_items : ℕ → ℕ → List ℕ → List ℕ → List Item
line_items base from cs ls = items from cs (L1 base cs ls)
