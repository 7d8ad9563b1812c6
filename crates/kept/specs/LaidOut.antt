-- The items of a line laid out in two buffers: positions in the order, levels in the work buffer.
use Rattle.std.specs.Prelude.{ℕ, ◌≡◌, List, length}
use Rattle.laws.specs.Parts.{over}
use Rattle.rules.specs.Line.{Item, positions_of, levels_of}

-- how many items there are, and what both buffers are after them
pub record LaidOut (xs : List Item) (levels order : List ℕ) (r : ℕ) (levels' order' : List ℕ) : Type 0 where
  pub count : r ≡ length xs
  pub packed : levels' ≡ over (levels_of xs) levels
  pub placed : order' ≡ over (positions_of xs) order
