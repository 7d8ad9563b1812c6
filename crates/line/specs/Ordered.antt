-- What an order leaves: how many positions it has and how many the passes reversed, and the lent buffer with it in its first
-- places.
use Rattle.std.specs.Prelude.{ℕ, ◌*◌, ◌≤◌, ◌≡◌, List, length}
use Rattle.laws.specs.Parts.{over}
use Rattle.rules.specs.Line.{Item, L2, positions_of}
use Rattle.rules.specs.Reversals.{L2_reverses}
use Rattle.line.specs.declared.Placed.{Placed}

pub record Ordered (wanted : List ℕ) (turned : ℕ) (entry : List ℕ) (r : Placed) (exit : List ℕ) : Type 0 where
  pub placed : r.count ≡ length wanted
  pub reversed : r.reversed ≡ turned
  pub order : exit ≡ over wanted entry
  -- no level is above 255, so the sum over the lines fits its number
  pub few : turned ≤ 255 * length wanted

-- the order of a line with these items
abbrev pub OrderedItems : List Item → List ℕ → Placed → List ℕ → Type 0
OrderedItems xs entry r exit = Ordered (positions_of (L2 xs)) (L2_reverses xs) entry r exit
