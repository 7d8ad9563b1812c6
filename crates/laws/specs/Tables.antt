-- Tables of rules on numbers, written out.
use Rattle.std.specs.Prelude.{ℕ, List, [], ◌∷◌, ◌++◌, map}
use Rattle.laws.specs.Choice.{up_from}

-- a row has what a rule makes of 0, 1, 2 and so on
unfoldable pub row_of : ℕ → (ℕ → ℕ) → List ℕ
row_of width rule = map rule (up_from 0 width)

-- a table has a row for each rule, one behind the other
unfoldable pub table_of : ℕ → List (ℕ → ℕ) → List ℕ
table_of width [] = []
table_of width (rule ∷ rules) = row_of width rule ++ table_of width rules
