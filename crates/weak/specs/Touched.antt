-- Which types any of the rules asks for.
use Rattle.std.specs.Prelude.{ℕ, Bool, ◌||◌, ◌&&◌, eqb, leb}
use Rattle.rules.specs.Classes.{AL, EN, NSM}

-- AL and the classes from EN to NSM: every type that a rule changes, and AN, which they look at
unfoldable pub is_touched : ℕ → Bool
is_touched t = eqb t AL || (leb EN t && leb t NSM)
