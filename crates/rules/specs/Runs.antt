-- Level runs: rule X10.
use Rattle.std.specs.Prelude.{ℕ, suc, max, List, [], ◌∷◌, eqb, if◌then◌else◌}
use Rattle.laws.specs.Choice.{is_odd}
use Rattle.rules.specs.Classes.{L, R}

-- the first run is one position longer
unfoldable pub one_longer : List ℕ → List ℕ
one_longer [] = 1 ∷ []
one_longer (n ∷ ns) = suc n ∷ ns

-- a run is a longest stretch of neighbouring kept positions at one level: how long each is, in turn
unfoldable pub run_lengths : List ℕ → List ℕ
run_lengths [] = []
run_lengths (l ∷ []) = 1 ∷ []
run_lengths (l ∷ m ∷ ls) = if eqb l m then one_longer (run_lengths (m ∷ ls)) else 1 ∷ run_lengths (m ∷ ls)

-- the type at a boundary of runs: R where the higher of the two levels is odd, else L
unfoldable pub boundary_type : ℕ → ℕ → ℕ
boundary_type l m = if is_odd (max l m) then R else L
