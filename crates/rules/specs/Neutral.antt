-- Neutral types (B, CR, S, WS, ON): rules N1 and N2.
use Rattle.std.specs.Prelude.{ℕ, ◌||◌, List, map, eqb, if◌then◌else◌}
use Rattle.laws.specs.Choice.{is_odd}
use Rattle.rules.specs.Classes.{L, R, EN, AN, is_neutral}
use Rattle.laws.specs.Stretches.{stretches}

-- the direction of a type beside neutrals: EN and AN count as R
unfoldable pub direction : ℕ → ℕ
direction t = if eqb t EN || eqb t AN then R else t

-- N1: a stretch of neutrals between equal directions takes that direction; the start and end types stand at the run's ends
unfoldable pub change_N1 : ℕ → ℕ → ℕ → ℕ
change_N1 before next t = if eqb (direction before) (direction next) then direction before else t

unfoldable pub N1 : ℕ → ℕ → List ℕ → List ℕ
N1 sor eor ts = stretches is_neutral change_N1 sor eor ts

-- N2: any other neutral takes the direction of the run's level
unfoldable pub level_direction : ℕ → ℕ
level_direction level = if is_odd level then R else L

unfoldable pub change_N2 : ℕ → ℕ → ℕ
change_N2 level t = if is_neutral t then level_direction level else t

unfoldable pub N2 : ℕ → List ℕ → List ℕ
N2 level ts = map (change_N2 level) ts
