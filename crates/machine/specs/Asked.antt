-- What a code asks for: the level and the override of X2 to X5 in one, as the code computes them.
use Rattle.std.specs.Prelude.{ℕ, ◌||◌, eqb, if◌then◌else◌}
use Rattle.rules.specs.Classes.{L, R, LRO, RLE, RLO}
use Rattle.rules.specs.Explicit.{neutral, least_greater_odd, least_greater_even}

-- the level that a code asks for
unfoldable pub level_asked : ℕ → ℕ → ℕ
level_asked c l = if eqb c RLE || eqb c RLO then least_greater_odd l else least_greater_even l

-- and the override
unfoldable pub override_asked : ℕ → ℕ
override_asked c = if eqb c RLO then R else if eqb c LRO then L else neutral
