-- One step of the walk, from a position to the one before it.
use Rattle.std.specs.Prelude.{ℕ, ◌≡◌, Bool, true, ◌||◌, if◌then◌else◌}
use Rattle.rules.specs.Classes.{is_removed, is_separator, is_blank}
use Rattle.rules.specs.Line.{reset_level}
use Rattle.reset.specs.declared.Stepped.{Stepped}

-- back to the base, with only blanks ahead of what comes before
abbrev pub back_to : ℕ → Stepped
back_to base = record { level = base; ahead = true }

-- what the position before has ahead of it: removed positions and blanks leave the flag as it is
abbrev pub ahead_of : ℕ → Bool → Bool
ahead_of c ahead = if is_removed c || is_blank c then ahead else is_separator c

-- the level here after the reset, and the flag for the position before
pub record Steps (base c l : ℕ) (set : Bool) (r : Stepped) : Type 0 where
  pub level : r.level ≡ reset_level base c l set
  pub ahead : r.ahead ≡ ahead_of c set
