-- What the steps of the machine meet, one inner function at a time.
use Rattle.std.specs.Prelude.{ℕ, ◌+◌, ◌-◌, ◌≤◌, ◌<◌, ◌≡◌, get_or}
use Rattle.rules.specs.Explicit.{highest_explicit}
use Rattle.rules.specs.Explicit as rules
use Rattle.machine.specs.Fields.{next_to_highest}
use Rattle.machine.specs.Meaning.{invalid_here, state_with, meaning, verdict_of}
use Rattle.machine.specs.Sound.{counts}
use Rattle.machine.specs.declared.Machine.{Machine}
use Rattle.machine.specs.declared.Verdict.{Verdict}
use Rattle.machine.specs.declared.Verdict.TheVariants.{OpensValid, OpensInvalid, ClosesValid, ClosesInvalid, ClosesNothing, Plain}

-- the same machine with n invalid codes at its present level
pub record Recounted (m : Machine) (n : ℕ) (r : Machine) : Type 0 where
  pub state : meaning r ≡ state_with m n
  pub counted : counts r + invalid_here m ≡ counts m + n

-- what a verdict tells of the machine that gave it
abbrev pub Shown : Machine → Verdict → Type 0
Shown m (OpensValid new) = (m.level < new.level) × (new.level ≤ highest_explicit)
Shown m OpensInvalid = next_to_highest ≤ m.level
Shown m (ClosesValid back) =
    (invalid_here m ≡ 0) × (0 < m.depth) × (back.level ≡ get_or m.levels (m.depth - 1) 0)
    × (back.over ≡ get_or m.overrides (m.depth - 1) 0)
Shown m ClosesInvalid = 0 < invalid_here m
Shown m ClosesNothing = Unit
Shown m Plain = Unit

-- a machine's verdict is the rules' one, and safe to follow
pub record Judged (m : Machine) (right : rules.Verdict) (v : Verdict) : Type 0 where
  pub says : verdict_of v ≡ right
  pub shown : Shown m v
