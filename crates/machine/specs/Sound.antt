-- What always holds of the machine's struct, by its ghost field, and where a machine stands.
use Rattle.std.specs.Prelude.{ℕ, ◌+◌, ◌≤◌, ◌≡◌}
use Rattle.rules.specs.Explicit.{State}
use Rattle.machine.specs.Fields.{SoundFields}
use Rattle.machine.specs.Meaning.{meaning}
use Rattle.machine.specs.declared.Machine.{Machine}

-- at most 61 pairs are remembered, and invalid codes counted only where they can be
abbrev pub Sound : Machine → Type 0
Sound m = SoundFields m.levels m.overrides m.depth m.level m.invalid60 m.invalid61

-- how many invalid codes are counted in all
abbrev pub counts : Machine → ℕ
counts m = m.invalid60 + m.invalid61

-- a machine stands in a state of the rules, and counts at most so many invalid codes
pub record Stands (m : Machine) (s : State) (most : ℕ) : Type 0 where
  pub state : meaning m ≡ s
  pub counted : counts m ≤ most
