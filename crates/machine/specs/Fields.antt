-- What always holds of the fields of a machine: at most 61 remembered pairs, and invalid codes counted only where they can
-- be. It stands apart from the struct, whose ghost field cites it.
use Rattle.std.specs.Prelude.{ℕ, zero, suc, ◌-◌, ◌≤◌, ◌<◌, ◌≡◌, ◌⊎◌, List, length, get_or}
use Rattle.rules.specs.Explicit.{highest_explicit}

-- the only two levels at which a code can be invalid: 61, and 60 where it asks for an even level
abbrev pub next_to_highest : ℕ
next_to_highest = highest_explicit - 1

-- from a level down, each remembered level lies below the one above it
pub data Falls (levels : List ℕ) : ℕ → ℕ → Type 0 where
  none : {level : ℕ} → Falls levels level zero
  more : {level d : ℕ} → get_or levels d 0 < level → Falls levels (get_or levels d 0) d → Falls levels level (suc d)

-- invalid codes are counted at 61 only while the machine is there
abbrev pub Only61 : ℕ → ℕ → Type 0
Only61 n61 level = (n61 ≡ 0) ⊎ (level ≡ highest_explicit)

-- and at 60 only while it is there, or at 61 with 60 remembered last
abbrev pub Only60 : ℕ → ℕ → ℕ → Type 0
Only60 n60 level last = (n60 ≡ 0) ⊎ ((level ≡ next_to_highest) ⊎ ((level ≡ highest_explicit) × (last ≡ next_to_highest)))

-- what holds of every machine: at most 61 pairs are remembered, since their levels fall
pub record SoundFields (ls os : List ℕ) (d l n60 n61 : ℕ) : Type 0 where
  pub levels : length ls ≡ highest_explicit
  pub overrides : length os ≡ highest_explicit
  pub depth : d ≤ highest_explicit
  pub level : l ≤ highest_explicit
  pub falls : Falls ls l d
  pub only61 : Only61 n61 l
  pub only60 : Only60 n60 l (get_or ls (d - 1) 0)
