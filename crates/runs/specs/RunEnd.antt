-- What is promised of the end of a run: it is the end of the first of the runs from `from` on.
use Rattle.std.specs.Prelude.{ℕ, ◌-◌, ◌≤◌, ◌<◌, ◌≡◌, List, ◌∷◌, length, drop}
use Rattle.rules.specs.Runs.{run_lengths}

pub record RunEnd (levels : List ℕ) (from end : ℕ) : Type 0 where
  pub later : from < end
  pub within : end ≤ length levels
  pub lengths : run_lengths (drop from levels) ≡ (end - from) ∷ run_lengths (drop end levels)
