-- The passes of L2 as they are made: what stands in an order is moved, and the levels are read by place, as they were before any pass.
use Rattle.std.specs.Prelude.{ℕ, zero, suc, ◌+◌, ◌≤◌, ◌≡◌, Bool, List, [], ◌∷◌, ◌++◌, leb, ltb, length, drop, if◌then◌else◌}
use Rattle.laws.specs.Stretches.{span}

-- what a pass at that level leaves where it is
abbrev pub below : ℕ → ℕ → Bool
below level l = ltb l level

-- from one place to another nothing but what passes the test: what begins at either ends at the same place
pub record Skipped (test : ℕ → Bool) (xs : List ℕ) (from to : ℕ) : Type 0 where
  pub onward : from ≤ to
  pub within : to ≤ length xs
  pub same_end : to + span test (drop to xs) ≡ from + span test (drop from xs)

-- one pass over the places with the given levels; all places past them stay. The stretch under way is held last first
unfoldable pub pass_by : ℕ → List ℕ → List ℕ → List ℕ → List ℕ
pass_by level stretch [] ps = stretch ++ ps
pass_by level stretch (l ∷ ls) [] = stretch
pass_by level stretch (l ∷ ls) (p ∷ ps) =
    if leb level l then pass_by level (p ∷ stretch) ls ps else stretch ++ (p ∷ pass_by level [] ls ps)

-- passes from one level down to another, always over the same levels
unfoldable pub passes_by : ℕ → ℕ → List ℕ → List ℕ → List ℕ
passes_by zero lowest ls ps = ps
passes_by (suc level) lowest ls ps =
    if leb lowest (suc level) then passes_by level lowest ls (pass_by (suc level) [] ls ps) else ps
