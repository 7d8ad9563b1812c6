-- The resolved levels of a paragraph: X1 to X10, then W, N and I over each run.
use Rattle.std.specs.Prelude.{ℕ, List, [], ◌∷◌, ◌++◌, map, take, drop}
use Rattle.laws.specs.Choice.{head_or}
use Rattle.rules.specs.Explicit.{X1, explicit_levels, explicit_types, kept, put_back}
use Rattle.rules.specs.Runs.{run_lengths, boundary_type}
use Rattle.rules.specs.Weak.{weak}
use Rattle.rules.specs.Neutral.{N1, N2}
use Rattle.rules.specs.Implicit.{implicit_level}

-- one run: its level, its start and end types, and the types of its positions
unfoldable pub resolve_run : ℕ → ℕ → ℕ → List ℕ → List ℕ
resolve_run level sor eor ts = map (implicit_level level) (N2 level (N1 sor eor (weak sor eor ts)))

-- X10: the runs of the given lengths in turn, after a run at the level before; beyond the paragraph the level is the base
unfoldable pub resolve_runs : ℕ → ℕ → List ℕ → List ℕ → List ℕ → List ℕ
resolve_runs base before levels types [] = []
resolve_runs base before levels types (n ∷ ns) =
    let level = head_or base levels in
    let next = head_or base (drop n levels) in
    resolve_run level (boundary_type before level) (boundary_type level next) (take n types)
    ++ resolve_runs base level (drop n levels) (drop n types) ns

-- the kept positions' levels and types, run by run
unfoldable pub resolve_kept : ℕ → List ℕ → List ℕ → List ℕ
resolve_kept base levels types = resolve_runs base base levels types (run_lengths levels)

-- a paragraph's resolved levels, 255 where removed
unfoldable pub resolved_levels : ℕ → List ℕ → List ℕ
resolved_levels base cs =
    put_back cs
    (resolve_kept base (kept cs (explicit_levels base (X1 base) cs)) (kept cs (explicit_types (X1 base) cs)))
