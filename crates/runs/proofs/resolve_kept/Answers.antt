-- `runs::resolve_kept` meets its contract: the invariant is that the runs before i are resolved and all from i on stands as it was.
-- Assumes nothing.
use Rattle.runs.proofs.KeptLaws.{resolving_begun, resolving_done, resolving_run, level_as_was, parts_equal}
use native.Mathlib.Omega.{arith}
use Rattle.runs.proofs.resolve_kept.Goals as goal

pub loop-i-init : goal.loop-i-init
loop-i-init c = resolving_begun _ _ _ c.requires.types_len

pub resolve_run-requires : goal.resolve_run-requires
resolve_run-requires c =
    record { types_len = parts_equal c.loop-i.invariant c.run_end-end.ensures; level_bound = omega (arith, level_as_was c.loop-i.invariant, c.requires.by_index c.loop-i.i) }

pub loop-i-preserved : goal.loop-i-preserved
loop-i-preserved c =
    resolving_run c.loop-i.invariant _ c.run_end-end.ensures _ _ _ c.resolve_run.new.types c.resolve_run.new.levels
    c.element_or-next.ensures c.boundary_type-sor.ensures
    c.boundary_type-eor.ensures c.resolve_run.auto.types c.resolve_run.auto.levels c.resolve_run.ensures

pub returns : goal.returns
returns c = resolving_done c.loop-i.invariant c.loop-i-test.false
