-- `explicit::gather` meets its contract. The invariant, for levels and for types: what is written, and what is kept of the phase on what is left, is what is kept of the whole.
-- Assumes nothing.
use native.Mathlib.Omega.{arith}
use Rattle.rules.specs.Explicit.{level_here, type_here, explicit_levels, explicit_types}
use Rattle.explicit.proofs.ExplicitLaws.{levels_more, types_more}
use Rattle.laws.proofs.Tests.{known}
use Rattle.laws.proofs.Filling.{filled_count, filled_all}
use Rattle.explicit.proofs.WalkLaws.{kept_stays, kept_written, kept_passed, kept_ended}
use Rattle.explicit.proofs.gather.Goals as goal
use Rattle.explicit.proofs.gather.Goals.{then-is_removed, else-is_removed}

pub loop-class-preserved : goal.loop-class-preserved
loop-class-preserved c =
    let h = c.loop-class-test.true in
    let inv = c.loop-class.invariant in
    elim c.if-is_removed.branch [
      | then-is_removed w ↦
          let next = w.step-machine.ensures in
          let goes = known c.is_removed.ensures w.if-is_removed.true in
          rw (w.levels-is, w.types-is, w.machine-is, w.k-is) (
            omega arith,
            omega arith,
            kept_passed (explicit_levels _) (level_here _) (levels_more _) _ _ h next.state goes inv.2,
            kept_passed explicit_types type_here types_more _ _ h next.state goes inv.3,
          )
      | else-is_removed w ↦
          let stays = known c.is_removed.ensures w.if-is_removed.false in
          rw (w.levels-is, w.types-is, w.machine-is, w.k-is) (
            omega arith,
            omega arith,
            kept_written (explicit_levels _) (level_here _) (levels_more _) _ _ h (kept_stays _ _ stays) stays (omega arith) w.level_here.ensures inv.2,
            kept_written explicit_types type_here types_more _ _ h (kept_stays _ _ stays) stays (omega arith) w.type_here.ensures inv.3,
          )
    ]

pub returns : goal.returns
returns c =
    let end = c.loop-class-test.false in
    let inv = c.loop-class.invariant in
    record {
      count = filled_count inv.2 (kept_ended (explicit_levels _ _) _ end) (omega arith);
      levels = filled_all inv.2 (kept_ended (explicit_levels _ _) _ end) (omega arith);
      types = filled_all inv.3 (kept_ended (explicit_types _) _ end) (omega arith);
    }
