-- `explicit::explicit_levels` meets its contract. The invariant: what is written, and the phase on what is left from the present state, is the phase on the whole.
-- Assumes nothing.
use native.Mathlib.Omega.{arith}
use Rattle.rules.specs.Explicit.{level_here, explicit_levels}
use Rattle.explicit.proofs.ExplicitLaws.{levels_none, levels_more}
use Rattle.laws.proofs.Tests.{known}
use Rattle.laws.proofs.Filling.{filled_all}
use Rattle.explicit.proofs.WalkLaws.{kept_stays, phase_written, phase_ended}
use Rattle.explicit.proofs.explicit_levels.Goals as goal
use Rattle.explicit.proofs.explicit_levels.Goals.{then-is_removed, else-is_removed}

pub loop-at-preserved : goal.loop-at-preserved
loop-at-preserved c =
    let h = c.loop-at-test.true in
    let inv = c.loop-at.invariant in
    elim c.if-is_removed.branch [
      | then-is_removed w ↦
          rw w.machine-is (
            omega arith,
            phase_written (explicit_levels _) (level_here _) (levels_more _) _ _ h w.step-machine.ensures.state (omega arith) c.level_here.ensures inv.1,
          )
      | else-is_removed w ↦
          let stays = known c.is_removed.ensures w.if-is_removed.false in
          rw w.machine-is (
            omega arith,
            phase_written (explicit_levels _) (level_here _) (levels_more _) _ _ h (kept_stays _ _ stays) (omega arith) c.level_here.ensures inv.1,
          )
    ]

pub returns : goal.returns
returns c = filled_all c.loop-at.invariant.1 (phase_ended (explicit_levels _ _) (levels_none _ _) _ c.loop-at-test.false) (omega arith)
