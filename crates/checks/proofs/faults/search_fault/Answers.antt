use Rattle.std.proofs.Common.{sym}
use Rattle.refusals.proofs.PageLaws.{handed}
use Rattle.checks.proofs.FaultLaws.{walk_step, walk_found, walk_done}
use Rattle.checks.proofs.faults.search_fault.Goals as goal

pub returns-in_err-fault_at : goal.returns-in_err-fault_at
returns-in_err-fault_at c =
    handed _ _ _ c.from_residual.ensures.1
    (walk_found _ _ _ _ _ c.loop-i-test.true (sym c.in_err-fault_at.ensures) c.loop-i.invariant)

pub loop-i-preserved : goal.loop-i-preserved
loop-i-preserved c = walk_step _ _ _ c.loop-i-test.true (sym c.in_ok-fault_at.ensures) c.loop-i.invariant

pub returns : goal.returns
returns c = walk_done _ _ _ c.loop-i-test.false c.loop-i.invariant
