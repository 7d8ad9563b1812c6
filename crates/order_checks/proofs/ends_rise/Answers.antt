use Rattle.std.proofs.Common.{arith, sym}
use Rattle.order_checks.proofs.EndLaws.{ends_rising, ends_stuck, ends_done}
use Rattle.order_checks.proofs.ends_rise.Goals as goal

pub returns-then-end-before : goal.returns-then-end-before
returns-then-end-before c = ends_stuck _ _ _ _ _ c.loop-end-test.true c.loop-end.invariant (rw (sym c.from-end.ensures) c.if-end-before.true)

pub loop-end-preserved : goal.loop-end-preserved
loop-end-preserved c =
    rw c.from-end.ensures (ends_rising _ _ _ _ _ c.loop-end-test.true c.loop-end.invariant (rw (sym c.from-end.ensures) c.if-end-before.false))

pub returns : goal.returns
returns c = ends_done _ _ _ _ _ c.loop-end-test.false c.loop-end.invariant
