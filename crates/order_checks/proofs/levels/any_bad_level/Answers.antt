use Rattle.std.proofs.Common.{rules}
use Rattle.laws.proofs.Any.{pair_begun, pair_next, pair_done}
use Rattle.order_checks.proofs.levels.any_bad_level.Goals as goal

pub loop-i-init : goal.loop-i-init
loop-i-init c = (c.requires, pair_begun _ _ _)

pub loop-i-preserved : goal.loop-i-preserved
loop-i-preserved c =
    (c.loop-i.invariant.0, pair_next _ _ _ _ c.loop-i.bad _ _ c.loop-i-test.true c.loop-i.invariant.0 c.is_bad_level-bad.ensures (search rules) c.loop-i.invariant.1)

pub returns : goal.returns
returns c = pair_done _ _ _ _ c.loop-i.bad c.loop-i-test.false c.loop-i.invariant.1
