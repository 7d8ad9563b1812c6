use Rattle.std.proofs.Common.{refl}
use Rattle.laws.proofs.Tests.{known}
use Rattle.order_checks.proofs.LevelLaws.{levels_step, levels_found, levels_done}
use Rattle.order_checks.proofs.levels.search_bad_level.Goals as goal

pub loop-i-init : goal.loop-i-init
loop-i-init c = (c.requires, refl)

pub returns-then-is_bad_level : goal.returns-then-is_bad_level
returns-then-is_bad_level c =
    levels_found _ _ _ _ c.loop-i-test.true c.loop-i.invariant.0 (known c.is_bad_level.ensures c.if-is_bad_level.true) c.loop-i.invariant.1

pub loop-i-preserved : goal.loop-i-preserved
loop-i-preserved c = (
  c.loop-i.invariant.0,
  levels_step _ _ _ _ c.loop-i-test.true c.loop-i.invariant.0
      (known c.is_bad_level.ensures c.if-is_bad_level.false) c.loop-i.invariant.1,
)

pub returns : goal.returns
returns c = levels_done _ _ _ _ c.loop-i-test.false c.loop-i.invariant.1
