-- `neutral::own_levels` meets its contract. Assumes nothing.
use native.Mathlib.Omega.{arith}
use Rattle.neutral.proofs.StretchLaws.{own_next, own_ended}
use Rattle.neutral.proofs.own_levels.Goals as goal

pub loop-i-preserved : goal.loop-i-preserved
loop-i-preserved c = own_next _ _ c.loop-i-test.true c.requires c.of_type.ensures c.loop-i.invariant

pub returns : goal.returns
returns c = own_ended _ _ (omega arith) (omega arith) c.requires c.loop-i.invariant
