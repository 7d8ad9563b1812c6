-- `parts::copy` meets its contract: what is written, and what is left to read, is the whole. Assumes nothing.
use native.Mathlib.Omega.{arith}
use lib.ListN.{drop_of_length-le}
use Rattle.laws.proofs.Lists.{drop_next}
use Rattle.laws.proofs.Filling.{filled_more, filled_all}
use Rattle.parts.proofs.copy.Goals as goal

pub loop-at-preserved : goal.loop-at-preserved
loop-at-preserved c = filled_more (drop_next _ _ c.loop-at-test.true) (omega arith) c.loop-at.invariant

pub returns : goal.returns
returns c = filled_all c.loop-at.invariant (drop_of_length-le _ c.loop-at-test.false) (omega arith)
