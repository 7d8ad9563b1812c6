-- `reversal::reverse` meets its contract. The invariant: so many pairs are turned round, the outermost first.
-- Assumes nothing.
use Rattle.reversal.proofs.TurnLaws.{begun, next, ended}
use Rattle.reversal.proofs.reverse.Goals as goal

pub loop-n-init : goal.loop-n-init
loop-n-init c = begun _ _ _

pub loop-n-preserved : goal.loop-n-preserved
loop-n-preserved c = rw c.swap.ensures (next _ _ _ _ _ c.requires.to_in_bounds c.loop-n.invariant c.loop-n-test.true)

pub returns : goal.returns
returns c = ended _ _ _ _ _ c.requires.to_in_bounds c.loop-n.invariant c.requires.from_le_to c.loop-n-test.false
