-- `reset::reset` meets its contract. The invariant: from position i on the line is reset.
-- Assumes nothing.
use Rattle.reset.proofs.ResetLaws.{begun, next, ended}
use borrow.Author.Rules.{rules}
use Rattle.reset.proofs.reset.Goals as goal

pub loop-i-init : goal.loop-i-init
loop-i-init c = begun _ _ _ _

pub loop-i-preserved : goal.loop-i-preserved
loop-i-preserved c =
    rw c.put_byte.ensures (next _ _ _ _ _ _ _ _ c.loop-i-test.true (search rules) (search rules) (search rules) c.loop-i.invariant
    (rw (c.byte_at-class.ensures, c.byte_at-level.ensures) at c.step-stepped.ensures))

pub returns : goal.returns
returns c = ended _ _ _ _ _ _ _ (search rules) c.loop-i-test.false c.loop-i.invariant
