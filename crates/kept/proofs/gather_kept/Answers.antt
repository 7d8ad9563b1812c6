-- `kept::gather_kept` meets its contract. The invariant: both buffers are filled with the kept positions before i.
-- Assumes nothing.
use Rattle.laws.proofs.Tests.{known}
use Rattle.kept.proofs.GatherLaws.{begun, passed_over, taken_up, ended}
use borrow.Author.Rules.{rules}
use Rattle.kept.proofs.gather_kept.Goals as goal

pub loop-i-init : goal.loop-i-init
loop-i-init c = begun _ _ _ _

pub loop-i-preserved-then-is_removed : goal.loop-i-preserved-then-is_removed
loop-i-preserved-then-is_removed c =
    passed_over _ _ _ _ _ _ _ _ (search rules) (search rules) c.loop-i.invariant c.loop-i-test.true (known c.is_removed.ensures c.if-is_removed.true)

pub loop-i-preserved : goal.loop-i-preserved
loop-i-preserved c =
    rw (c.put_byte.ensures, c.byte_at-level.ensures, c.put.ensures)
    (taken_up _ _ _ _ _ _ _ _ (search rules) (search rules) c.loop-i.invariant c.loop-i-test.true (known c.is_removed.ensures c.if-is_removed.false))

pub returns : goal.returns
returns c = ended _ _ _ _ _ _ _ _ (search rules) (search rules) c.loop-i.invariant c.loop-i-test.false (search rules)
