-- `kept::number_all` meets its contract. The invariant: the places before i hold positions in a row.
-- Assumes nothing.
use Rattle.kept.proofs.GatherLaws.{number_begun, number_next, number_ended}
use borrow.Author.Rules.{rules}
use Rattle.kept.proofs.number_all.Goals as goal

pub loop-i-init : goal.loop-i-init
loop-i-init c = number_begun _ _ _

pub loop-i-preserved : goal.loop-i-preserved
loop-i-preserved c = rw c.put.ensures (number_next _ _ _ _ _ (search rules) c.loop-i-test.true c.loop-i.invariant)

pub returns : goal.returns
returns c = number_ended _ _ _ _ _ (search rules) c.loop-i-test.false (search rules) c.loop-i.invariant
