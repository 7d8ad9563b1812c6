-- `reversal::reverse_stretches` meets its contract. The invariant: the places before `at` are as the pass leaves them, and those from there on as they were. The measure is what is left.
-- Assumes nothing.
use Rattle.laws.proofs.Filling.{filled_begun}
use Rattle.reversal.proofs.PassLaws.{next, ended}
use borrow.Author.Rules.{rules}
use Rattle.reversal.proofs.reverse_stretches.Goals as goal

pub loop-at-init : goal.loop-at-init
loop-at-init c = filled_begun _ _

pub loop-at-preserved : goal.loop-at-preserved
loop-at-preserved c =
    let args = c.args in
    rw c.reverse.ensures
    (next args.level args.levels.now args.order.now (search rules) _ _ _ _ c.loop-at-test.true c.stretch-start.ensures c.stretch-end.ensures c.loop-at.invariant)

pub returns : goal.returns
returns c =
    let args = c.args in
    ended args.level args.levels.now args.order.now (search rules) _ _ c.loop-at-test.false c.loop-at.invariant
