-- `line::order_lines` meets its contract. The invariant: the lines so far are ordered, one after the other, and their counts added up.
-- Assumes nothing.
use native.Mathlib.Omega.{arith}
use Rattle.line.proofs.LineLaws.{lines_begun, next_line, lent_room, sums_fit, lines_next, lines_ended}
use borrow.Author.Rules.{rules}
use Rattle.line.proofs.order_lines.Goals as goal

pub loop-end-init : goal.loop-end-init
loop-end-init c = lines_begun _ _ _ _ _ (search rules)

pub order_line-line-requires : goal.order_line-line-requires
order_line-line-requires c =
    let w = next_line c.loop-end.invariant c.loop-end-test.true c.from-to.ensures in
    record { from_le_to = search rules; to_in_bounds = w.1; classes_in_bounds = search rules; classes_len_bound = search rules; from_in_bounds = lent_room c.loop-end.invariant c.loop-end-test.true c.from-to.ensures (search rules) }

pub overflow_add-reversed : goal.overflow_add-reversed
overflow_add-reversed c =
    let w = next_line c.loop-end.invariant c.loop-end-test.true c.from-to.ensures in
    omega (arith, sums_fit c.loop-end.invariant c.loop-end-test.true c.from-to.ensures _ c.order_line-line.ensures)

pub loop-end-preserved : goal.loop-end-preserved
loop-end-preserved c = lines_next c.loop-end.invariant c.loop-end-test.true c.from-to.ensures (search rules) c.order_line-line.ensures

pub returns : goal.returns
returns c = lines_ended c.loop-end.invariant (search rules) c.loop-end-test.false
