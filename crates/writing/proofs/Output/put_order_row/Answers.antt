-- `writing::Output::put_order_row` meets its contract: the name, the positions, the line feed, one behind the other.
-- Assumes nothing.
use mathlib.Core.Path.{sym}
use Rattle.writing.specs.Text.{number_text, order_row}
use Rattle.writing.proofs.TextLaws.{writes_on, writes_then, writes_same}
use Rattle.writing.proofs.EachLaws.{spaced_each, each_begun, each_next, each_done}
use Rattle.writing.proofs.Output.put_order_row.Goals as goal

pub loop-position-init : goal.loop-position-init
loop-position-init c = each_begun (writes_on c.put_text.ensures)

pub loop-position-preserved : goal.loop-position-preserved
loop-position-preserved c = each_next c.loop-position.invariant c.loop-position-test.true (rw c.from.ensures at c.put_spaced_number.ensures)

pub returns : goal.returns
unfolding order_row
returns c =
    let values = writes_same (sym (spaced_each number_text _)) (each_done c.loop-position.invariant c.loop-position-test.false) in
    writes_then (writes_then c.put_text.ensures values) c.put_byte.ensures
