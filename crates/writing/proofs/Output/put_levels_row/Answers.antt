-- `writing::Output::put_levels_row` meets its contract: the name, the levels, the line feed, one behind the other.
-- Assumes nothing.
use mathlib.Core.Path.{sym}
use Rattle.writing.specs.Text.{level_text, levels_row}
use Rattle.writing.proofs.TextLaws.{writes_on, writes_then, writes_same}
use Rattle.writing.proofs.EachLaws.{spaced_each, each_begun, each_next, each_done}
use Rattle.writing.proofs.Output.put_levels_row.Goals as goal

pub loop-level-init : goal.loop-level-init
loop-level-init c = each_begun (writes_on c.put_text.ensures)

pub loop-level-preserved : goal.loop-level-preserved
loop-level-preserved c = each_next c.loop-level.invariant c.loop-level-test.true (writes_then c.put_byte.ensures c.put_level.ensures)

pub returns : goal.returns
unfolding levels_row
returns c =
    let values = writes_same (sym (spaced_each level_text _)) (each_done c.loop-level.invariant c.loop-level-test.false) in
    writes_then (writes_then c.put_text.ensures values) c.put_byte-2.ensures
