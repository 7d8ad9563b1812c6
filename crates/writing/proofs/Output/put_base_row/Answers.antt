-- `writing::Output::put_base_row` meets its contract: the name, the base, the line feed, one behind the other.
-- Assumes nothing.
use Rattle.writing.specs.Text.{number_text, base_row}
use Rattle.writing.proofs.TextLaws.{writes_then, writes_same}
use Rattle.writing.proofs.EachLaws.{spaced_one}
use Rattle.writing.proofs.Output.put_base_row.Goals as goal

pub returns : goal.returns
unfolding base_row
returns c = writes_then (writes_then c.put_text.ensures (writes_same (spaced_one number_text _) (rw c.from.ensures at c.put_spaced_number.ensures))) c.put_byte.ensures
