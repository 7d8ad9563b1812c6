-- `printing::put_rows` meets its contract: three texts, each written behind the last.
-- Assumes nothing.
use Rattle.writing.proofs.TextLaws.{writes_then}
use Rattle.printing.specs.Printing.{paragraph_rows}
use Rattle.printing.proofs.put_rows.Goals as goal

pub returns : goal.returns
unfolding paragraph_rows
returns c = writes_then (writes_then c.put_base_row.ensures c.put_levels_row.ensures) c.put_order_row.ensures
