-- `melvorash_c::melvorash_order_line` meets its contract: the job's own answer, in four numbers, and the order as the job leaves it.
-- Assumes nothing.
use native.Mathlib.Omega.{arith}
use Rattle.melvorash_c.proofs.BoundaryLaws.{line_exports}
use Rattle.melvorash_c.proofs.melvorash_order_line.Goals as goal

pub returns : goal.returns
returns c = line_exports _ _ _ _ _ _ (grind arith) c.order_line-line.ensures
