-- `melvorash_c::melvorash_marks` meets its contract: the job's own answer, in three numbers, and the order as the job leaves it.
-- Assumes nothing.
use native.Mathlib.Omega.{arith}
use Rattle.melvorash_c.proofs.BoundaryLaws.{marks_reads, exports}
use Rattle.melvorash_c.proofs.melvorash_marks.Goals as goal

pub returns : goal.returns
returns c =
    let called = c.drawing_order-drawing.ensures in
    exports _ _ _ (grind arith) called.told (marks_reads _ _ _) called
