-- `melvorash_c::melvorash_cut` meets its contract: the job's own answer, in three numbers.
-- Assumes nothing.
use native.Mathlib.Omega.{arith}
use Rattle.melvorash_c.proofs.BoundaryLaws.{cut_reads, exports}
use Rattle.melvorash_c.proofs.melvorash_cut.Goals as goal

pub returns : goal.returns
returns c = exports _ _ _ (grind arith) c.cut-paragraph.ensures (cut_reads _) c.cut-paragraph.ensures
