-- `melvorash_c::melvorash_resolve` meets its contract: the job's own answer, in three numbers, and the buffer as the job leaves it.
-- Assumes nothing.
use native.Mathlib.Omega.{arith}
use Rattle.melvorash_c.proofs.BoundaryLaws.{levels_reads, exports}
use Rattle.melvorash_c.proofs.melvorash_resolve.Goals as goal

pub returns : goal.returns
returns c =
    let called = c.resolve_levels-resolved.ensures in
    exports _ _ _ (grind arith) called.told (levels_reads _ _ _ _) called
