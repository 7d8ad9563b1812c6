-- `melvorash_c::melvorash_explicit` meets its contract: the job's own answer, in three numbers, and the buffer as the job leaves it.
-- Assumes nothing.
use native.Mathlib.Omega.{arith}
use Rattle.melvorash_c.proofs.BoundaryLaws.{levels_reads, exports}
use Rattle.melvorash_c.proofs.melvorash_explicit.Goals as goal

pub returns : goal.returns
returns c =
    let called = c.explicit_levels-explicit.ensures in
    exports _ _ _ (grind arith) called.told (levels_reads _ _ _ _) called
