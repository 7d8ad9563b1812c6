-- `melvorash_c::melvorash_base` meets its contract: the job's own answer, in three numbers.
-- Assumes nothing.
use native.Mathlib.Omega.{arith}
use mathlib.Core.Path.{ap}
use Rattle.melvorash_c.specs.Boundary.{level_or_none}
use Rattle.melvorash_c.proofs.BoundaryLaws.{base_reads, exports}
use Rattle.melvorash_c.proofs.melvorash_base.Goals as goal

pub returns : goal.returns
returns c =
    let told = ap level_or_none c.base-by_text.ensures in
    exports _ _ _ (grind arith) told (base_reads _) told
