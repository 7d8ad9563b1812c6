-- `words::read_classes` meets its contract: what is written, then the classes behind `end`, are all that there is room for.
-- Assumes nothing.
use native.Mathlib.Omega.{arith}
use Rattle.words.proofs.LineLaws.{reading_begun, reading_next}
use Rattle.words.proofs.read_classes.Goals as goal

pub loop-count-init : goal.loop-count-init
loop-count-init c = reading_begun _ _ c.part_end-end.ensures

pub loop-count-preserved : goal.loop-count-preserved
loop-count-preserved c = reading_next c.loop-count.invariant (omega arith) (omega arith) c.part_end-end-in-loop-count.ensures c.class_named.ensures
