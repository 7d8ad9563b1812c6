-- `melvorash::paragraphs::cut` meets its contract: the invariant is where the walk stands at i; each way through the loop is a law of it.
-- Assumes nothing.
use Rattle.rules.specs.Refusals.{longest_paragraph}
use Rattle.melvorash.proofs.CutLaws.{Walking}
use Rattle.melvorash.proofs.paragraphs.cut.Given as goal

abbrev pub invariant-loop-i : goal.invariant-loop-i
invariant-loop-i l = Walking longest_paragraph l.classes l.i
