-- `words::read_classes` meets its contract: what is written, then the classes behind `end`, are all that there is room for.
-- Assumes nothing.
use Rattle.words.proofs.LineLaws.{Reading}
use Rattle.words.proofs.read_classes.Given as goal

abbrev pub invariant-loop-count : goal.invariant-loop-count
invariant-loop-count l = Reading l.line l.initial.classes l.classes l.end l.count
