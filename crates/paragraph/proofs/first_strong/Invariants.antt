-- `paragraph::first_strong` meets its contract: the first strong class from a place on is the first of all. Assumes nothing.
use Rattle.std.proofs.Common.{◌≡◌, drop}
use Rattle.rules.specs.Paragraph.{P2}
use Rattle.paragraph.proofs.first_strong.Given as goal

abbrev pub invariant-loop-class : goal.invariant-loop-class
invariant-loop-class l = P2 (drop l.class-index l.classes) ≡ P2 l.classes
