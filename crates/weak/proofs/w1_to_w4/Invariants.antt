-- `weak::w1_to_w4` meets its contract: what is written, then the rules on the type held and on what is left, is the
-- rules on the whole run. Assumes nothing.
use Rattle.weak.proofs.EarlyLaws.{Early}
use Rattle.weak.proofs.w1_to_w4.Given as goal

abbrev pub invariant-loop-i : goal.invariant-loop-i
invariant-loop-i l = Early l.sides.sor l.sides.eor l.initial.types l.types l.own l.here l.strong l.before l.i
