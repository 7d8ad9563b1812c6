-- `weak::w5_to_w7` meets its contract: it goes from stretch to stretch of ET. Assumes nothing.
use Rattle.weak.proofs.LateLaws.{Late}
use Rattle.weak.proofs.w5_to_w7.Given as goal

abbrev pub invariant-loop-i : goal.invariant-loop-i
invariant-loop-i l = Late l.sides.sor l.sides.eor l.initial.types l.types l.before l.strong l.from l.i
