-- `reset::reset` meets its contract. The invariant: from position i on the line is reset.
-- Assumes nothing.
use Rattle.reset.proofs.ResetLaws.{Reset}
use Rattle.reset.proofs.reset.Given as goal

abbrev pub invariant-loop-i : goal.invariant-loop-i
invariant-loop-i l = Reset l.base l.classes l.levels l.initial.out l.out l.i l.ahead
