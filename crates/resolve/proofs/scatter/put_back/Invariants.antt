-- `resolve::scatter::put_back` meets its contract: the invariant is that positions from i on have their levels and those before stand as they were packed.
-- Assumes nothing.
use Rattle.resolve.proofs.ScatterLaws.{Placing}
use Rattle.resolve.proofs.scatter.put_back.Given as goal

abbrev pub invariant-loop-i : goal.invariant-loop-i
invariant-loop-i l = Placing l.classes l.initial.levels l.count l.levels l.i l.j
