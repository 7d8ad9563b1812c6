-- `kept::gather_kept` meets its contract. The invariant: both buffers are filled with the kept positions before i.
-- Assumes nothing.
use Rattle.kept.proofs.GatherLaws.{Gathering}
use Rattle.kept.proofs.gather_kept.Given as goal

abbrev pub invariant-loop-i : goal.invariant-loop-i
invariant-loop-i l = Gathering l.from.0 l.classes l.initial.levels l.initial.order l.levels l.order l.i l.k
