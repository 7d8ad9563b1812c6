-- `kept::number_all` meets its contract. The invariant: the places before i hold positions in a row.
-- Assumes nothing.
use Rattle.kept.proofs.GatherLaws.{Numbered}
use Rattle.kept.proofs.number_all.Given as goal

abbrev pub invariant-loop-i : goal.invariant-loop-i
invariant-loop-i l = Numbered l.from.0 l.count l.initial.order l.order l.i
