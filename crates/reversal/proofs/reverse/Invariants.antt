-- `reversal::reverse` meets its contract. The invariant: so many pairs are turned round, the outermost first.
-- Assumes nothing.
use Rattle.reversal.proofs.TurnLaws.{Turning}
use Rattle.reversal.proofs.reverse.Given as goal

abbrev pub invariant-loop-n : goal.invariant-loop-n
invariant-loop-n l = Turning l.from.0 l.to.0 l.initial.order l.order l.n
