-- `line::order_lines` meets its contract. The invariant: the lines so far are ordered, one after the other, and their counts added up.
-- Assumes nothing.
use Rattle.line.proofs.LineLaws.{Lines}
use Rattle.line.proofs.order_lines.Given as goal

abbrev pub invariant-loop-end : goal.invariant-loop-end
invariant-loop-end l = Lines l.base l.classes l.levels l.ends l.initial.order l.order l.from l.count l.reversed l.end-index
