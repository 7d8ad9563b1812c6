-- `neutral::spread_short` meets its contract: it goes from stretch to stretch of neutrals. Assumes nothing.
use Rattle.neutral.proofs.SpreadLaws.{Waiting}
use Rattle.neutral.proofs.spread_short.Given as goal

abbrev pub invariant-loop-i : goal.invariant-loop-i
invariant-loop-i l = Waiting l.finals l.sides.sor l.sides.eor l.types l.levels l.before l.from l.i
