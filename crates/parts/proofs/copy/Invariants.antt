-- `parts::copy` meets its contract: what is written, and what is left to read, is the whole. Assumes nothing.
use lib.ListN.{drop}
use Rattle.laws.proofs.Filling.{Filled}
use Rattle.parts.proofs.copy.Given as goal

abbrev pub invariant-loop-at : goal.invariant-loop-at
invariant-loop-at l = Filled l.from l.initial.to l.to l.at (drop l.at l.from)
