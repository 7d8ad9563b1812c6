-- `machine::Machine::step` meets its contract: in each arm the verdict is the rules' one, and what is called does what the rules say after it.
-- Assumes nothing.
use native.Mathlib.Omega.{arith}
use Rattle.machine.proofs.MachineLaws.{followed, unmoved}
use Rattle.machine.proofs.Machine.step.Goals as goal

pub returns-in-OpensValid : goal.returns-in-OpensValid
returns-in-OpensValid c = followed _ _ c.in-OpensValid.is c.verdict.ensures c.remember.ensures (omega arith)

pub returns-in-OpensInvalid : goal.returns-in-OpensInvalid
returns-in-OpensInvalid c = followed _ _ c.in-OpensInvalid.is c.verdict.ensures c.count_more.ensures (omega arith)

pub returns-in-ClosesValid : goal.returns-in-ClosesValid
returns-in-ClosesValid c = followed _ _ c.in-ClosesValid.is c.verdict.ensures c.restore.ensures (omega arith)

pub returns-in-ClosesInvalid : goal.returns-in-ClosesInvalid
returns-in-ClosesInvalid c = followed _ _ c.in-ClosesInvalid.is c.verdict.ensures c.count_less.ensures (omega arith)

pub returns-in-ClosesNothing : goal.returns-in-ClosesNothing
returns-in-ClosesNothing c = unmoved _ _ c.in-ClosesNothing.is c.verdict.ensures
