-- `machine::Machine::opening` meets its contract: the level asked for lies one or two above the present one.
-- Assumes nothing.
use native.Mathlib.Omega.{arith}
use Rattle.machine.proofs.MachineLaws.{opening_valid}
use Rattle.machine.proofs.Machine.opening.Goals as goal

pub returns : goal.returns
returns c = opening_valid _ _ _ c.level_asked-level.ensures c.override_asked-over.ensures (omega arith)
