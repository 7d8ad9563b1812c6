-- `machine::Machine::restore` meets its contract: the pair remembered last was the nearest unmatched code.
-- Assumes nothing.
use Rattle.machine.proofs.MachineLaws.{restored_sound, restored_stands}
use Rattle.machine.proofs.Machine.restore.Goals as goal

pub invariant_of-self : goal.invariant_of-self
invariant_of-self c = record { sound = restored_sound c.args.self c.args.back c.requires }

pub returns : goal.returns
returns c = restored_stands c.args.self c.args.back c.requires _
