-- `machine::Machine::new` meets its contract: with nothing remembered and nothing counted the struct is the state of X1.
-- Assumes nothing.
use Rattle.machine.proofs.MachineLaws.{begun_sound, begun_stands}
use Rattle.machine.proofs.Machine.new.Goals as goal

pub invariant_of-result : goal.invariant_of-result
invariant_of-result c = record { sound = begun_sound c.requires }

pub returns : goal.returns
returns c = begun_stands c.args.base _ c.requires
