-- `machine::Machine::remember` meets its contract. There is room, since the remembered levels fall from the present one, which is below 61.
-- Assumes nothing.
use mathlib.Core.Path.{◌∙◌}
use lib.ListN.{length-set}
use Rattle.machine.proofs.MachineLaws.{sound_of, room, opened_sound, opened_stands}
use Rattle.machine.proofs.Machine.remember.Goals as goal

pub bounds-self-depth : goal.bounds-self-depth
bounds-self-depth c = room c.args.self c.requires.0 c.requires.1

pub bounds-self-depth-2 : goal.bounds-self-depth-2
bounds-self-depth-2 c = room c.args.self c.requires.0 c.requires.1

pub invariant_of-self : goal.invariant_of-self
invariant_of-self c = record { sound = opened_sound c.args.self c.args.new.level c.requires.0 c.requires.1 _ (length-set _ _ _ ∙ (sound_of c.args.self).overrides) }

pub returns : goal.returns
returns c = opened_stands c.args.self c.args.new.level c.requires.0 c.requires.1 c.args.new.over _
