-- `machine::Machine::counted` meets its contract: a count that is changed at the present level bears on no pair below it.
-- Assumes nothing.
use Rattle.machine.proofs.MachineLaws.{sound_61, recounted_61, sound_60, recounted_60}
use Rattle.machine.proofs.Machine.counted.Goals as goal

pub invariant_of-self : goal.invariant_of-self
invariant_of-self c = record { sound = sound_61 c.args.self c.args.n c.if-self-eq-HIGHEST_EXPLICIT.true }

pub returns-then-self-eq-HIGHEST_EXPLICIT : goal.returns-then-self-eq-HIGHEST_EXPLICIT
returns-then-self-eq-HIGHEST_EXPLICIT c = recounted_61 c.args.self c.args.n _ c.if-self-eq-HIGHEST_EXPLICIT.true

pub invariant_of-self-2 : goal.invariant_of-self-2
invariant_of-self-2 c = record { sound = sound_60 c.args.self c.args.n c.requires c.if-self-eq-HIGHEST_EXPLICIT.false }

pub returns : goal.returns
returns c = recounted_60 c.args.self c.args.n _ c.requires c.if-self-eq-HIGHEST_EXPLICIT.false
