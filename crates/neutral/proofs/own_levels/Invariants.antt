-- `neutral::own_levels` meets its contract: what is written, and the levels of what is left, is all. Assumes nothing.
use Rattle.std.proofs.Common.{map, drop}
use Rattle.laws.proofs.Filling.{Filled}
use Rattle.neutral.specs.Finals.{final_level}
use Rattle.neutral.proofs.own_levels.Given as goal

abbrev pub invariant-loop-i : goal.invariant-loop-i
invariant-loop-i l = Filled (map (final_level l.finals) l.types) l.initial.levels l.levels l.i (map (final_level l.finals) (drop l.i l.types))
