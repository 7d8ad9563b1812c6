-- `weak::blocks_begin` meets its contract: no rule asks for a type of the blocks that are passed. Assumes nothing.
use Rattle.std.proofs.Common.{◌≡◌, false, length, drop, ◌-◌, ◌*◌}
use Rattle.laws.specs.Any.{any_of}
use Rattle.weak.specs.Touched.{is_touched}
use Rattle.weak.proofs.blocks_begin.Given as goal

abbrev pub invariant-loop-n : goal.invariant-loop-n
invariant-loop-n l = any_of is_touched (drop (length l.types - l.n * 64) l.types) ≡ false
