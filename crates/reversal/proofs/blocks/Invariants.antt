-- `reversal::blocks` meets its contract. The invariant: all that is passed over is on the side asked for.
-- Assumes nothing.
use Prim.Native.Nat.{◌*◌}
use Rattle.reversal.specs.Passes.{Skipped}
use Rattle.reversal.proofs.blocks.Given as goal

abbrev pub invariant-loop-i : goal.invariant-loop-i
invariant-loop-i g l = Skipped (g.S.Side.test l.level) l.levels 0 (l.i * 16)
