-- `reversal::blocks` meets its contract. The invariant: all that is passed over is on the side asked for.
-- Assumes nothing.
use Rattle.reversal.proofs.BlockLaws.{skip_begun, skip_next}
use Rattle.std.proofs.Common.{◌≡◌, ◌+◌, ◌*◌, ◌/◌, length, arith}
use borrow.Author.Rules.{rules}
use Rattle.reversal.proofs.blocks.Goals as goal

pub returns-then-levels-lt-FAR : goal.returns-then-levels-lt-FAR
returns-then-levels-lt-FAR g c = skip_begun _ _

pub loop-i-init : goal.loop-i-init
loop-i-init g c = skip_begun _ _

pub returns-then-not-holds_in : goal.returns-then-not-holds_in
returns-then-not-holds_in g c = c.loop-i.invariant

pub loop-i-preserved : goal.loop-i-preserved
loop-i-preserved g c = let next : c.loop-i.i * 16 + 16 ≡ (c.loop-i.i + 1) * 16 = omega arith in rw next at (skip_next (g.S.Side.test c.args.level) c.args.levels.now (c.loop-i.i * 16) (c.loop-i.i * 16 + 16) (omega arith) (search rules) (search rules) c.loop-i.invariant)

pub returns : goal.returns
returns g c = let all : c.loop-i.i ≡ length c.args.levels.now / 16 = omega arith in rw all at c.loop-i.invariant
