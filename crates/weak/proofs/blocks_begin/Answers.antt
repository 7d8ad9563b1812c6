-- `weak::blocks_begin` meets its contract: no rule asks for a type of the blocks that are passed. Assumes nothing.
use Prim.Native.Nat.{ℕ, ◌+◌, ◌-◌, ◌*◌}
use native.Mathlib.Omega.{arith}
use mathlib.Core.Bool.{false}
use mathlib.Core.Path.{◌≡◌}
use lib.ListN.{length, take, drop}
use Rattle.laws.specs.Any.{any_of}
use Rattle.laws.proofs.Tests.{known}
use Rattle.weak.specs.Touched.{is_touched}
use Rattle.weak.proofs.TouchedLaws.{block_more, none_behind}
use Rattle.weak.proofs.blocks_begin.Goals as goal

pub loop-n-init : goal.loop-n-init
loop-n-init c = none_behind c.args.types.now _ (omega arith)

pub loop-n-preserved : goal.loop-n-preserved
loop-n-preserved c =
    let size : ℕ = length c.args.types.now in
    let end : ℕ = size - c.loop-n.n * 64 in
    let here : any_of is_touched (take (end - (end - 64)) (drop (end - 64) c.args.types.now)) ≡ false = known (c.any.ensures is_touched (λ t b h k. k)) c.if-any.false in
    let next : end - 64 ≡ size - (c.loop-n.n + 1) * 64 = omega arith in
    rw next at (block_more c.args.types.now (end - 64) end (omega arith) (omega arith) here c.loop-n.invariant)
