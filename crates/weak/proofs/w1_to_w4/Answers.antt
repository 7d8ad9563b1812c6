-- `weak::w1_to_w4` meets its contract: what is written, then the rules on the type held and on what is left, is the
-- rules on the whole run. Assumes nothing.
use Prim.Native.Nat.{◌<◌}
use lib.ListN.{length}
use native.Mathlib.Omega.{arith}
use Rattle.std.proofs.lemmas.Bool.Decides.{nat_tests}
use Rattle.weak.proofs.EarlyLaws.{early_none, early_begun, early_next, early_done}
use Rattle.weak.proofs.w1_to_w4.Goals as goal

pub returns-then-is_empty : goal.returns-then-is_empty
returns-then-is_empty c = early_none _ _ _ (grind (arith, nat_tests))

pub loop-i-init : goal.loop-i-init
loop-i-init c =
    let some : 0 < length c.args.types.now = grind (arith, nat_tests) in
    early_begun _ c.requires (omega arith) (omega arith) (omega arith) some c.change_w1-own.ensures
    c.change-here.ensures c.carry-strong.ensures

pub loop-i-preserved : goal.loop-i-preserved
loop-i-preserved c =
    early_next c.loop-i.invariant c.requires (omega arith) (omega arith) (omega arith)
    c.change_w1-own-in-loop-i.ensures c.change-next.ensures c.carry-strong-in-loop-i.ensures c.change_w4.ensures

pub returns : goal.returns
returns c = early_done c.loop-i.invariant (omega arith) c.change_w4-2.ensures
