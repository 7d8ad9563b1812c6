-- `weak::w5_to_w7` meets its contract: it goes from stretch to stretch of ET. Assumes nothing.
use Prim.Native.Nat.{ℕ, ◌<◌}
use native.Mathlib.Omega.{arith}
use mathlib.Core.Bool.{false}
use mathlib.Core.Path.{◌≡◌, refl}
use borrow.Author.Tests.{eq-eqb, ne_eqb}
use lib.ListN.{length, get_or}
use Rattle.rules.specs.Weak.{is_terminator}
use Rattle.laws.proofs.Passes.{span_there, get_or_within}
use Rattle.weak.proofs.LateLaws.{Late, late_begun, late_waits, late_filled, late_next, late_ended, late_done}
use Rattle.weak.proofs.w5_to_w7.Goals as goal
use Rattle.weak.proofs.w5_to_w7.Goals.{then-from-i, else-from-i}

pub loop-i-init : goal.loop-i-init
loop-i-init c = late_begun _ (omega arith)

pub loop-i-preserved-then-t-eq-ET : goal.loop-i-preserved-then-t-eq-ET
unfolding is_terminator
loop-i-preserved-then-t-eq-ET c = late_waits c.loop-i.invariant (omega arith) (eq-eqb _ _ c.if-t-eq-ET.true)

pub loop-i-preserved : goal.loop-i-preserved
unfolding is_terminator
loop-i-preserved c =
    let now : Late c.args.sides.sor c.args.sides.eor c.args.types.now c.loop-i.types c.loop-i.before c.loop-i.strong c.loop-i.from c.loop-i.i = c.loop-i.invariant in
    let below : c.loop-i.i < length c.loop-i.types = omega arith in
    let t : ℕ = get_or c.loop-i.types c.loop-i.i 0 in
    let other : is_terminator t ≡ false = ne_eqb _ _ c.if-t-eq-ET.false in
    let ready : Late c.args.sides.sor c.args.sides.eor c.args.types.now c.if-from-i.types c.loop-i.before c.loop-i.strong c.loop-i.i c.loop-i.i × (get_or c.if-from-i.types c.loop-i.i 0 ≡ t) =
    elim c.if-from-i.branch [
      | then-from-i w ↦
          rw w.types-is (late_filled now c.requires (omega arith) (span_there is_terminator _ _ below other) (get_or_within _ _ _ _ below) w.change_w5-changed.ensures w.change.ensures w.fill.ensures)
      | else-from-i w ↦
          let none : c.loop-i.from ≡ c.loop-i.i = omega (arith, now.order) in
          rw w.types-is (rw none at now, refl)
    ] in
    late_next ready.0 c.requires (omega arith) (omega arith) (omega (arith, ready.0.long, now.long)) ready.1 other c.change-own.ensures c.carry-strong.ensures

pub returns-then-from-types : goal.returns-then-from-types
returns-then-from-types c = late_ended c.loop-i.invariant c.requires (omega arith) (omega arith) c.change_w5-changed-then-from-types.ensures c.change-then-from-types.ensures c.fill-then-from-types.ensures

pub returns-else-from-types : goal.returns-else-from-types
returns-else-from-types c = late_done c.loop-i.invariant (omega arith)
