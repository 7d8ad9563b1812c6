-- `neutral::spread_short` meets its contract: it goes from stretch to stretch of neutrals. Assumes nothing.
use mathlib.Core.Path.{◌≡◌, refl}
use mathlib.Core.Bool.{false}
use native.Mathlib.Omega.{arith}
use lib.ListN.{get_or}
use Rattle.laws.proofs.Passes.{Spread, span_there, get_or_within}
use Rattle.laws.proofs.Tests.{known}
use Rattle.rules.specs.Classes.{is_neutral}
use Rattle.neutral.specs.Finals.{final_level}
use Rattle.neutral.proofs.SpreadLaws.{change, waiting_begun, waiting_next, waiting_over, waiting_filled, waiting_ended, waiting_done}
use Rattle.neutral.proofs.spread_short.Goals as goal
use Rattle.neutral.proofs.spread_short.Goals.{then-from-i, else-from-i}

pub loop-i-init : goal.loop-i-init
loop-i-init c = waiting_begun _ c.requires

pub loop-i-preserved-then-is_neutral : goal.loop-i-preserved-then-is_neutral
loop-i-preserved-then-is_neutral c = waiting_next c.loop-i.invariant c.loop-i-test.true (known c.is_neutral.ensures c.if-is_neutral.true)

pub loop-i-preserved : goal.loop-i-preserved
loop-i-preserved c =
    let now = c.loop-i.invariant in
    let other : is_neutral (get_or c.args.types.now c.loop-i.i 0) ≡ false = known c.is_neutral.ensures c.if-is_neutral.false in
    let ready : Spread (final_level c.args.finals) is_neutral (change c.args.finals.own) c.args.sides.eor c.args.sides.sor c.args.types.now c.if-from-i.levels c.loop-i.before c.loop-i.i =
    elim c.if-from-i.branch [
      | then-from-i w ↦
          rw w.levels-is (waiting_filled now (span_there is_neutral _ _ c.loop-i-test.true other) (get_or_within _ _ _ _ c.loop-i-test.true) w.change_neutral-changed.ensures w.of_type.ensures w.fill.ensures)
      | else-from-i w ↦
          let none : c.loop-i.from ≡ c.loop-i.i = omega (arith, now.order) in
          rw (w.levels-is, ← none) now.written
    ] in
    waiting_over ready c.loop-i-test.true refl other c.of_type-in-loop-i.ensures

pub returns-then-from-types : goal.returns-then-from-types
returns-then-from-types c = waiting_ended c.loop-i.invariant (omega arith) c.change_neutral-changed-then-from-types.ensures c.of_type-then-from-types.ensures c.fill-then-from-types.ensures

pub returns-else-from-types : goal.returns-else-from-types
returns-else-from-types c = waiting_done c.loop-i.invariant (omega arith)
