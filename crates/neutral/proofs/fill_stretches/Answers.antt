-- `neutral::fill_stretches` meets its contract: it goes from stretch to stretch of neutrals. Assumes nothing.
use Prim.Native.Nat.{◌+◌}
use native.Mathlib.Omega.{arith}
use borrow.Author.Rules.{rules}
use borrow.Author.Tests.{tests}
use Rattle.rules.specs.Classes.{is_neutral}
use Rattle.neutral.proofs.StretchLaws.{Stands, is_other, led_to, stands_begun, stretch_behind, stretch_at_once, stretch_filled, stands_done, stretch_goes_on}
use Rattle.neutral.proofs.fill_stretches.Goals as goal
use Rattle.neutral.proofs.fill_stretches.Goals.{then-at-from, else-at-from}

pub loop-at-init : goal.loop-at-init
loop-at-init c = stands_begun _ c.requires

pub overflow_add-from : goal.overflow_add-from
overflow_add-from c =
    let from = led_to is_other c.args.types.now c.loop-at.at _ c.loop-at.invariant.written.within (c.leading.ensures is_other (λ t b h k. search (rules, tests))) in
    omega (arith, from)

pub slice_bounds-leading-count-in-loop-at : goal.slice_bounds-leading-count-in-loop-at
slice_bounds-leading-count-in-loop-at c =
    let from = led_to is_other c.args.types.now c.loop-at.at _ c.loop-at.invariant.written.within (c.leading.ensures is_other (λ t b h k. search (rules, tests))) in
    omega (arith, from)

pub slice_bounds-leading-start-in-loop-at : goal.slice_bounds-leading-start-in-loop-at
slice_bounds-leading-start-in-loop-at c =
    let from = led_to is_other c.args.types.now c.loop-at.at _ c.loop-at.invariant.written.within (c.leading.ensures is_other (λ t b h k. search (rules, tests))) in
    from.1

pub overflow_add-end : goal.overflow_add-end
overflow_add-end c =
    let from = led_to is_other c.args.types.now c.loop-at.at _ c.loop-at.invariant.written.within (c.leading.ensures is_other (λ t b h k. search (rules, tests))) in
    let end = led_to is_neutral c.args.types.now _ _ from.1 (c.leading-in-loop-at.ensures is_neutral (λ t b h k. k)) in
    omega (arith, end)

pub bounds-types-from : goal.bounds-types-from
bounds-types-from c =
    let from = led_to is_other c.args.types.now c.loop-at.at _ c.loop-at.invariant.written.within (c.leading.ensures is_other (λ t b h k. search (rules, tests))) in
    omega (arith, from)

pub slice_bounds-fill-end : goal.slice_bounds-fill-end
slice_bounds-fill-end c =
    let from = led_to is_other c.args.types.now c.loop-at.at _ c.loop-at.invariant.written.within (c.leading.ensures is_other (λ t b h k. search (rules, tests))) in
    let end = led_to is_neutral c.args.types.now _ _ from.1 (c.leading-in-loop-at.ensures is_neutral (λ t b h k. k)) in
    omega (arith, end, c.loop-at.invariant.written.long)

pub loop-at-smaller : goal.loop-at-smaller
loop-at-smaller c =
    let from = led_to is_other c.args.types.now c.loop-at.at _ c.loop-at.invariant.written.within (c.leading.ensures is_other (λ t b h k. search (rules, tests))) in
    let end = led_to is_neutral c.args.types.now _ _ from.1 (c.leading-in-loop-at.ensures is_neutral (λ t b h k. k)) in
    let on = stretch_goes_on c.args.types.now c.loop-at.at _ _ c.loop-at-test.true from.0 end.0 in
    omega (arith, end, on)

pub loop-at-preserved : goal.loop-at-preserved
loop-at-preserved c =
    let from = led_to is_other c.args.types.now c.loop-at.at _ c.loop-at.invariant.written.within (c.leading.ensures is_other (λ t b h k. search (rules, tests))) in
    let end = led_to is_neutral c.args.types.now _ _ from.1 (c.leading-in-loop-at.ensures is_neutral (λ t b h k. k)) in
    let ready : Stands c.args.finals c.args.sides.sor c.args.sides.eor c.args.types.now c.loop-at.levels c.if-at-from.before (c.loop-at.at + c.leading.result) =
    elim c.if-at-from.branch [
      | then-at-from w ↦ rw w.before-is (stretch_behind c.loop-at.invariant from.0 w.if-at-from.true)
      | else-at-from w ↦ rw w.before-is (stretch_at_once c.loop-at.invariant from.0 w.if-at-from.false)
    ] in
    stretch_filled ready end.0 c.element_or-next.ensures c.change_neutral-changed.ensures c.of_type.ensures c.fill.ensures

pub returns : goal.returns
returns c = stands_done c.loop-at.invariant (omega arith)
