-- `checks::faults::first_fault` meets its contract: the walk finds it, or where nothing is wrong before what closes the
-- paragraph it is what stands there.
-- Assumes nothing.
use mathlib.Core.Path.{sym}
use native.Mathlib.Omega.{arith}
use lib.Seq.{length-take-le}
use Rattle.laws.proofs.Tests.{known}
use Rattle.checks.specs.Faults.{is_fault}
use Rattle.checks.proofs.FaultLaws.{closing_is_first, Closing, closing}
use Rattle.checks.proofs.faults.first_fault.Goals as goal
use Rattle.checks.proofs.faults.first_fault.Goals.{After-closing_at-closing}

closes : (c : After-closing_at-closing) → Closing c.args.classes.now c.closing_at-closing.result
closes c = closing c.args.classes.now _ c.requires c.closing_at-closing.ensures

pub slice_bounds-any-end : goal.slice_bounds-any-end
slice_bounds-any-end c =
    let at = (closes (goal.at.slice_bounds-any-end c).After-closing_at-closing).within in
    sym (length-take-le _ _ (omega (arith, at)))

pub fault_at-requires : goal.fault_at-requires
fault_at-requires c = (closes (goal.at.fault_at-requires c).After-closing_at-closing).within

pub returns : goal.returns
returns c =
    let at = closes (goal.at.returns c).After-closing_at-closing in
    closing_is_first _ _ _ at.within at.ends
    (known (c.any.ensures is_fault (λ t b fits gives. gives)) c.if-any.false) c.fault_at.ensures
