-- `checks::check_levels` meets its contract: the refusal of the classes, or where there is none that of the request. Assumes nothing.
use Rattle.rules.specs.Refusals.{checks_of_levels}
use Rattle.refusals.proofs.PageLaws.{stops, goes_on}
use Rattle.checks.proofs.check_levels.Goals as goal

pub returns-in_err-check_classes : goal.returns-in_err-check_classes
unfolding checks_of_levels
returns-in_err-check_classes c = stops _ _ _ _ c.from_residual.ensures.1 c.in_err-check_classes.ensures

pub returns : goal.returns
unfolding checks_of_levels
returns c = goes_on _ _ c.in_ok-check_classes.ensures c.check_request.ensures
