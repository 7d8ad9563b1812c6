-- `order_checks::check_order` meets its contract: the refusal of the classes, or where there is none that of what is lent.
-- Assumes nothing.
use Rattle.rules.specs.Refusals.{checks_of_order}
use Rattle.refusals.proofs.PageLaws.{stops, goes_on}
use Rattle.order_checks.proofs.check_order.Goals as goal

pub returns-in_err-check_classes : goal.returns-in_err-check_classes
unfolding checks_of_order
returns-in_err-check_classes c = stops _ _ _ _ c.from_residual.ensures.1 c.in_err-check_classes.ensures

pub returns : goal.returns
unfolding checks_of_order
returns c = goes_on _ _ c.in_ok-check_classes.ensures c.check_lent.ensures
