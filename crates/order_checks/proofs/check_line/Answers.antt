-- `order_checks::check_line` meets its contract: what both forms refuse, or where there is nothing the refusal of the line.
-- Assumes nothing.
use Rattle.rules.specs.Refusals.{checks_of_line}
use Rattle.refusals.proofs.PageLaws.{stops, goes_on}
use Rattle.order_checks.proofs.check_line.Goals as goal

pub returns-in_err-check_order : goal.returns-in_err-check_order
unfolding checks_of_line
returns-in_err-check_order c = stops _ _ _ _ c.from_residual.ensures.1 c.in_err-check_order.ensures

pub returns : goal.returns
unfolding checks_of_line
returns c = goes_on _ _ c.in_ok-check_order.ensures c.check_places.ensures
