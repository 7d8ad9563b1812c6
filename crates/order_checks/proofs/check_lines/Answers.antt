-- `order_checks::check_lines` meets its contract: what both forms refuse, or where there is nothing the refusal of the ends.
-- Assumes nothing.
use Rattle.rules.specs.Refusals.{checks_of_lines}
use Rattle.refusals.proofs.PageLaws.{stops, goes_on}
use Rattle.order_checks.proofs.check_lines.Goals as goal

pub returns-in_err-check_order : goal.returns-in_err-check_order
unfolding checks_of_lines
returns-in_err-check_order c = stops _ _ _ _ c.from_residual.ensures.1 c.in_err-check_order.ensures

pub returns : goal.returns
unfolding checks_of_lines
returns c = goes_on _ _ c.in_ok-check_order.ensures c.check_ends.ensures
