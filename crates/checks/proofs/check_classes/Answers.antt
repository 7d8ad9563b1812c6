-- `checks::check_classes` meets its contract: the refusal of the count, or where there is none the first fault. Assumes nothing.
use Rattle.std.proofs.Common.{sym}
use Rattle.refusals.proofs.PageLaws.{stops, goes_on}
use Rattle.checks.proofs.CountLaws.{counted_some, classes_counted}
use Rattle.checks.proofs.check_classes.Goals as goal

pub returns-in_err-check_count : goal.returns-in_err-check_count
returns-in_err-check_count c = rw classes_counted (stops _ _ _ _ c.from_residual.ensures.1 c.in_err-check_count.ensures)

pub first_fault-requires : goal.first_fault-requires
first_fault-requires c = counted_some _ (sym c.in_ok-check_count.ensures)

pub returns : goal.returns
returns c = rw classes_counted (goes_on _ _ c.in_ok-check_count.ensures c.first_fault.ensures)
