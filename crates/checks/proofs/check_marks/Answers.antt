-- `checks::check_marks` meets its contract: the refusal of the count, or where there is none that of the room. Assumes nothing.
use Rattle.refusals.proofs.PageLaws.{stops, goes_on}
use Rattle.checks.proofs.CountLaws.{marks_counted}
use Rattle.checks.proofs.check_marks.Goals as goal

pub returns-in_err-check_count : goal.returns-in_err-check_count
returns-in_err-check_count c = rw marks_counted (stops _ _ _ _ c.from_residual.ensures.1 c.in_err-check_count.ensures)

pub returns : goal.returns
returns c = rw marks_counted (goes_on _ _ c.in_ok-check_count.ensures c.check_mark_room.ensures)
