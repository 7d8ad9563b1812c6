-- `melvorash::order::order_lines` meets its contract: a refusal leaves the buffer, and else the checks give what the work asks for; demand 3 follows from what is left.
-- Assumes nothing.
use Rattle.melvorash.proofs.OrderLaws.{lines_handed, lines_written}
use mathlib.Core.Path.{sym}
use Rattle.rules.proofs.SoundLaws.{lines_sound}
use Rattle.melvorash.proofs.order.order_lines.Goals as goal

pub order_lines-total-requires : goal.order_lines-total-requires
order_lines-total-requires c =
    let s = lines_sound _ _ _ _ _ (sym c.in_ok-check_lines.ensures) in
    record { classes_in_bounds = s.order.fits; classes_len_bound = s.order.few; classes_value = s.rise; classes_in_bounds_2 = s.fits }

pub returns-in_err-check_lines : goal.returns-in_err-check_lines
returns-in_err-check_lines c = lines_handed _ _ _ _ _ _ _ c.from_residual.ensures.1 c.in_err-check_lines.ensures

pub returns : goal.returns
returns c =
    lines_written _ _ _ _ _ _ _ (sym c.in_ok-check_lines.ensures)
    c.order_lines-total.ensures
