-- `melvorash::order::order_line` meets its contract: a refusal leaves the buffer, and else the checks give what the work asks for; demand 3 follows from what is left.
-- Assumes nothing.
use Rattle.melvorash.proofs.OrderLaws.{line_handed, line_written}
use mathlib.Core.Path.{sym}
use native.Mathlib.Omega.{arith}
use Rattle.rules.proofs.SoundLaws.{line_sound}
use Rattle.melvorash.proofs.order.order_line.Goals as goal

pub order_line-placed-requires : goal.order_line-placed-requires
order_line-placed-requires c =
    let s = line_sound _ _ _ _ _ _ (sym c.in_ok-check_line.ensures) in
    record { from_le_to = omega arith; to_in_bounds = s.within; classes_in_bounds = s.order.fits; classes_len_bound = s.order.few; from_in_bounds = s.fits }

pub returns-in_err-check_line : goal.returns-in_err-check_line
returns-in_err-check_line c = line_handed _ _ _ _ _ _ _ _ c.from_residual.ensures.1 c.in_err-check_line.ensures

pub returns : goal.returns
returns c =
    line_written _ _ _ _ _ _ _ _ (sym c.in_ok-check_line.ensures)
    c.order_line-placed.ensures
