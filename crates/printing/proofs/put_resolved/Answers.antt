-- `printing::put_resolved` meets its contract: the checks found nothing wrong, so Order does not refuse, and its buffer begins with the order.
-- Assumes nothing.
use mathlib.Core.Path.{sym, ap}
use lib.Seq.{length-take-le}
use Rattle.rules.proofs.SoundLaws.{line_sound}
use Rattle.melvorash.specs.Answers.{order_page}
use Rattle.writing.proofs.TextLaws.{writes_same}
use Rattle.printing.specs.Printing.{paragraph_rows}
use Rattle.printing.proofs.TextLaws.{order_not_refused, order_within, order_front}
use Rattle.printing.proofs.put_resolved.Goals as goal

pub slice_bounds-put_rows-end : goal.slice_bounds-put_rows-end
slice_bounds-put_rows-end c = sym (length-take-le _ _ (line_sound _ _ _ _ _ _ c.requires).order.fits)

pub slice_bounds-order-end : goal.slice_bounds-order-end
slice_bounds-order-end c = order_within c.requires c.order_line.ensures (ap order_page c.in-Ok.is)

pub slice_bounds-put_rows-end-in-Ok : goal.slice_bounds-put_rows-end-in-Ok
slice_bounds-put_rows-end-in-Ok c = sym (length-take-le _ _ (order_within c.requires c.order_line.ensures (ap order_page c.in-Ok.is)))

pub returns-in-Ok : goal.returns-in-Ok
returns-in-Ok c = writes_same (ap (paragraph_rows _ _) (order_front c.requires c.order_line.ensures (ap order_page c.in-Ok.is))) c.put_rows.ensures

pub returns-in-Err : goal.returns-in-Err
returns-in-Err c = absurd (order_not_refused c.requires c.order_line.ensures (ap order_page c.in-Err.is))
