-- `printing::put_line` meets its contract: the classes that were read tell the whole line.
-- Assumes nothing.
use mathlib.Core.Path.{refl}
use Rattle.writing.proofs.TextLaws.{writes_same}
use Rattle.printing.proofs.PrintLaws.{line_told}
use Rattle.printing.proofs.put_line.Goals as goal

pub returns : goal.returns
returns c = writes_same (line_told refl c.read_request.ensures.request_value c.read_request.ensures.fallback_value c.read_classes-count.ensures) c.put_paragraph.ensures
