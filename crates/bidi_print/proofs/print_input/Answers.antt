-- `bidi_print::print_input` meets its contract: the lines of the bytes that were read are those of the output. Assumes nothing.
use Rattle.bidi_print.proofs.OutputLaws.{start_printed}
use Rattle.bidi_print.proofs.print_input.Goals as goal

pub returns-clause-printed : goal.returns-clause-printed
returns-clause-printed g c = start_printed _ _ _ _ _ c.in_ok-count.ensures.start c.print_lines.ensures
