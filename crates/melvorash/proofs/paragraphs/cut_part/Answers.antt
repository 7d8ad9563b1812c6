-- `melvorash::paragraphs::cut_part` meets its contract: the first part, as long as the answer says, is the paragraph.
-- Assumes nothing.
use mathlib.Core.Path.{sym, ap, ◌∙◌}
use lib.Seq.{length-take-le}
use Rattle.melvorash.specs.Answers.{part_length}
use Rattle.melvorash.proofs.CutLaws.{part_given}
use Rattle.melvorash.proofs.paragraphs.cut_part.Goals as goal

pub slice_bounds-result-end : goal.slice_bounds-result-end
slice_bounds-result-end c = sym (length-take-le _ _ (part_given _ _ (c.part_length-length.ensures ∙ ap part_length c.cut.ensures)).within)

pub returns : goal.returns
returns c = (part_given _ _ (c.part_length-length.ensures ∙ ap part_length c.cut.ensures)).part
