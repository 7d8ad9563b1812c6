-- `bidi_print::print_lines` meets its contract: each line's output stands behind that of the lines before it. Assumes nothing.
use Rattle.std.proofs.Common.{◌∙◌}
use Rattle.bidi_print.proofs.OutputLaws.{front_is, printed_line, printed_all}
use Rattle.bidi_print.proofs.print_lines.Goals as goal

pub loop-from-preserved : goal.loop-from-preserved
loop-from-preserved g c =
    let is = front_is _ _ _ _ c.loop-from.invariant.room c.print_line-count.ensures.prints in
    record {
      room = c.print_line-count.auto.out ∙ c.loop-from.invariant.room;
      so_far = printed_line _ _ _ _ _ _ _ c.loop-from.invariant.so_far c.loop-from-test.true c.part_end-end.ensures c.in_ok-write_all.ensures.bytes is;
    }

pub returns : goal.returns
returns g c = printed_all _ _ _ _ c.loop-from.invariant.so_far c.loop-from-test.false
