-- `reading::read_start` meets its contract: one read behind another. Assumes nothing.
use Rattle.std.proofs.Common.{◌-◌, length, arith}
use Rattle.reading.proofs.StartLaws.{take_read}
use Rattle.std.proofs.KnownBytes.{Consumes-trans}
use borrow.Rule.Slice.PartMut.{same_len_mid}
use Rattle.reading.proofs.read_start.Goals as goal

pub loop-count-preserved : goal.loop-count-preserved
loop-count-preserved g c =
    let xs = c.loop-count.buffer in
    let within = c.loop-count.invariant.within in
    let more = c.in_ok-more.ensures in
    let e = take_read xs c.read.new.buf c.loop-count.count c.in_ok-more.more within more.bound.0 in
    let same = c.read.auto.buf in
    let kept = same_len_mid c.loop-count.count (length xs - c.loop-count.count) xs c.read.new.buf same in
    record {
      within = omega (arith, same, kept, more.bound.0);
      so_far = rw e (Consumes-trans _ _ _ _ _ c.loop-count.invariant.so_far more.bytes.0);
    }
