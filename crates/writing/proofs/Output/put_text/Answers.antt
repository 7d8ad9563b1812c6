-- `writing::Output::put_text` meets its contract: the bytes before the loop's place are written. Assumes nothing.
use Rattle.writing.proofs.TextLaws.{puts_nothing, writes_same}
use Rattle.writing.proofs.EachLaws.{bytes_each, each_begun, each_next, each_done}
use Rattle.writing.proofs.Output.put_text.Goals as goal
use mathlib.Core.Path.{refl}

pub loop-byte-init : goal.loop-byte-init
loop-byte-init c = each_begun (record { puts = puts_nothing _ _ _ c.min-self.ensures; lent = refl })

pub loop-byte-preserved : goal.loop-byte-preserved
loop-byte-preserved c = each_next c.loop-byte.invariant c.loop-byte-test.true c.put_byte.ensures

pub returns : goal.returns
returns c = writes_same (bytes_each _) (each_done c.loop-byte.invariant c.loop-byte-test.false)
