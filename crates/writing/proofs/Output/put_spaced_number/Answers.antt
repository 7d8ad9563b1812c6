-- `writing::Output::put_spaced_number` meets its contract: a space, then the number. Assumes nothing.
use Rattle.writing.proofs.TextLaws.{writes_then}
use Rattle.writing.proofs.Output.put_spaced_number.Goals as goal

pub returns : goal.returns
returns c = writes_then c.put_byte.ensures c.put_number.ensures
