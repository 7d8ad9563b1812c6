-- `weak::touched_end` meets its contract: none is behind the last one before the blocks, nor in the blocks. Assumes nothing.
use Rattle.weak.proofs.TouchedLaws.{before_blocks}
use Rattle.weak.proofs.touched_end.Goals as goal

pub returns-clause-types_value : goal.returns-clause-types_value
returns-clause-types_value c =
    before_blocks c.args.types.now c.blocks_begin-begin.result c.last_touched-2.result c.blocks_begin-begin.ensures.upper_bound
    c.last_touched-2.ensures.upper_bound c.last_touched-2.ensures.types_value c.blocks_begin-begin.ensures.types_value
