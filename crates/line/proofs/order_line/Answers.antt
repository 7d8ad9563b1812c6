-- `line::order_line` meets its contract: either way the order is that of the parts of the classes and levels that belong to the line.
-- Assumes nothing.
use Rattle.line.proofs.LineLaws.{ordered_of_parts}
use Rattle.line.proofs.order_line.Goals as goal

pub returns-then-to-from-le-SHORT : goal.returns-then-to-from-le-SHORT
returns-then-to-from-le-SHORT c =
    let args = c.args in
    ordered_of_parts args.base args.from args.to args.classes.now args.levels.now _ _ _ c.order_within.ensures

pub returns-else-to-from-le-SHORT : goal.returns-else-to-from-le-SHORT
returns-else-to-from-le-SHORT c =
    let args = c.args in
    ordered_of_parts args.base args.from args.to args.classes.now args.levels.now _ _ _ c.order_within-else-to-from-le-SHORT.ensures
