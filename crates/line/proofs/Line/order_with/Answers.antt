-- `line::Line::order_with` meets its contract: what the reset, the gathering, the two bounds and the passes leave in turn is the order of the line, and
-- the sum over its levels is what the passes reverse; where no odd level is reached the passes are none.
-- Assumes nothing.
use Rattle.reversal.proofs.PassLaws.{none_below}
use Rattle.line.proofs.LineLaws.{lowest_some, count_within, none_reversed, line_ordered}
use native.Mathlib.Omega.{arith}
use lib.Seq.{length-take-le}
use borrow.Author.Rules.{rules}
use Rattle.line.proofs.Line.order_with.Goals as goal

pub returns-then-top-lowest : goal.returns-then-top-lowest
returns-then-top-lowest c =
    let l = c.args.self.now in
    line_ordered l.base l.from l.classes.now l.levels.now c.args.work.now _ _ _ _ _ l.levels_len c.reset.ensures c.gather-count.ensures
    _ _ _ _ (search rules) c.highest_level-top.ensures c.lowest_odd_level-lowest.ensures (none_below _ _ _ _ c.if-top-lowest.true)
    (none_reversed l.base l.from l.classes.now l.levels.now c.args.work.now _ _ _ _ _ l.levels_len c.reset.ensures c.gather-count.ensures _ _ c.highest_level-top.ensures c.if-top-lowest.true)

pub reversed-reversed-requires-clause-le_lowest : goal.reversed-reversed-requires-clause-le_lowest
reversed-reversed-requires-clause-le_lowest c = lowest_some _ c.lowest_odd_level-lowest.ensures

pub reversed-reversed-requires-clause-levels_len_bound : goal.reversed-reversed-requires-clause-levels_len_bound
reversed-reversed-requires-clause-levels_len_bound c =
    let l = c.args.self.now in
    let n = count_within l.base l.from l.classes.now l.levels.now c.args.work.now _ _ _ _ _ l.levels_len c.reset.ensures c.gather-count.ensures in
    let short = l.len_bound in
    omega (arith, length-take-le c.gather-count.result c.gather-count.new.levels (search rules))

pub returns : goal.returns
returns c =
    let l = c.args.self.now in
    line_ordered l.base l.from l.classes.now l.levels.now c.args.work.now _ _ _ _ _ l.levels_len c.reset.ensures c.gather-count.ensures
    _ _ _ _ (search rules) c.highest_level-top.ensures c.lowest_odd_level-lowest.ensures c.reversal_pass.ensures c.reversed-reversed.ensures
