-- `kept::gather` meets its contract: where nothing is removed the levels are what is kept of them, and the positions go up by one.
-- Assumes nothing.
use Rattle.laws.proofs.Tests.{known}
use Rattle.kept.proofs.GatherLaws.{all_gathered}
use borrow.Author.Rules.{rules}
use Rattle.kept.proofs.gather.Goals as goal

pub returns-else-any_removed : goal.returns-else-any_removed
returns-else-any_removed c =
    let args = c.args in
    all_gathered args.from.0 args.classes.now args.levels.now _ _ (search rules) (known c.any_removed.ensures c.if-any_removed.false) c.number_all.ensures
