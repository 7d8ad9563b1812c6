-- `resolve::plain::resolve_plain` meets its contract: the one run, resolved on a copy of the classes, is the whole.
-- Assumes nothing.
use Rattle.resolve.proofs.PlainLaws.{plain_whole}
use Rattle.resolve.proofs.plain.resolve_plain.Goals as goal

pub returns : goal.returns
returns c =
    let a = c.args in
    plain_whole a.base a.classes.now a.levels.now a.types.now c.requires.classes_value c.boundary_type-side.ensures c.copy.ensures c.resolve_run.ensures
