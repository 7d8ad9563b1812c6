-- `level_range::highest_level` meets its contract: the fold by `max` is the highest.
-- Assumes nothing.
use Rattle.std.proofs.Common.{◌≡◌, ◌∙◌, max, rules}
use Rattle.std.specs.List.{fold}
use Rattle.level_range.proofs.ScanLaws.{highest_folded}
use Rattle.level_range.proofs.highest_level.Goals as goal

pub returns : goal.returns
returns c =
    let folded : c.fold.result ≡ fold max 0 c.args.levels.now = search rules in
    folded ∙ highest_folded c.args.levels.now
