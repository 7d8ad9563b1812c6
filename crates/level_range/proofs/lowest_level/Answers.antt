-- `level_range::lowest_level` meets its contract: the fold by `min` is the lowest.
-- Assumes nothing.
use Rattle.std.proofs.Common.{◌≡◌, ◌∙◌, min, rules}
use Rattle.std.specs.List.{fold}
use Rattle.level_range.proofs.ScanLaws.{lowest_folded}
use Rattle.level_range.proofs.lowest_level.Goals as goal

pub returns : goal.returns
returns c =
    let folded : c.fold.result ≡ fold min 255 c.args.levels.now = search rules in
    folded ∙ lowest_folded 255 c.args.levels.now
