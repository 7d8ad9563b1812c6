-- `level_range::lowest_odd_level` meets its contract: the fold by `min`, each even level counting as 255, is the lowest odd.
-- Assumes nothing.
use Rattle.std.proofs.Common.{◌≡◌, ◌∙◌, min, if◌then◌else◌, rules}
use Rattle.std.specs.List.{fold}
use Rattle.laws.specs.Choice.{is_odd}
use Rattle.level_range.proofs.ScanLaws.{odd_folded}
use Rattle.level_range.proofs.lowest_odd_level.Goals as goal

pub returns : goal.returns
returns c =
    let folded : c.fold.result ≡ fold (λ b l. min b (if is_odd l then l else 255)) 255 c.args.levels.now = search rules in
    folded ∙ odd_folded c.args.levels.now
