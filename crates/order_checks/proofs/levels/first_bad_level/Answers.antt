-- `order_checks::levels::first_bad_level` meets its contract: the walk finds it, or there is none.
-- Assumes nothing.
use mathlib.Core.Path.{sym}
use Rattle.laws.proofs.Tests.{known}
use Rattle.order_checks.proofs.LevelLaws.{none_bad}
use Rattle.order_checks.proofs.levels.first_bad_level.Goals as goal

pub returns : goal.returns
returns c = sym (none_bad _ _ _ (known c.any_bad_level.ensures c.if-any_bad_level.false))
