-- `order_checks::levels::search_bad_level` meets its contract: the first bad level from a place on is the first of all.
-- Assumes nothing.
use Rattle.std.proofs.Common.{◌≡◌, ◌≤◌, length, drop}
use Rattle.rules.specs.Refusals.{first_bad_level}
use Rattle.order_checks.proofs.levels.search_bad_level.Given as goal

abbrev pub invariant-loop-i : goal.invariant-loop-i
invariant-loop-i l =
    (length l.classes ≤ length l.levels) × (first_bad_level l.i (drop l.i l.classes) (drop l.i l.levels) ≡ first_bad_level 0 l.classes l.levels)
