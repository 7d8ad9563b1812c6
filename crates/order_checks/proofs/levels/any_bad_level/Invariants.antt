-- `order_checks::levels::any_bad_level` meets its contract: what is found so far, or is in what is left of both, is in the
-- lists. Assumes nothing.
use Rattle.std.proofs.Common.{◌≡◌, ◌||◌, ◌≤◌, length, drop}
use Rattle.rules.specs.Refusals.{is_bad_level}
use Rattle.laws.specs.Any.{any_pair}
use Rattle.order_checks.proofs.levels.any_bad_level.Given as goal

abbrev pub invariant-loop-i : goal.invariant-loop-i
invariant-loop-i l =
    (length l.classes ≤ length l.levels) × ((l.bad || any_pair is_bad_level (drop l.i l.classes) (drop l.i l.levels)) ≡ any_pair is_bad_level l.classes l.levels)
