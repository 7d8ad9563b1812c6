-- `order_checks::ends_rise` meets its contract: the ends from a place on rise from the one before exactly where all of them do.
-- Assumes nothing.
use Rattle.std.proofs.Common.{◌≡◌, drop}
use Rattle.rules.specs.Refusals.{ends_rise_to}
use Rattle.order_checks.proofs.ends_rise.Given as goal

abbrev pub invariant-loop-end : goal.invariant-loop-end
invariant-loop-end l = ends_rise_to l.before (drop l.end-index l.ends) l.last ≡ ends_rise_to 0 l.ends l.last
