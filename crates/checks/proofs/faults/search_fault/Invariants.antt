-- `checks::faults::search_fault` meets its contract: the first fault from a place on is the first of all. Assumes nothing.
use Rattle.std.proofs.Common.{◌≡◌, drop}
use Rattle.rules.specs.Refusals.{first_fault}
use Rattle.checks.proofs.faults.search_fault.Given as goal

abbrev pub invariant-loop-i : goal.invariant-loop-i
invariant-loop-i l = first_fault l.i (drop l.i l.classes) ≡ first_fault 0 l.classes
