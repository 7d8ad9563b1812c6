-- `resolve::scatter::put_back` meets its contract: the invariant is that positions from i on have their levels and those before stand as they were packed.
-- Assumes nothing.
use Rattle.resolve.proofs.ScatterLaws.{counted_down, placing_begun, place_removed, some_left, place_kept, placing_done}
use native.Mathlib.Omega.{arith}
use Rattle.laws.proofs.Tests.{known}
use Rattle.resolve.proofs.scatter.put_back.Goals as goal

pub loop-i-init : goal.loop-i-init
loop-i-init c = placing_begun _ _ _ c.requires.count_value c.requires.classes_in_bounds

pub returns-then-i-j : goal.returns-then-i-j
returns-then-i-j c = placing_done _ _ _ _ _ _ c.loop-i.invariant (omega arith)

pub overflow_sub-j : goal.overflow_sub-j
overflow_sub-j c = some_left _ _ _ _ _ _ (counted_down c.loop-i-test.true c.loop-i.invariant) (known c.is_removed.ensures c.if-is_removed.false)

pub loop-i-preserved-then-is_removed : goal.loop-i-preserved-then-is_removed
loop-i-preserved-then-is_removed c = place_removed _ _ _ _ _ _ (counted_down c.loop-i-test.true c.loop-i.invariant) (known c.is_removed.ensures c.if-is_removed.true)

pub loop-i-preserved : goal.loop-i-preserved
loop-i-preserved c = place_kept _ _ _ _ _ _ (counted_down c.loop-i-test.true c.loop-i.invariant) (known c.is_removed.ensures c.if-is_removed.false)

pub returns : goal.returns
returns c = placing_done _ _ _ _ _ _ c.loop-i.invariant (omega arith)
