-- `rows::read::written` is safe: what is written stays within the room. Assumes nothing.
use Rattle.std.proofs.Common.{◌≤◌, length}
use Rattle.rows.proofs.read.written.Given as goal

abbrev pub invariant-loop-value : goal.invariant-loop-value
invariant-loop-value g l = l.count ≤ length l.room
