-- `melvorash::paragraphs::stop_at` meets its contract: each return is one way through the tests.
-- Assumes nothing.
use borrow.Author.Tests.{eq-eqb, ne_eqb}
use Rattle.laws.proofs.Tests.{known}
use Rattle.melvorash.specs.Stops.{stop_at}
use Rattle.melvorash.proofs.paragraphs.stop_at.Goals as goal

pub returns-then-is_unknown : goal.returns-then-is_unknown
unfolding stop_at
returns-then-is_unknown c = rw (known c.is_unknown.ensures c.if-is_unknown.true)

pub returns-then-i-eq-LONGEST : goal.returns-then-i-eq-LONGEST
unfolding stop_at
returns-then-i-eq-LONGEST c =
    rw (known c.is_unknown.ensures c.if-is_unknown.false, known c.is_pair.ensures c.if-is_pair.true, eq-eqb _ _ c.if-i-eq-LONGEST.true)

pub returns-then-is_pair : goal.returns-then-is_pair
unfolding stop_at
returns-then-is_pair c =
    rw (known c.is_unknown.ensures c.if-is_unknown.false, known c.is_pair.ensures c.if-is_pair.true, ne_eqb _ _ c.if-i-eq-LONGEST.false)

pub returns : goal.returns
unfolding stop_at
returns c =
    rw (known c.is_unknown.ensures c.if-is_unknown.false, known c.is_pair.ensures c.if-is_pair.false)
