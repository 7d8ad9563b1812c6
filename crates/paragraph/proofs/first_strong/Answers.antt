use Rattle.laws.proofs.Tests.{known}
use Rattle.paragraph.proofs.BaseLaws.{search_found, search_on, search_none}
use Rattle.paragraph.proofs.first_strong.Goals as goal

pub returns-then-is_strong : goal.returns-then-is_strong
returns-then-is_strong c =
    search_found _ _ _ c.loop-class.invariant c.loop-class-test.true (known c.is_strong.ensures c.if-is_strong.true)

pub loop-class-preserved : goal.loop-class-preserved
loop-class-preserved c =
    search_on _ _ _ c.loop-class.invariant c.loop-class-test.true (known c.is_strong.ensures c.if-is_strong.false)

pub returns : goal.returns
returns c = search_none _ _ _ c.loop-class.invariant c.loop-class-test.false
