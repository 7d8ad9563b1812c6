-- `paragraph::is_pair` meets its contract: each return is one way through the tests. Assumes nothing.
use Rattle.std.proofs.Common.{arith, ◌+◌, ◌∙◌, sym, ne_eqb}
use Rattle.rules.proofs.PairLaws.{not_CR, pair_read, pair_past}
use Rattle.paragraph.proofs.is_pair.Goals as goal

pub returns-then-classes-at : goal.returns-then-classes-at
returns-then-classes-at c = sym (pair_past _ c.args.classes.now (c.args.at + 1) (omega (arith, c.if-classes-at.true)))

pub returns-then-classes-at-eq-CR : goal.returns-then-classes-at-eq-CR
returns-then-classes-at-eq-CR c =
    let a = c.args in
    rw (c.element_or.ensures, c.if-classes-at-eq-CR.true) (pair_read a.classes.now (a.at + 1))

pub returns-else-classes-at-eq-CR : goal.returns-else-classes-at-eq-CR
returns-else-classes-at-eq-CR c =
    rw (ne_eqb _ _ c.if-classes-at-eq-CR.false) (sym (not_CR _ _ c.if-classes-at-eq-CR.false))
