-- `melvorash::paragraphs::cut` meets its contract: the invariant is where the walk stands at i; each way through the loop is a law of it.
-- Assumes nothing.
use Rattle.std.proofs.Common.{rules, arith, ◌≡◌, refl, ap, ◌∙◌, length}
use Rattle.rules.specs.Jobs.{accepted}
use Rattle.laws.proofs.Tests.{known}
use Rattle.melvorash.proofs.CutLaws.{cut_of, walk_begun, cut_none, cut_done, cut_long, cut_stop, cut_on}
use Rattle.melvorash.proofs.paragraphs.cut.Goals as goal

pub returns-then-is_empty : goal.returns-then-is_empty
returns-then-is_empty c = cut_none _ (search rules)

pub loop-i-init : goal.loop-i-init
loop-i-init c = walk_begun _ _ (search rules)

pub returns-then-i-eq-LONGEST : goal.returns-then-i-eq-LONGEST
returns-then-i-eq-LONGEST c =
    let w = c.loop-i.invariant in
    cut_long _ _ _ w c.loop-i-test.true c.if-i-eq-LONGEST.true ∙ cut_of _ w.some

pub returns-then-is_fault : goal.returns-then-is_fault
returns-then-is_fault c =
    let w = c.loop-i.invariant in
    c.stop_at.ensures
    ∙ cut_stop _ _ _ w c.loop-i-test.true c.if-i-eq-LONGEST.false refl (known c.is_fault.ensures c.if-is_fault.true)
    ∙ cut_of _ w.some

pub loop-i-preserved : goal.loop-i-preserved
loop-i-preserved c =
    cut_on _ _ _ c.loop-i.invariant c.loop-i-test.true c.if-i-eq-LONGEST.false (known c.is_fault.ensures c.if-is_fault.false)

pub returns : goal.returns
returns c =
    let w = c.loop-i.invariant in
    let whole : length c.args.classes.now ≡ c.loop-i.i = omega (arith, c.loop-i.auto.i-end) in
    ap accepted whole ∙ cut_done _ _ _ w c.loop-i-test.false ∙ cut_of _ w.some
