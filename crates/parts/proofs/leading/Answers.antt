use Rattle.std.proofs.Common.{rules, arith, ◌≡◌, sym, ◌∙◌, length}
use Rattle.laws.proofs.Passes.{span_further, span_there, span_past}
use Rattle.parts.proofs.leading.Goals as goal

pub returns-then-not-belongs : goal.returns-then-not-belongs
returns-then-not-belongs g c = λ test computes.
    sym (span_there test c.args.types.now c.loop-i.i c.loop-i-test.true (sym (computes _ _ (search rules) c.belongs.ensures) ∙ search rules))
    ∙ c.loop-i.invariant test computes

pub loop-i-preserved : goal.loop-i-preserved
loop-i-preserved g c = λ test computes.
    sym (span_further test c.args.types.now c.loop-i.i c.loop-i-test.true (sym (computes _ _ (search rules) c.belongs.ensures) ∙ search rules))
    ∙ c.loop-i.invariant test computes

pub returns : goal.returns
returns g c = λ test computes.
    let whole : length c.args.types.now ≡ c.loop-i.i = omega (arith, c.loop-i.auto.i-end) in
    whole ∙ sym (span_past test c.args.types.now c.loop-i.i c.loop-i-test.false) ∙ c.loop-i.invariant test computes
