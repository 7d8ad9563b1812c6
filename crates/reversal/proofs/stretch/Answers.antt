-- `reversal::stretch` meets its contract: what is passed over by blocks, and what comes first of the rest.
-- Assumes nothing.
use Rattle.std.proofs.Common.{◌≡◌, ◌+◌, ◌-◌, length, take, drop, length-drop, true, false, ap, arith}
use lib.Seq.{take_all}
use borrow.Author.Tests.{tests}
use borrow.Author.Rules.{rules}
use Rattle.std.specs.Option.{unwrap_or}
use Rattle.std.proofs.lemmas.Iterator.{YieldsList-from_slice, IsFirst-from_position}
use Rattle.laws.specs.Stretches.{span}
use Rattle.reversal.proofs.BlockLaws.{span_searched}
use Rattle.reversal.proofs.stretch.Goals as goal

pub returns : goal.returns
returns g c =
    let test = g.S.Side.test c.args.level in
    let near = c.blocks-near.result in
    let part = take (length c.args.levels.now - c.args.from.0) (drop c.args.from.0 c.args.levels.now) in
    let rest = take (length part - near) (drop near part) in
    let lent : span test part ≡ span test (drop c.args.from.0 c.args.levels.now) = ap (span test) (take_all _ _ (search (rules, length-drop))) in
    let found : near + unwrap_or c.position-more.result (length rest) ≡ span test part =
    span_searched test part rest near c.position-more.result c.blocks-near.ensures (take_all _ _ (search (rules, length-drop)))
    (IsFirst-from_position _ _ c.position-more.result (λ x. test x ≡ false) (λ x. test x ≡ true) c.position-more.ensures.ran (YieldsList-from_slice rest cc) (λ x q k. search (rules, tests)) (λ x q k. search (rules, tests))) in
    omega (arith, c.unwrap_or.ensures, found, lent)
