-- `runs::run_end` meets its contract: the run is as long as its level lasts. Assumes nothing.
use Prim.Native.Nat.{ℕ, ◌+◌, ◌-◌}
use native.Mathlib.Omega.{arith}
use borrow.Author.Rules.{rules}
use borrow.Author.Tests.{tests}
use mathlib.Core.Path.{◌≡◌, ap, ◌∙◌}
use mathlib.Core.List.{List}
use lib.Seq.{take_all}
use lib.ListN.{length, get_or, take, drop, length-drop}
use Rattle.laws.specs.Stretches.{span}
use Rattle.runs.specs.RunEnd.{RunEnd}
use Rattle.runs.proofs.RunLaws.{same_as, run_led}
use Rattle.runs.proofs.run_end.Goals as goal
use Rattle.runs.proofs.run_end.Goals.{After-leading}

the_end : (c : After-leading) → RunEnd c.args.levels.now c.args.from (c.args.from + c.leading.result)
the_end c =
    let ls : List ℕ = c.args.levels.now in
    let from : ℕ = c.args.from in
    let level : ℕ = get_or ls from 0 in
    let led : c.leading.result ≡ span (same_as level) (take (length ls - from) (drop from ls)) = c.leading.ensures (same_as level) (λ t b h k. search (rules, tests)) in
    let all : take (length ls - from) (drop from ls) ≡ drop from ls = take_all (length ls - from) (drop from ls) (omega (arith, length-drop from ls)) in
    run_led ls from (from + c.leading.result) c.requires (ap (λ (n : ℕ). from + n) (led ∙ ap (span (same_as level)) all))

pub overflow_add-result : goal.overflow_add-result
overflow_add-result c = omega (arith, (the_end c).within)

pub returns : goal.returns
returns c = the_end c
