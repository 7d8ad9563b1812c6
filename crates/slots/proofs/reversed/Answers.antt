-- `slots::reversed` meets its contract: what is added for a level, less the one below the lowest, is what its slot counts.
-- Assumes nothing.
use Rattle.std.proofs.Common.{◌≡◌, ◌∙◌, ◌-◌, ◌≤◌, ℕ, suc, List, [], ◌∷◌, refl, arith, rules}
use Rattle.std.specs.List.{sum_by}
use Rattle.std.proofs.lemmas.List.Sums.{sum_by-cons}
use Rattle.laws.specs.Sums.{sum_of}
use Rattle.rules.specs.Reversals.{slots}
use Rattle.slots.proofs.reversed.Goals as goal

slots_are : (lowest : ℕ) (ls : List ℕ) → 1 ≤ lowest → sum_by (λ l. l - (lowest - 1)) ls ≡ slots lowest ls
unfolding slots
slots_are lowest [] h = refl
slots_are lowest (l ∷ ls) h = let rest : sum_by (λ l. l - (lowest - 1)) ls ≡ sum_of (λ l. suc l - lowest) ls = slots_are lowest ls h in omega (arith, sum_by-cons (λ l. l - (lowest - 1)) l ls)

pub returns : goal.returns
returns c =
    let added : c.sum-total.result ≡ sum_by (λ l. l - (c.args.lowest - 1)) c.args.levels.now = search rules in
    added ∙ slots_are c.args.lowest c.args.levels.now c.requires.le_lowest
