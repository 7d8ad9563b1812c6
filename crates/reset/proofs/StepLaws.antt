-- A separator is neither removed nor a blank, so it alone sets the flag. Assumes nothing.
use Prim.Native.Nat.{ℕ}
use mathlib.Core.Path.{◌≡◌, refl}
use mathlib.Core.Bool.{true, false, ◌||◌}
use borrow.Author.Tests.{eqb-true}
use lib.Dec.{eqb}
use Rattle.laws.proofs.Passes.{by_test}
use Rattle.rules.specs.Classes.{S, is_opening, is_removed, is_separator, is_blank}
use Rattle.rules.proofs.PairLaws.{of_ends}

pub set_by_separator : (c : ℕ) → is_separator c ≡ true → (is_removed c || is_blank c) ≡ false
unfolding is_separator is_removed is_opening is_blank
set_by_separator c e =
    by_test (eqb c S)
    (λ s. let is : c ≡ S = eqb-true c S s in rw is)
    (λ s. of_ends (λ c. (is_removed c || is_blank c) ≡ false) refl refl c (rw s at e))
