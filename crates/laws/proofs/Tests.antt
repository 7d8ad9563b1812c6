-- The laws of the tests on numbers, as one set: with it `search` closes each return of a chain of tests. And what tests
-- give together. Assumes nothing.
use Prim.Native.Nat.{ℕ}
use native.Mathlib.Omega.{arith}
use mathlib.Core.Path.{◌≡◌, refl, sym, ◌∙◌}
use mathlib.Core.Bool.{Bool, true, false, ◌&&◌}
use borrow.Author.Tests.{eq-eqb, ne_eqb, lt-ltb, le-ltb, le-leb, lt-leb}

pub ruleset tests = (eq-eqb, ne_eqb, lt-ltb, le-ltb, le-leb, lt-leb)

-- a function that answers a test, and the branch that its answer took: what the test gives
pub known : {b test value : Bool} → b ≡ test → b ≡ value → test ≡ value
known e h = sym e ∙ h

-- no test both holds and fails
pub not_both : {test : Bool} → test ≡ true → test ≡ false → ⊥
not_both holds fails = let z : true ≡ false = sym holds ∙ fails in let n : ◌≡◌ {A = ℕ} 0 1 = cc in omega arith

pub and_true : (b : Bool) → (b && true) ≡ b
and_true true = refl
and_true false = refl

pub and_false : (b : Bool) → (b && false) ≡ false
and_false true = refl
and_false false = refl
