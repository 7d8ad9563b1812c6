-- A number's text: the one that the library writes, and its last digit behind the text of a tenth of it. Assumes nothing.
use Prim.Native.Nat.{ℕ, zero, suc, ◌/◌, ◌%◌, ◌^◌, ◌≤◌, ◌<◌}
use native.Mathlib.Omega.{arith}
use mathlib.Core.Path.{◌≡◌, ap}
use mathlib.Core.List.{List, [], ◌∷◌, ◌++◌}
use lib.Dec.{ltb}
use borrow.Author.Tests.{ltb-false, lt-ltb, le-ltb}
use Rattle.std.proofs.lemmas.Fmt.{AppendsLastDigit, decimal_from_appends, length-decimal-le_succ}
use Rattle.std.specs.Fmt as library
use Rattle.laws.proofs.Passes.{by_test}
use Rattle.writing.specs.Text.{digit, decimal, number_text}

appends : AppendsLastDigit decimal
unfolding decimal
appends = record { one = λ k n h. rw (lt-ltb n 10 h); more = λ k n h. rw (le-ltb n 10 h) }

pub number_decimal : (n : ℕ) → n < 2 ^ 64 → number_text n ≡ library.decimal n
unfolding number_text
number_decimal n h = decimal_from_appends decimal appends (suc n) n h (omega (arith, length-decimal-le_succ n h))

-- any two bounds on the count of digits that are large enough give one text
decimal_enough : (a b n : ℕ) → n < a → n < b → decimal a n ≡ decimal b n
unfolding decimal
decimal_enough zero b n h g = absurd (omega arith)
decimal_enough (suc a) zero n h g = absurd (omega arith)
decimal_enough (suc a) (suc b) n h g =
    by_test (ltb n 10)
    (λ e. rw e)
    (λ e. let long : 10 ≤ n = ltb-false n 10 e in
    rw e (ap (λ (ds : List ℕ). ds ++ (digit (n % 10) ∷ [])) (decimal_enough a b (n / 10) (omega arith) (omega arith))))

pub one_digit : (n : ℕ) → n < 10 → number_text n ≡ digit (n % 10) ∷ []
unfolding number_text decimal
one_digit n h = let e : n ≡ n % 10 = omega arith in rw (lt-ltb n 10 h) (ap (λ (d : ℕ). digit d ∷ []) e)

pub more_digits : (n : ℕ) → 10 ≤ n → number_text n ≡ number_text (n / 10) ++ (digit (n % 10) ∷ [])
unfolding number_text decimal
more_digits n h =
    rw (le-ltb n 10 h)
    (ap (λ (ds : List ℕ). ds ++ (digit (n % 10) ∷ [])) (decimal_enough n (suc (n / 10)) (n / 10) (omega arith) (omega arith)))
