-- The few words on truth values, numbers and lists that the rules are written in.
use Rattle.std.specs.Prelude.{ℕ, zero, suc, ◌%◌, Bool, true, false, List, [], ◌∷◌, eqb}

abbrev pub is_odd : ℕ → Bool
is_odd n = eqb (n % 2) 1

-- the first of a list, or the given one where there is none
abbrev pub head_or : ℕ → List ℕ → ℕ
head_or otherwise [] = otherwise
head_or otherwise (x ∷ xs) = x

-- so many numbers from one on: n, n + 1, n + 2 and so on
unfoldable pub up_from : ℕ → ℕ → List ℕ
up_from n zero = []
up_from n (suc count) = n ∷ up_from (suc n) count
