-- R3 ends, whichever pairs R2 exchanges: the pairs of characters that stand in the wrong order become one fewer with each
-- exchange. So all rows of exchanges up to the canonical ordering have one length, and none goes on beyond it.
-- Assumes nothing.
use Prim.Native.Nat.{ℕ, suc, ◌+◌, ◌<◌}
use native.Mathlib.Omega.{arith}
use mathlib.Core.Bool.{Bool, true, false}
use mathlib.Core.Path.{◌≡◌, sym, ap, ◌∙◌}
use mathlib.Core.List.{List, [], ◌∷◌, ◌++◌}
use Rattle.rules.specs.Canonical.{R2, Repeated, none, more}
use Rattle.rules.proofs.CanonicalLaws.{exchanges, exchanges_higher, exchanges_not}

abbrev one : Bool → ℕ
one true = 1
one false = 0

-- how many of a list x would go behind, and how many pairs of a list would change places
abbrev passed : {A : Type 0} → (A → ℕ) → A → List A → ℕ
passed p x [] = 0
passed p x (y ∷ ys) = one (exchanges p x y) + passed p x ys

abbrev pub wrong_pairs : {A : Type 0} → (A → ℕ) → List A → ℕ
wrong_pairs p [] = 0
wrong_pairs p (x ∷ xs) = passed p x xs + wrong_pairs p xs

-- how many exchanges a row has
abbrev pub how_many : {A : Type 0} {step : List A → List A → Type 0} {D E : List A} → Repeated step D E → ℕ
how_many none = 0
how_many (more first rest) = suc (how_many rest)

module _ {A : Type 0} (p : A → ℕ) where
  passed_swap : (x : A) (before : List A) (a b : A) (behind : List A) → passed p x (before ++ (a ∷ b ∷ behind)) ≡ passed p x (before ++ (b ∷ a ∷ behind))
  passed_swap x [] a b behind = omega arith
  passed_swap x (y ∷ before) a b behind = ap (λ (n : ℕ). one (exchanges p x y) + n) (passed_swap x before a b behind)

  wrong_swap : (before : List A) (a b : A) (behind : List A) → exchanges p a b ≡ true → exchanges p b a ≡ false → wrong_pairs p (before ++ (a ∷ b ∷ behind)) ≡ suc (wrong_pairs p (before ++ (b ∷ a ∷ behind)))
  wrong_swap [] a b behind wrong right =
      let first : one (exchanges p a b) ≡ 1 = ap one wrong in
      let second : one (exchanges p b a) ≡ 0 = ap one right in
      omega arith
  wrong_swap (x ∷ before) a b behind wrong right =
      let rest : wrong_pairs p (before ++ (a ∷ b ∷ behind)) ≡ suc (wrong_pairs p (before ++ (b ∷ a ∷ behind))) = wrong_swap before a b behind wrong right in
      let here : passed p x (before ++ (a ∷ b ∷ behind)) ≡ passed p x (before ++ (b ∷ a ∷ behind)) = passed_swap x before a b behind in
      omega arith

  one_fewer : (D E : List A) → R2 p D E → wrong_pairs p D ≡ suc (wrong_pairs p E)
  one_fewer D E s =
      let higher : p s.b < p s.a = s.higher in
      ap (wrong_pairs p) s.found
      ∙ wrong_swap s.before s.a s.b s.behind (exchanges_higher p s.a s.b s.not_zero s.higher) (exchanges_not p s.b s.a (omega arith))
      ∙ ap (λ (l : List A). suc (wrong_pairs p l)) (sym s.exchanged)

  -- a row of exchanges has as many as there are fewer pairs in the wrong order behind it, so never more than there were
  pub rows_end : {D E : List A} (row : Repeated (R2 p) D E) → how_many row + wrong_pairs p E ≡ wrong_pairs p D
  rows_end none = omega arith
  rows_end {D} {E} (more {E = F} first rest) =
      let later : how_many rest + wrong_pairs p E ≡ wrong_pairs p F = rows_end rest in
      let now : wrong_pairs p D ≡ suc (wrong_pairs p F) = one_fewer D F first in
      omega arith
