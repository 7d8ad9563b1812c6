-- What holds of a paragraph end, of a CR and the B that follows it, and how the two are read off a list. Assumes nothing.
use Prim.Native.Nat.{ℕ, zero, suc, ◌≤◌}
use mathlib.Core.Path.{◌≡◌, refl, sym, ap, subst}
use mathlib.Core.Bool.{true, false}
use mathlib.Core.List.{List, [], ◌∷◌}
use borrow.Author.Tests.{ne_eqb, eqb-true}
use lib.Dec.{eqb}
use lib.ListN.{length, get_or, take, drop, drop_of_length-le}
use Rattle.rules.specs.Classes.{B, CR, is_paragraph_end}
use Rattle.rules.specs.Paragraph.{is_pair}
use Rattle.laws.proofs.Any.{neither}
use Rattle.laws.proofs.Passes.{by_test}
use Rattle.laws.proofs.Tests.{not_both, and_false}

-- what holds of B and of CR holds of every paragraph end
pub of_ends : (P : ℕ → Type 0) → P B → P CR → (c : ℕ) → is_paragraph_end c ≡ true → P c
unfolding is_paragraph_end
of_ends P b cr c end =
    by_test (eqb c B)
    (λ e. let is : c ≡ B = eqb-true c B e in subst P (sym is) b)
    (λ e. let is : c ≡ CR = eqb-true c CR (rw e at end) in subst P (sym is) cr)

pub not_CR : (c : ℕ) (cs : List ℕ) → (c ≡ CR → ⊥) → is_pair c cs ≡ false
unfolding is_pair
not_CR c [] not = refl
not_CR c (d ∷ cs) not = rw (ne_eqb c CR not)

-- what ends no paragraph is the first of no pair
pub no_pair : (c : ℕ) (cs : List ℕ) → is_paragraph_end c ≡ false → is_pair c cs ≡ false
unfolding is_pair is_paragraph_end
no_pair c [] not = refl
no_pair c (d ∷ cs) not = rw (neither (eqb c B) (eqb c CR) not).1

-- a CR is the first of a pair exactly where the element behind it is B; where there is none, anything but B may stand for it
pub pair_read : (cs : List ℕ) (k : ℕ) → eqb (get_or cs k CR) B ≡ is_pair CR (drop k cs)
unfolding is_pair
pair_read [] zero = refl
pair_read [] (suc k) = refl
pair_read (c ∷ cs) zero = refl
pair_read (c ∷ cs) (suc k) = pair_read cs k

pub pair_past : (c : ℕ) (cs : List ℕ) (i : ℕ) → length cs ≤ i → is_pair c (drop i cs) ≡ false
unfolding is_pair
pair_past c cs i past = rw (drop_of_length-le cs past)

-- the two of a pair
pub pair_first : (c : ℕ) (cs : List ℕ) → is_pair c cs ≡ true → c ≡ CR
unfolding is_pair
pair_first c [] pair = absurd (not_both pair refl)
pair_first c (d ∷ cs) pair = by_test (eqb c CR) (λ e. eqb-true c CR e) (λ e. absurd (not_both pair (rw e)))

pub pair_second : (c : ℕ) (cs : List ℕ) → is_pair c cs ≡ true → take 1 cs ≡ B ∷ []
unfolding is_pair
pair_second c [] pair = absurd (not_both pair refl)
pair_second c (d ∷ cs) pair = by_test (eqb d B)
    (λ e. ap (λ (x : ℕ). x ∷ []) (eqb-true d B e))
    (λ e. absurd (not_both pair (rw e (and_false (eqb c CR)))))
