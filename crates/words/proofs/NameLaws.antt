-- Words that are none of the names: by their length and their first letter. Assumes nothing.
use Prim.Native.Nat.{ℕ, ◌≤◌, ◌<◌}
use native.Mathlib.Omega.{arith}
use mathlib.Core.Path.{◌≡◌, refl}
use mathlib.Core.Bool.{Bool, true, false, ◌&&◌}
use mathlib.Core.List.{List, [], ◌∷◌}
use lib.ListN.{length, get_or}
use borrow.Author.Tests.{ne_eqb}
use Rattle.words.specs.Words.{same_word, place_among, class_named, first_word_place, request_named, fallback_named}

and_false : (b : Bool) → (b && false) ≡ false
and_false true = refl
and_false false = refl

pub none_of_two : (w : List ℕ) → 2 ≤ length w → length w < 3 → (get_or w 0 0 ≡ 65 → ⊥) → (get_or w 0 0 ≡ 69 → ⊥) → (get_or w 0 0 ≡ 67 → ⊥) → (get_or w 0 0 ≡ 66 → ⊥) → (get_or w 0 0 ≡ 87 → ⊥) → (get_or w 0 0 ≡ 79 → ⊥) → 255 ≡ class_named w
unfolding class_named place_among same_word
none_of_two [] h g p q r s t u = absurd (omega arith)
none_of_two (a ∷ []) h g p q r s t u = absurd (omega arith)
none_of_two (a ∷ b ∷ []) h g p q r s t u = simp (and_false, ne_eqb a 65 p, ne_eqb a 69 q, ne_eqb a 67 r, ne_eqb a 66 s, ne_eqb a 87 t, ne_eqb a 79 u)
none_of_two (a ∷ b ∷ c ∷ w) h g p q r s t u = absurd (omega arith)

pub none_of_three : (w : List ℕ) → 3 ≤ length w → length w < 4 → (get_or w 0 0 ≡ 76 → ⊥) → (get_or w 0 0 ≡ 82 → ⊥) → (get_or w 0 0 ≡ 80 → ⊥) → (get_or w 0 0 ≡ 78 → ⊥) → 255 ≡ class_named w
unfolding class_named place_among same_word
none_of_three [] h g p q r s = absurd (omega arith)
none_of_three (a ∷ []) h g p q r s = absurd (omega arith)
none_of_three (a ∷ b ∷ []) h g p q r s = absurd (omega arith)
none_of_three (a ∷ b ∷ c ∷ []) h g p q r s = simp (and_false, ne_eqb a 76 p, ne_eqb a 82 q, ne_eqb a 80 r, ne_eqb a 78 s)
none_of_three (a ∷ b ∷ c ∷ d ∷ w) h g p q r s = absurd (omega arith)

pub none_of_more : (w : List ℕ) → 4 ≤ length w → 255 ≡ class_named w
unfolding class_named place_among same_word
none_of_more [] h = absurd (omega arith)
none_of_more (a ∷ []) h = absurd (omega arith)
none_of_more (a ∷ b ∷ []) h = absurd (omega arith)
none_of_more (a ∷ b ∷ c ∷ []) h = absurd (omega arith)
none_of_more (a ∷ b ∷ c ∷ d ∷ w) h = simp and_false

pub ruleset no_names = (none_of_two, none_of_three, none_of_more)

-- ---- the same of the first words
pub asked_by_none_of_two : (w : List ℕ) → 2 ≤ length w → length w < 3 → (get_or w 0 0 ≡ 50 → ⊥) → (3 ≡ request_named w) × (0 ≡ fallback_named w)
unfolding request_named fallback_named first_word_place place_among same_word
asked_by_none_of_two [] h g p = absurd (omega arith)
asked_by_none_of_two (a ∷ []) h g p = absurd (omega arith)
asked_by_none_of_two (a ∷ b ∷ []) h g p = (simp (and_false, ne_eqb a 50 p), simp (and_false, ne_eqb a 50 p))
asked_by_none_of_two (a ∷ b ∷ c ∷ w) h g p = absurd (omega arith)

pub asked_by_none_of_more : (w : List ℕ) → 3 ≤ length w → (3 ≡ request_named w) × (0 ≡ fallback_named w)
unfolding request_named fallback_named first_word_place place_among same_word
asked_by_none_of_more [] h = absurd (omega arith)
asked_by_none_of_more (a ∷ []) h = absurd (omega arith)
asked_by_none_of_more (a ∷ b ∷ []) h = absurd (omega arith)
asked_by_none_of_more (a ∷ b ∷ c ∷ w) h = (simp and_false, simp and_false)

pub ruleset no_first_words = (asked_by_none_of_two, asked_by_none_of_more)
