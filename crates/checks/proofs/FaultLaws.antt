-- The laws of the first fault: each way through the fault at a position, one step of the walk, and that it is the fault
-- where what closes the paragraph begins, if there is none before. Assumes nothing.
use Prim.Native.Nat.{ℕ, zero, suc, ◌+◌, ◌-◌, ◌≤◌, ◌<◌}
use native.Mathlib.Nat.{add-zero}
use native.Mathlib.Numerals.{add-one}
use native.Mathlib.Omega.{arith}
use mathlib.Core.Path.{◌≡◌, refl, sym, ap, ◌∙◌}
use mathlib.Core.Bool.{Bool, true, false, ◌&&◌}
use mathlib.Core.List.{List, [], ◌∷◌}
use borrow.Author.Tests.{ne_eqb, eqb-true, eqb-false, lt-ltb, le-ltb}
use lib.Dec.{eqb}
use lib.ListN.{length, get_or, take, drop, length-drop, drop_of_length-le}
use Rattle.laws.specs.Any.{any_of}
use Rattle.laws.proofs.Any.{neither, none_first, or_false}
use Rattle.laws.proofs.Lists.{drop_next}
use Rattle.laws.proofs.Passes.{by_test}
use Rattle.laws.proofs.Tests.{not_both, and_true, and_false}
use Rattle.rules.specs.Classes.{B, CR, highest_class, is_unknown, is_paragraph_end}
use Rattle.rules.specs.Paragraph.{is_pair}
use Rattle.rules.specs.Refusals.{Check, sound, refuse, ◌and_then◌, may_end, fault_at, first_fault}
use Rattle.rules.proofs.PairLaws.{pair_past}
use Rattle.rules.proofs.SoundLaws.{then_sound}
use Rattle.checks.specs.Faults.{is_fault, closing_at}

-- ---- what may end a paragraph, by how much stands behind it
pub may_last : (c : ℕ) (cs : List ℕ) → length cs ≡ 0 → true ≡ may_end c cs
unfolding may_end
may_last c [] none = refl
may_last c (d ∷ cs) none = absurd (omega arith)

pub may_pair : (c : ℕ) (cs : List ℕ) → length cs ≡ 1 → is_pair c cs ≡ may_end c cs
unfolding may_end
may_pair c [] one = absurd (omega arith)
may_pair c (d ∷ []) one = sym (and_true (is_pair c (d ∷ [])))
may_pair c (d ∷ e ∷ cs) one = absurd (omega arith)

pub may_not : (c : ℕ) (cs : List ℕ) → (length cs ≡ 0 → ⊥) → (length cs ≡ 1 → ⊥) → false ≡ may_end c cs
unfolding may_end
may_not c [] some more = absurd (some refl)
may_not c (d ∷ []) some more = absurd (more refl)
may_not c (d ∷ e ∷ cs) some more = rw (ne_eqb (length (d ∷ e ∷ cs)) 1 more) (sym (and_false (is_pair c (d ∷ e ∷ cs))))

-- the same of a position and its list, by how many stand behind it
pub last_behind : (cs : List ℕ) (i : ℕ) → i < length cs → length cs - i - 1 ≡ 0 → true ≡ may_end (get_or cs i 0) (drop (i + 1) cs)
last_behind cs i within none = may_last _ _ (length-drop (i + 1) cs ∙ omega arith)

pub pair_behind : (cs : List ℕ) (i : ℕ) → i < length cs → length cs - i - 1 ≡ 1 → is_pair (get_or cs i 0) (drop (i + 1) cs) ≡ may_end (get_or cs i 0) (drop (i + 1) cs)
pair_behind cs i within one = may_pair _ _ (length-drop (i + 1) cs ∙ omega arith)

pub more_behind : (cs : List ℕ) (i : ℕ) → i < length cs → (length cs - i - 1 ≡ 0 → ⊥) → (length cs - i - 1 ≡ 1 → ⊥) → false ≡ may_end (get_or cs i 0) (drop (i + 1) cs)
more_behind cs i within some more =
    let left : length (drop (i + 1) cs) ≡ length cs - (i + 1) = length-drop (i + 1) cs in
    may_not _ _ (λ none. some (omega arith)) (λ one. more (omega arith))

-- ---- the fault at one position
pub fault_unknown : (at c : ℕ) (cs : List ℕ) → is_unknown c ≡ true → fault_at at c cs ≡ refuse 2 at
unfolding fault_at
fault_unknown at c cs u = rw u

pub fault_early : (at c : ℕ) (cs : List ℕ) → is_unknown c ≡ false → is_paragraph_end c ≡ true → may_end c cs ≡ false → fault_at at c cs ≡ refuse 4 at
unfolding fault_at
fault_early at c cs u p e = rw (u, p, e)

pub fault_last : (at c : ℕ) (cs : List ℕ) → is_unknown c ≡ false → is_paragraph_end c ≡ true → may_end c cs ≡ true → fault_at at c cs ≡ sound
unfolding fault_at
fault_last at c cs u p e = rw (u, p, e)

pub fault_none : (at c : ℕ) (cs : List ℕ) → is_unknown c ≡ false → is_paragraph_end c ≡ false → fault_at at c cs ≡ sound
unfolding fault_at
fault_none at c cs u p = rw (u, p)

-- ---- the walk to the first fault
fault_step : (at c : ℕ) (cs : List ℕ) → first_fault at (c ∷ cs) ≡ (fault_at at c cs and_then first_fault (suc at) cs)
unfolding first_fault
fault_step at c cs = refl

pub walk_step : (cs : List ℕ) (i : ℕ) (whole : Check) → i < length cs → fault_at i (get_or cs i 0) (drop (i + 1) cs) ≡ sound → first_fault i (drop i cs) ≡ whole → first_fault (i + 1) (drop (i + 1) cs) ≡ whole
walk_step cs i whole h s e =
    rw (drop_next cs i h, fault_step i (get_or cs i 0) (drop (i + 1) cs), s, ← add-one) at e

pub walk_found : (cs : List ℕ) (i number place : ℕ) (whole : Check) → i < length cs → fault_at i (get_or cs i 0) (drop (i + 1) cs) ≡ refuse number place → first_fault i (drop i cs) ≡ whole → refuse number place ≡ whole
walk_found cs i number place whole h s e =
    rw (drop_next cs i h, fault_step i (get_or cs i 0) (drop (i + 1) cs), s) at e

pub walk_done : (cs : List ℕ) (i : ℕ) (whole : Check) → length cs ≤ i → first_fault i (drop i cs) ≡ whole → sound ≡ whole
unfolding first_fault
walk_done cs i whole h e = rw (drop_of_length-le cs h) at e

-- ---- the test on one class
-- CR is the highest class
pub fault_high : (c : ℕ) → CR ≤ c → true ≡ is_fault c
unfolding is_fault is_unknown is_paragraph_end
fault_high c high =
    by_test (eqb c CR)
    (λ e. let is : c ≡ CR = eqb-true c CR e in rw is)
    (λ e. rw (lt-ltb highest_class c (omega (arith, eqb-false c CR e))))

pub fault_low : (c : ℕ) → c < CR → eqb c B ≡ is_fault c
unfolding is_fault is_unknown is_paragraph_end
fault_low c low =
    rw (le-ltb highest_class c (omega arith), ne_eqb c CR (λ e. let is : c ≡ CR = e in omega arith)) (sym (or_false (eqb c B)))

no_fault : (at c : ℕ) (cs : List ℕ) → is_fault c ≡ false → fault_at at c cs ≡ sound
unfolding is_fault
no_fault at c cs none =
    let both : (is_unknown c ≡ false) × (is_paragraph_end c ≡ false) = neither (is_unknown c) (is_paragraph_end c) none in
    fault_none at c cs both.0 both.1

-- ---- no fault before what closes the paragraph
none_before : (at n : ℕ) (cs : List ℕ) → any_of is_fault (take n cs) ≡ false → n ≤ length cs → first_fault at cs ≡ first_fault (at + n) (drop n cs)
unfolding first_fault
none_before at zero cs none within = rw add-zero
none_before at (suc n) [] none within = absurd (omega arith)
none_before at (suc n) (c ∷ cs) none within =
    let first : (is_fault c ≡ false) × (any_of is_fault (take n cs) ≡ false) = none_first is_fault c (take n cs) none in
    let same : suc at + n ≡ at + suc n = omega arith in
    ap (λ (check : Check). check and_then first_fault (suc at) cs) (no_fault at c cs first.0)
    ∙ none_before (suc at) n cs first.1 (omega arith)
    ∙ ap (λ (k : ℕ). first_fault k (drop n cs)) same

-- nothing is at fault behind what may end
none_behind : (at c : ℕ) (cs : List ℕ) → may_end c cs ≡ true → first_fault at cs ≡ sound
unfolding may_end is_pair first_fault fault_at is_unknown is_paragraph_end
none_behind at c [] ends = refl
none_behind at c (d ∷ []) ends = by_test (eqb d B)
    (λ b. let is : d ≡ B = eqb-true d B b in rw is)
    (λ b. absurd (not_both ends (rw b (ap (λ (p : Bool). p && true) (and_false (eqb c CR))))))
none_behind at c (d ∷ e ∷ cs) ends =
    absurd (not_both ends (sym (may_not c (d ∷ e ∷ cs) (λ none. omega arith) (λ one. omega arith))))

pub closing_is_first : (cs : List ℕ) (n : ℕ) (found : Check) → n < length cs → may_end (get_or cs n 0) (drop (n + 1) cs) ≡ true → any_of is_fault (take n cs) ≡ false → found ≡ fault_at n (get_or cs n 0) (drop (n + 1) cs) → found ≡ first_fault 0 cs
closing_is_first cs n found within ends none e =
    let here : 0 + n ≡ n = omega arith in
    e
    ∙ sym (then_sound (fault_at n (get_or cs n 0) (drop (n + 1) cs)))
    ∙ ap (λ (rest : Check). fault_at n (get_or cs n 0) (drop (n + 1) cs) and_then rest) (sym (none_behind (suc n) (get_or cs n 0) (drop (n + 1) cs) ends))
    ∙ sym (fault_step n (get_or cs n 0) (drop (n + 1) cs))
    ∙ ap (first_fault n) (sym (drop_next cs n within))
    ∙ ap (λ (k : ℕ). first_fault k (drop n cs)) (sym here)
    ∙ sym (none_before 0 n cs none (omega arith))

-- ---- where what closes the paragraph begins
pub closing_alone : (cs : List ℕ) → length cs ≡ 1 → length cs - 1 ≡ closing_at cs
unfolding closing_at
closing_alone cs one =
    rw (pair_past (get_or cs (length cs - 1 - 1) 0) cs (length cs - 1 - 1 + 1) (omega arith))

pub closing_pair : (cs : List ℕ) → is_pair (get_or cs (length cs - 1 - 1) 0) (drop (length cs - 1 - 1 + 1) cs) ≡ true → length cs - 1 - 1 ≡ closing_at cs
unfolding closing_at
closing_pair cs pair = rw pair

pub closing_last : (cs : List ℕ) → is_pair (get_or cs (length cs - 1 - 1) 0) (drop (length cs - 1 - 1 + 1) cs) ≡ false → length cs - 1 ≡ closing_at cs
unfolding closing_at
closing_last cs pair = rw pair

pair_of_two : (cs : List ℕ) → is_pair (get_or cs (length cs - 1 - 1) 0) (drop (length cs - 1 - 1 + 1) cs) ≡ true → 2 ≤ length cs
pair_of_two [] pair = absurd (not_both pair (pair_past 0 [] 1 (omega arith)))
pair_of_two (c ∷ []) pair = absurd (not_both pair (pair_past c (c ∷ []) 1 (omega arith)))
pair_of_two (c ∷ d ∷ cs) pair = omega arith

pub record Closing (cs : List ℕ) (n : ℕ) : Type 0 where
  pub within : n < length cs
  pub ends : may_end (get_or cs n 0) (drop (n + 1) cs) ≡ true

pub closing : (cs : List ℕ) (n : ℕ) → 0 < length cs → n ≡ closing_at cs → Closing cs n
closing cs n some e =
    by_test (is_pair (get_or cs (length cs - 1 - 1) 0) (drop (length cs - 1 - 1 + 1) cs))
    (λ pair. at_pair (e ∙ sym (closing_pair cs pair)) pair)
    (λ alone. at_last (e ∙ sym (closing_last cs alone)))
  where
    at_last : n ≡ length cs - 1 → Closing cs n
    at_last is =
        let none : length (drop (n + 1) cs) ≡ 0 = length-drop (n + 1) cs ∙ omega arith in
        record { within = omega arith; ends = sym (may_last (get_or cs n 0) (drop (n + 1) cs) none) }

    at_pair : n ≡ length cs - 1 - 1 → is_pair (get_or cs (length cs - 1 - 1) 0) (drop (length cs - 1 - 1 + 1) cs) ≡ true → Closing cs n
    at_pair is pair =
        let two : 2 ≤ length cs = pair_of_two cs pair in
        let one : length (drop (n + 1) cs) ≡ 1 = length-drop (n + 1) cs ∙ omega arith in
        record { within = omega arith; ends = sym (may_pair (get_or cs n 0) (drop (n + 1) cs) one) ∙ rw is pair }

pub ruleset may_end_laws = (last_behind, pair_behind, more_behind)

pub ruleset closing_laws = (closing_alone, closing_pair, closing_last)
