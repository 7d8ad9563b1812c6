-- What the customer asks of Cut beside its answer: in which way alone the text behind a paragraph bears on it, that the
-- second form's part is empty exactly when the first form refuses, and that what Cut gives is a paragraph that the other jobs
-- take. Assumes nothing.
use Rattle.std.specs.Prelude.{if◌then◌else◌}
use Prim.Native.Nat.compare
use Prim.Native.Nat.{ℕ, zero, suc, ◌≤◌}
use native.Mathlib.Omega.{arith}
use mathlib.Core.Path.{◌≡◌, refl, sym, ap, ap₂, ◌∙◌}
use mathlib.Core.Bool.{Bool, true, false}
use mathlib.Core.List.{List, [], ◌∷◌, ◌++◌}
use borrow.Author.Tests.{ne_eqb, eqb-false, lt-ltb, le-ltb}
use lib.Dec.{eqb, ltb}
use lib.ListN.{length}
use Rattle.laws.specs.Any.{any_of}
use Rattle.laws.proofs.Any.{none_first}
use Rattle.laws.proofs.Passes.{by_test}
use Rattle.rules.specs.Classes.{B, CR, is_unknown, is_paragraph_end}
use Rattle.rules.specs.Paragraph.{is_pair, P1}
use Rattle.rules.specs.Refusals.{longest_paragraph, Check, sound, refuse, refuse_where, is_empty, check_some, check_length, may_end, fault_at, first_fault, check_classes, walk, checks_of_cut}
use Rattle.rules.specs.Jobs.{accepted, refused, answered, where_sound, cut_answer, cut_part}
use Rattle.rules.proofs.JobLaws.{never_both, accepted_sound}
use Rattle.rules.proofs.PairLaws.{of_ends, not_CR, no_pair, pair_first}
use Rattle.rules.proofs.SoundLaws.{never_sound, test_fails}

-- ---- what stands behind a separator
-- a pair that begins before the separator is not one by what stands behind it
pair_after : (c : ℕ) (cs : List ℕ) (end : ℕ) (ds es : List ℕ) → is_pair c (cs ++ (end ∷ ds)) ≡ is_pair c (cs ++ (end ∷ es))
unfolding is_pair
pair_after c [] end ds es = refl
pair_after c (d ∷ cs) end ds es = refl

module _ (end : ℕ) (ends : is_paragraph_end end ≡ true) (ds es : List ℕ) (same : is_pair end ds ≡ is_pair end es) where
  walk_after : (cs : List ℕ) (room at : ℕ) → walk room at (cs ++ (end ∷ ds)) ≡ walk room at (cs ++ (end ∷ es))
  unfolding walk
  walk_after [] zero at = refl
  walk_after [] (suc room) at = rw (same, ends)
  walk_after (c ∷ cs) zero at = refl
  walk_after (c ∷ cs) (suc room) at =
      ap₂ (λ (pair : Bool) (rest : Check). if is_unknown c then refuse 2 at else if pair then refuse_where (eqb room 0) 3 else if is_paragraph_end c then sound else rest)
      (pair_after c cs end ds es) (walk_after cs room (suc at))

  P1_after : (cs : List ℕ) → P1 (cs ++ (end ∷ ds)) ≡ P1 (cs ++ (end ∷ es))
  unfolding P1
  P1_after [] = rw (same, ends)
  P1_after (c ∷ cs) =
      ap₂ (λ (pair : Bool) (rest : List ℕ). if pair then c ∷ B ∷ [] else if is_paragraph_end c then c ∷ [] else c ∷ rest)
      (pair_after c cs end ds es) (P1_after cs)

  checks_after : (cs : List ℕ) → checks_of_cut (cs ++ (end ∷ ds)) ≡ checks_of_cut (cs ++ (end ∷ es))
  unfolding checks_of_cut check_some
  checks_after [] = walk_after [] longest_paragraph 0
  checks_after (c ∷ cs) = walk_after (c ∷ cs) longest_paragraph 0

  -- what stands behind a separator bears on Cut's answer, in either form, in one way alone: whether it is a CR and a B follows
  pub after_never_bears : (cs : List ℕ) → cut_answer (cs ++ (end ∷ ds)) ≡ cut_answer (cs ++ (end ∷ es))
  unfolding cut_answer
  after_never_bears cs =
      ap₂ (λ (check : Check) (p : List ℕ). answered check (length p)) (checks_after cs) (P1_after cs)

  pub after_never_bears_on_part : (cs : List ℕ) → cut_part (cs ++ (end ∷ ds)) ≡ cut_part (cs ++ (end ∷ es))
  unfolding cut_part
  after_never_bears_on_part cs =
      ap₂ (λ (check : Check) (p : List ℕ). where_sound check p []) (checks_after cs) (P1_after cs)

-- so behind a B it never does
B_ends : is_paragraph_end B ≡ true
unfolding is_paragraph_end
B_ends = refl

B_alone : (ds : List ℕ) → is_pair B ds ≡ false
B_alone ds = not_CR B ds (λ e. let z : ◌≡◌ {A = ℕ} 15 19 = e in omega arith)

pub after_B_never_bears : (cs ds es : List ℕ) → cut_answer (cs ++ (B ∷ ds)) ≡ cut_answer (cs ++ (B ∷ es))
after_B_never_bears cs ds es = after_never_bears B B_ends ds es (B_alone ds ∙ sym (B_alone es)) cs

-- ---- a text whose first separator is given: its paragraph, and what Cut answers
abbrev pub with_its_B : ℕ → List ℕ → List ℕ
with_its_B end ds = if is_pair end ds then end ∷ B ∷ [] else end ∷ []

known_end : (end : ℕ) → is_paragraph_end end ≡ true → is_unknown end ≡ false
unfolding is_unknown
known_end end ends = of_ends (λ c. is_unknown c ≡ false) refl refl end ends

ltb_suc : (m n : ℕ) → ltb m n ≡ ltb (suc m) (suc n)
ltb_suc m n = rw compare.suc-suc

less_two : (room : ℕ) → eqb room 0 ≡ ltb (suc room) 2
less_two zero = refl
less_two (suc room) = rw (ne_eqb (suc room) 0 (λ e. omega arith)) (sym (le-ltb (suc (suc room)) 2 (omega arith)))

module _ (end : ℕ) (ends : is_paragraph_end end ≡ true) (ds : List ℕ) where
  -- the B behind a CR belongs to the paragraph that the CR ends
  pub P1_ended : (cs : List ℕ) → any_of is_paragraph_end cs ≡ false → P1 (cs ++ (end ∷ ds)) ≡ cs ++ with_its_B end ds
  unfolding P1
  P1_ended [] none = by_test (is_pair end ds) (λ pair. rw pair) (λ alone. rw (alone, ends))
  P1_ended (c ∷ cs) none =
      let first = none_first is_paragraph_end c cs none in
      rw (no_pair c (cs ++ (end ∷ ds)) first.0, first.0) (ap (λ (rest : List ℕ). c ∷ rest) (P1_ended cs first.1))

  walk_ended : (cs : List ℕ) (room at : ℕ) → any_of is_paragraph_end cs ≡ false → any_of is_unknown cs ≡ false → walk room at (cs ++ (end ∷ ds)) ≡ refuse_where (ltb room (length (cs ++ with_its_B end ds))) 3
  unfolding walk
  walk_ended [] zero at none fine = by_test (is_pair end ds) (λ pair. rw pair) (λ alone. rw alone)
  walk_ended [] (suc room) at none fine =
      rw (known_end end ends)
      (by_test (is_pair end ds)
      (λ pair. rw pair (ap (λ (test : Bool). refuse_where test 3) (less_two room)))
      (λ alone. rw (alone, ends, le-ltb (suc room) 1 (omega arith))))
  walk_ended (c ∷ cs) zero at none fine = rw (lt-ltb 0 (suc (length (cs ++ with_its_B end ds))) (omega arith))
  walk_ended (c ∷ cs) (suc room) at none fine =
      let first = none_first is_paragraph_end c cs none in
      let known = none_first is_unknown c cs fine in
      rw (known.0, no_pair c (cs ++ (end ∷ ds)) first.0, first.0)
      (walk_ended cs room (suc at) first.1 known.1 ∙ ap (λ (test : Bool). refuse_where test 3) (ltb_suc room (length (cs ++ with_its_B end ds))))

  checks_ended : (cs : List ℕ) → any_of is_paragraph_end cs ≡ false → any_of is_unknown cs ≡ false → checks_of_cut (cs ++ (end ∷ ds)) ≡ refuse_where (ltb longest_paragraph (length (cs ++ with_its_B end ds))) 3
  unfolding checks_of_cut check_some
  checks_ended [] none fine = walk_ended [] longest_paragraph 0 none fine
  checks_ended (c ∷ cs) none fine = walk_ended (c ∷ cs) longest_paragraph 0 none fine

  -- Cut answers the length up to the separator with its B, or refuses with 3 where that is too long
  pub cut_ended : (cs : List ℕ) → any_of is_paragraph_end cs ≡ false → any_of is_unknown cs ≡ false → cut_answer (cs ++ (end ∷ ds)) ≡ (if ltb longest_paragraph (length (cs ++ with_its_B end ds)) then refused 3 0 else accepted (length (cs ++ with_its_B end ds)))
  unfolding cut_answer
  cut_ended cs none fine =
      ap₂ (λ (check : Check) (p : List ℕ). answered check (length p)) (checks_ended cs none fine) (P1_ended cs none)
      ∙ by_test (ltb longest_paragraph (length (cs ++ with_its_B end ds))) (λ e. rw e) (λ e. rw e)

-- ---- a text that is not empty has a paragraph that is not
P1_some : (c : ℕ) (cs : List ℕ) → is_empty (P1 (c ∷ cs)) ≡ false
unfolding P1
P1_some c cs =
    by_test (is_pair c cs) (λ pair. rw pair)
    (λ alone. rw alone (by_test (is_paragraph_end c) (λ e. rw e) (λ e. rw e)))

-- ---- what Cut gives is a paragraph: none of the refusals 1 to 4 is given for it
nothing_sound : (at : ℕ) → first_fault at [] ≡ sound
unfolding first_fault
nothing_sound at = refl

pair_sound : (at : ℕ) → first_fault at (CR ∷ B ∷ []) ≡ sound
unfolding first_fault fault_at is_unknown is_paragraph_end may_end is_pair
pair_sound at = refl

last_sound : (at c : ℕ) → is_unknown c ≡ false → first_fault at (c ∷ []) ≡ sound
unfolding first_fault fault_at may_end
last_sound at c u = rw u (by_test (is_paragraph_end c) (λ e. rw e) (λ e. rw e))

on_sound : (at c : ℕ) (cs : List ℕ) → is_unknown c ≡ false → is_paragraph_end c ≡ false → first_fault (suc at) cs ≡ sound → first_fault at (c ∷ cs) ≡ sound
unfolding first_fault fault_at
on_sound at c cs u p rest = rw (u, p) rest

record Taken (room at : ℕ) (paragraph : List ℕ) : Type 0 where
  within : length paragraph ≤ room
  fine : first_fault at paragraph ≡ sound

taken : (cs : List ℕ) (room at : ℕ) → walk room at cs ≡ sound → Taken room at (P1 cs)
unfolding walk P1
taken [] room at e = record { within = omega arith; fine = nothing_sound at }
taken (c ∷ cs) zero at e = absurd (never_sound e)
taken (c ∷ cs) (suc room) at e =
    by_test (is_unknown c)
    (λ u. absurd (never_sound (rw u at e)))
    (λ u. by_test (is_pair c cs)
    (λ pair.
    let more : room ≡ 0 → ⊥ = eqb-false room 0 (test_fails (eqb room 0) 3 (rw (u, pair) at e)) in
    let is : c ≡ CR = pair_first c cs pair in
    rw pair (record { within = omega (arith, more); fine = rw is (pair_sound at) }))
    (λ alone. by_test (is_paragraph_end c)
    (λ p. rw (alone, p) (record { within = omega arith; fine = last_sound at c u }))
    (λ p.
    let rest : Taken room (suc at) (P1 cs) = taken cs room (suc at) (rw (u, alone, p) at e) in
    rw (alone, p) (record { within = omega (arith, rest.within); fine = on_sound at c (P1 cs) u p rest.fine }))))

paragraph_taken : (cs : List ℕ) → checks_of_cut cs ≡ sound → check_classes (P1 cs) ≡ sound
unfolding checks_of_cut check_some check_classes check_length
paragraph_taken [] e = absurd (never_sound e)
paragraph_taken (c ∷ cs) e =
    let t : Taken longest_paragraph 0 (P1 (c ∷ cs)) = taken (c ∷ cs) longest_paragraph 0 e in
    rw (P1_some c cs, le-ltb longest_paragraph (length (P1 (c ∷ cs))) t.within) t.fine

pub cut_taken : (cs : List ℕ) (n : ℕ) → cut_answer cs ≡ accepted n → check_classes (cut_part cs) ≡ sound
unfolding cut_answer cut_part
cut_taken cs n e =
    let s : checks_of_cut cs ≡ sound = (accepted_sound (checks_of_cut cs) (length (P1 cs)) n e).0 in
    rw s (paragraph_taken cs s)

-- ---- the part is empty exactly when the first form refuses
pub refused_empty : (cs : List ℕ) (number place : ℕ) → cut_answer cs ≡ refused number place → cut_part cs ≡ []
unfolding cut_answer cut_part
refused_empty cs number place e = by (checks_of_cut cs) refl e
  where
    by : (check : Check) → checks_of_cut cs ≡ check → answered check (length (P1 cs)) ≡ refused number place → cut_part cs ≡ []
    by sound s a = absurd (never_both a)
    by (refuse k p) s a = rw s

none_refused : (n : ℕ) → cut_answer [] ≡ accepted n → ⊥
unfolding cut_answer checks_of_cut check_some
none_refused n e = let z : ◌≡◌ {A = ℕ} 0 1 = cc in omega arith

pub accepted_not_empty : (cs : List ℕ) (n : ℕ) → cut_answer cs ≡ accepted n → is_empty (cut_part cs) ≡ false
unfolding cut_answer cut_part
accepted_not_empty [] n e = absurd (none_refused n e)
accepted_not_empty (c ∷ cs) n e = by (checks_of_cut (c ∷ cs)) refl e
  where
    by : (check : Check) → checks_of_cut (c ∷ cs) ≡ check → answered check (length (P1 (c ∷ cs))) ≡ accepted n → is_empty (cut_part (c ∷ cs)) ≡ false
    by sound s a = rw s (P1_some c cs)
    by (refuse number place) s a = let z : ◌≡◌ {A = ℕ} 0 1 = cc in absurd (omega arith)
