-- Cut: its walk, step by step, and the paragraph as a part of the text.
-- Assumes nothing.
use Rattle.std.specs.Prelude.{if◌then◌else◌}
use Prim.Native.Nat.{ℕ, suc, ◌+◌, ◌-◌, ◌≤◌, ◌<◌, min}
use native.Mathlib.Nat.{zero-add}
use native.Mathlib.Numerals.{add-one}
use native.Mathlib.Omega.{arith}
use mathlib.Core.Path.{◌≡◌, refl, ap, ap₂}
use mathlib.Core.Bool.{true, false}
use mathlib.Core.List.{List, [], ◌∷◌}
use borrow.Author.Tests.{eq-eqb, ne_eqb, eqb-true, eqb-false}
use lib.Dec.{eqb}
use lib.ListN.{length, get_or, take, drop, length-take, drop_of_length-le}
use Rattle.rules.specs.Classes.{B, is_unknown, is_paragraph_end}
use Rattle.rules.specs.Paragraph.{is_pair, P1}
use Rattle.rules.specs.Refusals.{longest_paragraph, Check, sound, refuse, refuse_where, check_some, walk, checks_of_cut}
use Rattle.rules.specs.Jobs.{Answer, accepted, refused, answered, cut_answer, cut_part}
use Rattle.laws.proofs.Lists.{drop_next}
use Rattle.laws.proofs.Passes.{by_test}
use Rattle.laws.proofs.Any.{neither}
use Rattle.rules.proofs.PairLaws.{no_pair, pair_second}
use Rattle.checks.specs.Faults.{is_fault}
use Rattle.melvorash.specs.Answers.{part_length}
use Rattle.melvorash.specs.Stops.{stop_at}

-- ---- the definitions' equations
walk_one : (room at c : ℕ) (cs : List ℕ) → walk (suc room) at (c ∷ cs) ≡ (if is_unknown c then refuse 2 at else if is_pair c cs then refuse_where (eqb room 0) 3 else if is_paragraph_end c then sound else walk room (suc at) cs)
unfolding walk
walk_one room at c cs = refl

P1_one : (c : ℕ) (cs : List ℕ) → P1 (c ∷ cs) ≡ (if is_pair c cs then c ∷ B ∷ [] else if is_paragraph_end c then c ∷ [] else c ∷ P1 cs)
unfolding P1
P1_one c cs = refl

-- what a walk with any limit answers; the limit of Cut is the longest paragraph
abbrev pub walked : ℕ → List ℕ → Answer ℕ
walked limit cs = answered (walk limit 0 cs) (length (P1 cs))

pub cut_of : (cs : List ℕ) → (length cs ≡ 0 → ⊥) → walked longest_paragraph cs ≡ cut_answer cs
unfolding cut_answer checks_of_cut check_some
cut_of [] h = absurd (h refl)
cut_of (c ∷ cs) h = refl

-- ---- the walk: where it stands at i
pub record Walking (limit : ℕ) (cs : List ℕ) (i : ℕ) : Type 0 where
  pub within : i ≤ length cs
  pub room : i ≤ limit
  pub some : length cs ≡ 0 → ⊥
  pub checks : walk (limit - i) i (drop i cs) ≡ walk limit 0 cs
  pub paragraph : i + length (P1 (drop i cs)) ≡ length (P1 cs)

pub cut_none : (cs : List ℕ) → length cs ≡ 0 → refused 1 0 ≡ cut_answer cs
unfolding cut_answer checks_of_cut check_some
cut_none [] h = refl
cut_none (c ∷ cs) h = absurd (omega arith)

pub walk_begun : (limit : ℕ) (cs : List ℕ) → (length cs ≡ 0 → ⊥) → Walking limit cs 0
walk_begun limit cs h =
    let all : limit - 0 ≡ limit = omega arith in
    record { within = omega arith; room = omega arith; some = h; checks = rw all; paragraph = zero-add (length (P1 cs)) }

module _ (limit : ℕ) (cs : List ℕ) (i : ℕ) (w : Walking limit cs i) where
  settled : {check : Check} (n : ℕ) → check ≡ walk limit 0 cs → n ≡ length (P1 cs) → answered check n ≡ walked limit cs
  settled n e l = ap₂ answered e l

  refusing : (number place : ℕ) → refuse number place ≡ walk limit 0 cs → refused number place ≡ walked limit cs
  refusing number place e = settled {check = refuse number place} (length (P1 cs)) e refl

  pub cut_done : length cs ≤ i → accepted i ≡ walked limit cs
  unfolding walk P1
  cut_done h =
      settled {check = sound} i (rw (drop_of_length-le cs h) at w.checks)
      (let e : i + length (P1 []) ≡ length (P1 cs) = rw (drop_of_length-le cs h) at w.paragraph in omega arith)

  module _ (h : i < length cs) where
    pub cut_long : i ≡ limit → refused 3 0 ≡ walked limit cs
    unfolding walk
    cut_long e =
        let none : limit - i ≡ 0 = omega arith in
        refusing 3 0 (rw (none, drop_next cs i h) at w.checks)

    module _ (ne : i ≡ limit → ⊥) where
      one_less : limit - i ≡ suc (limit - (i + 1))
      one_less = omega (arith, w.room, ne)

      here : walk (limit - i) i (drop i cs) ≡ (if is_unknown (get_or cs i 0) then refuse 2 i else if is_pair (get_or cs i 0) (drop (i + 1) cs) then refuse_where (eqb (limit - (i + 1)) 0) 3 else if is_paragraph_end (get_or cs i 0) then sound else walk (limit - (i + 1)) (i + 1) (drop (i + 1) cs))
      here = rw (one_less, drop_next cs i h, walk_one) (rw add-one)

      -- the walk stops at a class that is none or at a separator
      pub cut_stop : limit ≡ longest_paragraph → is_fault (get_or cs i 0) ≡ true → stop_at cs i ≡ walked limit cs
      unfolding stop_at is_fault
      cut_stop most fault =
          by_test (is_unknown (get_or cs i 0))
          (λ u. rw u (refusing 2 i (rw (here, u) at w.checks)))
          (λ u. by_test (is_pair (get_or cs i 0) (drop (i + 1) cs))
          (λ pair. by_test (eqb (i + 1) longest_paragraph)
          (λ e. let full : i + 1 ≡ longest_paragraph = eqb-true (i + 1) longest_paragraph e in
          rw (u, pair, e) (refusing 3 0 (rw (here, u, pair, eq-eqb (limit - (i + 1)) 0 (omega arith)) at w.checks)))
          (λ e. let more : i + 1 ≡ longest_paragraph → ⊥ = eqb-false (i + 1) longest_paragraph e in
          rw (u, pair, e)
          (settled {check = sound} (i + 2) (rw (here, u, pair, ne_eqb (limit - (i + 1)) 0 (λ z. omega (arith, w.room, ne, more, most))) at w.checks)
          (rw (drop_next cs i h, P1_one, pair) at w.paragraph))))
          (λ alone. let ends : is_paragraph_end (get_or cs i 0) ≡ true = rw u at fault in
          rw (u, alone)
          (settled {check = sound} (i + 1) (rw (here, u, alone, ends) at w.checks)
          (rw (drop_next cs i h, P1_one, alone, ends) at w.paragraph))))

      pub cut_on : is_fault (get_or cs i 0) ≡ false → Walking limit cs (i + 1)
      unfolding is_fault
      cut_on none =
          let both : (is_unknown (get_or cs i 0) ≡ false) × (is_paragraph_end (get_or cs i 0) ≡ false) = neither (is_unknown (get_or cs i 0)) (is_paragraph_end (get_or cs i 0)) none in
          let alone : is_pair (get_or cs i 0) (drop (i + 1) cs) ≡ false = no_pair (get_or cs i 0) (drop (i + 1) cs) both.1 in
          let e : i + suc (length (P1 (drop (i + 1) cs))) ≡ length (P1 cs) = rw (drop_next cs i h, P1_one, alone, both.1) at w.paragraph in
          record {
            within = omega arith;
            room = omega (arith, w.room, ne);
            some = w.some;
            checks = rw (here, both.0, alone, both.1) at w.checks;
            paragraph = omega arith;
          }

-- ---- the second form: the paragraph is a part of the lent classes
P1_part : (cs : List ℕ) → take (length (P1 cs)) cs ≡ P1 cs
unfolding P1
P1_part [] = refl
P1_part (c ∷ cs) =
    by_test (is_pair c cs)
    (λ pair. rw pair (ap (λ (xs : List ℕ). c ∷ xs) (pair_second c cs pair)))
    (λ alone. rw alone (by_test (is_paragraph_end c) (λ e. rw e) (λ e. rw e (ap (λ (xs : List ℕ). c ∷ xs) (P1_part cs)))))

-- a part of a list is no longer than the list
P1_within : (cs : List ℕ) → length (P1 cs) ≤ length cs
P1_within cs =
    let e : length (take (length (P1 cs)) cs) ≡ length (P1 cs) = ap length (P1_part cs) in
    let m : length (take (length (P1 cs)) cs) ≡ min (length (P1 cs)) (length cs) = length-take (length (P1 cs)) cs in
    omega arith

pub record Part (cs : List ℕ) (n : ℕ) : Type 0 where
  pub within : n ≤ length cs
  pub part : take n cs ≡ cut_part cs

-- the first part of that length is the one that the second form gives
pub part_given : (cs : List ℕ) (n : ℕ) → n ≡ part_length (cut_answer cs) → Part cs n
unfolding cut_answer cut_part
part_given cs n e = by (checks_of_cut cs) refl e
  where
    by : (check : Check) → checks_of_cut cs ≡ check → n ≡ part_length (answered check (length (P1 cs))) → Part cs n
    by sound s m = record { within = rw m (P1_within cs); part = rw (s, m) (P1_part cs) }
    by (refuse number place) s m = record { within = omega arith; part = rw (s, m) }
