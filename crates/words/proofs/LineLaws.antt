-- The laws of a line: what its first word asks, and its classes while they are read.
-- Assumes nothing.
use Prim.Native.Nat.{ℕ, suc, ◌+◌, ◌-◌, ◌≤◌, ◌<◌}
use native.Mathlib.Omega.{arith}
use mathlib.Core.Path.{◌≡◌, sym, ap, ◌∙◌}
use mathlib.Core.List.{List, [], ◌∷◌, map}
use lib.ListN.{length, take, drop, set}
use lib.Seq.{take-nil, length-take-le}
use Rattle.laws.proofs.Filling.{Filled, filled_from, filled_more, filled_all, filled_count}
use Rattle.words.specs.Words.{space, parts_at, first_part, later_parts, part_end, class_named, request_named, fallback_named, request_of, fallback_of, classes_of}
use Rattle.words.specs.Read.{ClassesRead}
use Rattle.words.proofs.PartLaws.{parts_behind, parts_next, behind_next, behind_end, end_within}

-- the first word ends at the first space: whatever is asked of it
first_word : (line : List ℕ) (asked : List ℕ → ℕ) {e r : ℕ} → e ≡ part_end space line 0 → r ≡ asked (take e line) → r ≡ asked (first_part (parts_at space line))
first_word line asked {e} {r} at-end named =
    let from-0 : e ≡ e - 0 = omega arith in
    named ∙ ap (λ (n : ℕ). asked (take n line)) from-0
    ∙ ap (λ (ps : List (List ℕ)). asked (first_part ps)) (sym (parts_next space line 0 e at-end))

pub request_known : (line : List ℕ) {e r : ℕ} → e ≡ part_end space line 0 → r ≡ request_named (take e line) → r ≡ request_of line
unfolding request_of
request_known line at-end named = first_word line request_named at-end named

pub fallback_known : (line : List ℕ) {e r : ℕ} → e ≡ part_end space line 0 → r ≡ fallback_named (take e line) → r ≡ fallback_of line
unfolding fallback_of
fallback_known line at-end named = first_word line fallback_named at-end named

pub first_end : (s : ℕ) (line : List ℕ) {e : ℕ} → e ≡ part_end s line 0 → e ≡ length (take e line)
first_end s line at-end = sym (length-take-le _ _ (end_within s line 0 at-end (omega arith)).1)

pub ruleset first_word_laws = (first_end, request_known, fallback_known)

-- the classes that the words behind a place name
abbrev classes_behind : List ℕ → ℕ → List ℕ
classes_behind line end = map class_named (parts_behind space (drop end line))

classes_begin : (line : List ℕ) (e : ℕ) → e ≡ part_end space line 0 → classes_behind line e ≡ classes_of line
unfolding classes_of
classes_begin line e at-end = ap (λ (ps : List (List ℕ)). map class_named (later_parts ps)) (sym (parts_next space line 0 e at-end))

classes_next : (line : List ℕ) (end e class : ℕ) → end < length line → e ≡ part_end space line (end + 1) → class ≡ class_named (take (e - (end + 1)) (drop (end + 1) line)) → classes_behind line end ≡ class ∷ classes_behind line e
classes_next line end e class h at-end named =
    ap (map class_named) (behind_next space line end h ∙ parts_next space line (end + 1) e at-end)
    ∙ ap (λ (c : ℕ). c ∷ classes_behind line e) (sym named)

classes_end : (line : List ℕ) (end : ℕ) → length line ≤ end → classes_behind line end ≡ []
classes_end line end past = ap (map class_named) (behind_end space line end past)

-- a word lies within the line
pub word_within : (s : ℕ) (line : List ℕ) (end : ℕ) {e : ℕ} → end < length line → e ≡ part_end s line (end + 1) → (end + 1 ≤ e) × (e ≤ length line)
word_within s line end h at-end = end_within s line (end + 1) at-end (omega arith)

-- what is written, then the classes behind `end`, as many as there is room for, are all that there is room for
pub record Reading (line before out : List ℕ) (end count : ℕ) : Type 0 where
  pub within : end ≤ length line
  pub room : count ≤ length before
  pub filled : Filled (take (length before) (classes_of line)) before out count (take (length before - count) (classes_behind line end))

pub reading_begun : (line before : List ℕ) {e : ℕ} → e ≡ part_end space line 0 → Reading line before before e 0
reading_begun line before {e} at-end = record {
  within = omega (arith, end_within space line 0 at-end (omega arith));
  room = omega arith;
  filled = filled_from before (rw none_yet (ap (take (length before)) (classes_begin line e at-end)));
}
  where
    none_yet : length before - 0 ≡ length before
    none_yet = omega arith

module _ {line before out : List ℕ} {end count : ℕ} (now : Reading line before out end count) where
  pub reading_next : {e class : ℕ} → end < length line → count < length out → e ≡ part_end space line (end + 1) → class ≡ class_named (take (e - (end + 1)) (drop (end + 1) line)) → Reading line before (set out count class) e (count + 1)
  reading_next {e} {class} h more at-end named =
      let free : count < length before = omega (arith, more, now.filled.long) in
      let left : length before - count ≡ suc (length before - (count + 1)) = omega arith in
      record {
        within = omega (arith, end_within space line (end + 1) at-end (omega arith));
        room = omega arith;
        filled = filled_more
            (ap (λ (n : ℕ). take n (classes_behind line end)) left ∙ ap (take (suc (length before - (count + 1)))) (classes_next line end e class h at-end named))
            free now.filled;
      }

  reading_ended : take (length before - count) (classes_behind line end) ≡ [] → ClassesRead line before count out
  reading_ended none = record { count = filled_count now.filled none now.room; classes = filled_all now.filled none now.room }

  pub reading_full : length out ≤ count → ClassesRead line before (length out) out
  reading_full full =
      let all : count ≡ length out = omega (arith, now.filled.long, now.room) in
      let left : length before - count ≡ 0 = omega (arith, now.filled.long) in
      rw all at (reading_ended (ap (λ (n : ℕ). take n (classes_behind line end)) left))

  pub reading_done : length line ≤ end → ClassesRead line before count out
  reading_done past = reading_ended (ap (take (length before - count)) (classes_end line end past) ∙ take-nil (length before - count))

pub ruleset reading_laws = (word_within, reading_full, reading_done)
