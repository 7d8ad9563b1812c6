-- What is known of an input once the checks of a job found nothing wrong. Assumes nothing.
use Prim.Native.Nat.{ℕ, ◌-◌, ◌≤◌, ◌<◌}
use native.Mathlib.Omega.{arith}
use mathlib.Core.Path.{◌≡◌, refl}
use mathlib.Core.Bool.{Bool, true, false, not}
use mathlib.Core.List.{List, [], ◌∷◌}
use borrow.Author.Tests.{ltb-false, leb-false, not-false}
use lib.Dec.{leb, ltb}
use lib.ListN.{length}
use Rattle.rules.specs.Refusals.{longest_paragraph, Check, sound, refuse, ◌and_then◌, refuse_where, is_empty, check_some, check_length, first_fault, check_classes, check_request, check_base, check_level_room, first_bad_level, check_line, check_order_room, ends_rise_to, check_ends, checks_of_levels, checks_of_order, checks_of_line, checks_of_lines, check_mark_room, checks_of_marks}
use Rattle.laws.proofs.Any.{neither}

pub never_sound : {number place : ℕ} → refuse number place ≡ sound → ⊥
never_sound e = let z : ◌≡◌ {A = ℕ} 0 1 = cc in omega arith

pub then_sound : (check : Check) → (check and_then sound) ≡ check
then_sound sound = refl
then_sound (refuse number place) = refl

both_sound : (a b : Check) → (a and_then b) ≡ sound → (a ≡ sound) × (b ≡ sound)
both_sound sound b e = (refl, e)
both_sound (refuse number place) b e = absurd (never_sound e)

pub test_fails : (b : Bool) (number : ℕ) → refuse_where b number ≡ sound → b ≡ false
test_fails false number e = refl
test_fails true number e = absurd (never_sound e)

pub classes_length : (cs : List ℕ) → check_classes cs ≡ sound → length cs ≤ longest_paragraph
unfolding check_classes check_length
classes_length cs e =
    ltb-false longest_paragraph (length cs)
    (test_fails _ _ (both_sound (check_length cs) (first_fault 0 cs) (both_sound (check_some cs) _ e).1).0)

pub classes_some : (cs : List ℕ) → check_classes cs ≡ sound → 0 < length cs
unfolding check_classes check_some
classes_some [] e = absurd (never_sound e)
classes_some (c ∷ cs) e = omega arith

pub record LevelsSound (cs : List ℕ) (request fallback room : ℕ) : Type 0 where
  pub classes : check_classes cs ≡ sound
  pub few : length cs ≤ longest_paragraph
  pub asked : request ≤ 2
  pub instead : fallback ≤ 1
  pub fits : length cs ≤ room

pub levels_sound : (cs : List ℕ) (request fallback room : ℕ) → checks_of_levels cs request fallback room ≡ sound → LevelsSound cs request fallback room
unfolding checks_of_levels check_request check_level_room
levels_sound cs request fallback room e =
    let both = both_sound (check_classes cs) (check_request request fallback and_then check_level_room cs room) e in
    let later = both_sound (check_request request fallback) (check_level_room cs room) both.1 in
    let right = neither (ltb 2 request) (ltb 1 fallback) (test_fails _ _ later.0) in
    record {
      classes = both.0;
      few = classes_length cs both.0;
      asked = ltb-false 2 request right.0;
      instead = ltb-false 1 fallback right.1;
      fits = ltb-false room (length cs) (test_fails _ _ later.1);
    }

pub record OrderSound (cs levels : List ℕ) (base : ℕ) : Type 0 where
  pub few : length cs ≤ longest_paragraph
  pub low : base ≤ 1
  pub fits : length cs ≤ length levels
  pub right : first_bad_level 0 cs levels ≡ sound

order_sound : (cs levels : List ℕ) (base : ℕ) → checks_of_order cs levels base ≡ sound → OrderSound cs levels base
unfolding checks_of_order check_base check_level_room
order_sound cs levels base e =
    let both = both_sound (check_classes cs) (check_base base and_then check_level_room cs (length levels) and_then first_bad_level 0 cs levels) e in
    let later = both_sound (check_base base) (check_level_room cs (length levels) and_then first_bad_level 0 cs levels) both.1 in
    let last = both_sound (check_level_room cs (length levels)) (first_bad_level 0 cs levels) later.1 in
    record {
      few = classes_length cs both.0;
      low = ltb-false 1 base (test_fails _ _ later.0);
      fits = ltb-false (length levels) (length cs) (test_fails _ _ last.0);
      right = last.1;
    }

pub record LineSound (cs levels : List ℕ) (base from to room : ℕ) : Type 0 where
  pub order : OrderSound cs levels base
  pub line : from < to
  pub within : to ≤ length cs
  pub fits : to - from ≤ room

pub line_sound : (cs levels : List ℕ) (base from to room : ℕ) → checks_of_line cs levels base from to room ≡ sound → LineSound cs levels base from to room
unfolding checks_of_line check_line check_order_room
line_sound cs levels base from to room e =
    let both = both_sound (checks_of_order cs levels base) (check_line cs from to and_then check_order_room (to - from) room) e in
    let later = both_sound (check_line cs from to) (check_order_room (to - from) room) both.1 in
    let line = neither (leb to from) (ltb (length cs) to) (test_fails _ _ later.0) in
    record {
      order = order_sound cs levels base both.0;
      line = leb-false to from line.0;
      within = ltb-false (length cs) to line.1;
      fits = ltb-false room (to - from) (test_fails _ _ later.1);
    }

pub record LinesSound (cs levels : List ℕ) (base : ℕ) (ends : List ℕ) (room : ℕ) : Type 0 where
  pub order : OrderSound cs levels base
  pub rise : ends_rise_to 0 ends (length cs) ≡ true
  pub fits : length cs ≤ room

pub lines_sound : (cs levels : List ℕ) (base : ℕ) (ends : List ℕ) (room : ℕ) → checks_of_lines cs levels base ends room ≡ sound → LinesSound cs levels base ends room
unfolding checks_of_lines check_ends check_order_room
lines_sound cs levels base ends room e =
    let both = both_sound (checks_of_order cs levels base) (check_ends cs ends and_then check_order_room (length cs) room) e in
    let later = both_sound (check_ends cs ends) (check_order_room (length cs) room) both.1 in
    let ends-ok = neither (is_empty ends) (not (ends_rise_to 0 ends (length cs))) (test_fails _ _ later.0) in
    record {
      order = order_sound cs levels base both.0;
      rise = not-false (ends_rise_to 0 ends (length cs)) ends-ok.1;
      fits = ltb-false room (length cs) (test_fails _ _ later.1);
    }

pub record MarksSound (cs : List ℕ) (flags room : ℕ) : Type 0 where
  pub few : length cs ≤ longest_paragraph
  pub flagged : length cs ≤ flags
  pub fits : length cs ≤ room

pub marks_sound : (cs : List ℕ) (flags room : ℕ) → checks_of_marks cs flags room ≡ sound → MarksSound cs flags room
unfolding checks_of_marks check_length check_mark_room
marks_sound cs flags room e =
    let later = both_sound (check_some cs) (check_length cs and_then check_mark_room cs flags room) e in
    let last = both_sound (check_length cs) (check_mark_room cs flags room) later.1 in
    let short = neither (ltb flags (length cs)) (ltb room (length cs)) (test_fails _ _ last.1) in
    record {
      few = ltb-false longest_paragraph (length cs) (test_fails _ _ last.0);
      flagged = ltb-false flags (length cs) short.0;
      fits = ltb-false room (length cs) short.1;
    }
