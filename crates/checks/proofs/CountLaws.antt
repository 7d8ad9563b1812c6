-- The laws of the count: each way through its check, and the checks that begin with it. Assumes nothing.
use Prim.Native.Nat.{ℕ, ◌≤◌, ◌<◌}
use native.Mathlib.Omega.{arith}
use mathlib.Core.Path.{◌≡◌, refl}
use mathlib.Core.Bool.{false}
use mathlib.Core.List.{List, [], ◌∷◌}
use borrow.Author.Tests.{lt-ltb, le-ltb}
use lib.ListN.{length}
use Rattle.rules.specs.Refusals.{longest_paragraph, Check, sound, refuse, ◌and_then◌, is_empty, check_some, check_length, first_fault, check_classes, check_mark_room, checks_of_marks}
use Rattle.rules.proofs.SoundLaws.{never_sound}

-- ---- the checks of the count
pub count_none : (cs : List ℕ) → length cs ≡ 0 → refuse 1 0 ≡ (check_some cs and_then check_length cs)
unfolding check_some
count_none [] h = refl
count_none (c ∷ cs) h = absurd (omega arith)

pub some_is : (cs : List ℕ) → (length cs ≡ 0 → ⊥) → is_empty cs ≡ false
some_is [] h = absurd (h refl)
some_is (c ∷ cs) h = refl

pub count_long : (cs : List ℕ) → (length cs ≡ 0 → ⊥) → longest_paragraph < length cs → refuse 3 0 ≡ (check_some cs and_then check_length cs)
unfolding check_some check_length
count_long cs h g = rw (some_is cs h, lt-ltb longest_paragraph (length cs) g)

pub count_right : (cs : List ℕ) → (length cs ≡ 0 → ⊥) → length cs ≤ longest_paragraph → sound ≡ (check_some cs and_then check_length cs)
unfolding check_some check_length
count_right cs h g = rw (some_is cs h, le-ltb longest_paragraph (length cs) g)

pub counted_some : (cs : List ℕ) → (check_some cs and_then check_length cs) ≡ sound → 0 < length cs
unfolding check_some
counted_some [] e = absurd (never_sound e)
counted_some (c ∷ cs) e = omega arith

-- ---- the checks that begin with the count
then_parted : (a b c : Check) → (a and_then b and_then c) ≡ ((a and_then b) and_then c)
then_parted sound b c = refl
then_parted (refuse number place) b c = refl

pub classes_counted : (cs : List ℕ) → check_classes cs ≡ ((check_some cs and_then check_length cs) and_then first_fault 0 cs)
unfolding check_classes
classes_counted cs = then_parted (check_some cs) (check_length cs) (first_fault 0 cs)

pub marks_counted : (cs : List ℕ) (flags room : ℕ) → checks_of_marks cs flags room ≡ ((check_some cs and_then check_length cs) and_then check_mark_room cs flags room)
unfolding checks_of_marks
marks_counted cs flags room = then_parted (check_some cs) (check_length cs) (check_mark_room cs flags room)

pub ruleset count_laws = (count_none, count_long, count_right)
