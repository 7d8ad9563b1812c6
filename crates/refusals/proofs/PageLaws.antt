-- Any two findings of a check, and any two answers of a job, that say the same on the page are equal; and a check and then
-- the next. Assumes nothing.
use Rattle.std.specs.Prelude.{Result, Ok, Err, IsErrAnd, eqb, if◌then◌else◌}
use Rattle.std.proofs.lemmas.Result.{err_from_is_err_and}
use Prim.Native.Nat.{ℕ}
use mathlib.Core.Path.{◌≡◌, refl, sym, ap, ◌∙◌}
use Rattle.rules.specs.Refusals.{Check, sound, refuse, ◌and_then◌}
use Rattle.rules.specs.Jobs.{Answer, accepted, refused, answered}
use Rattle.laws.proofs.Determined.{told_apart}
use Rattle.refusals.specs.Page.{number_of, place_of, check_of, page_of}
use Rattle.refusals.specs.declared.Refusal.{Refusal}
use Rattle.refusals.specs.declared.Refusal.TheVariants.{NoClasses, UnknownClass, TooLong, EarlySeparator, BadBase, ShortLevels, BadLevel, BadLine, ShortOrder, BadEnds, ShortBuffer}

-- a refusal read back off its number and its place
abbrev refusal_at : ℕ → ℕ → Refusal
refusal_at number place =
    if eqb number 1 then NoClasses else
    if eqb number 2 then UnknownClass place else
    if eqb number 3 then TooLong else
    if eqb number 4 then EarlySeparator place else
    if eqb number 5 then BadBase else
    if eqb number 6 then ShortLevels else
    if eqb number 7 then BadLevel place else
    if eqb number 8 then BadLine else
    if eqb number 9 then ShortOrder else
    if eqb number 10 then BadEnds else ShortBuffer

refusal_told : (r : Refusal) → refusal_at (number_of r) (place_of r) ≡ r
refusal_told NoClasses = refl
refusal_told (UnknownClass at) = refl
refusal_told TooLong = refl
refusal_told (EarlySeparator at) = refl
refusal_told BadBase = refl
refusal_told ShortLevels = refl
refusal_told (BadLevel at) = refl
refusal_told BadLine = refl
refusal_told ShortOrder = refl
refusal_told BadEnds = refl
refusal_told ShortBuffer = refl

-- ---- the findings of a check
abbrev checked_with : Check → Result (Unit {0}) Refusal
checked_with sound = Ok tt
checked_with (refuse number place) = Err (refusal_at number place)

checked_told : (r : Result (Unit {0}) Refusal) → checked_with (check_of r) ≡ r
checked_told (Ok found) = refl
checked_told (Err r) = ap Err (refusal_told r)

pub checked_determined : {wanted : Check} {r s : Result (Unit {0}) Refusal} → check_of r ≡ wanted → check_of s ≡ wanted → r ≡ s
checked_determined {wanted} {r} {s} p q = told_apart check_of checked_with checked_told r s p q

-- ---- the answers of a job, where its values are read back off the page
module _ {A B : Type 0} (value : A → B) (back : B → A) (reads : (a : A) → back (value a) ≡ a) where
  abbrev answered_with : Answer B → Result A Refusal
  answered_with (accepted b) = Ok (back b)
  answered_with (refused number place) = Err (refusal_at number place)

  answered_told : (r : Result A Refusal) → answered_with (page_of value r) ≡ r
  answered_told (Ok a) = ap Ok (reads a)
  answered_told (Err r) = ap Err (refusal_told r)

  pub answered_determined : {wanted : Answer B} (r s : Result A Refusal) → page_of value r ≡ wanted → page_of value s ≡ wanted → r ≡ s
  answered_determined r s p q = told_apart (page_of value) answered_with answered_told r s p q

-- ---- what `?` hands on is the refusal that the check found
pub handed : {A : Type 0} (whole : Check) (found : Result A Refusal) (r : Refusal) → IsErrAnd found (λ (e : Refusal). e ≡ r) → refuse (number_of r) (place_of r) ≡ whole → check_of found ≡ whole
handed whole found r is e =
    let told : (y : Refusal) × (found ≡ Err y) × (y ≡ r) = err_from_is_err_and found is in
    rw (told.1, told.2) e

pub answer_handed : {A B : Type 0} (value : A → B) (check : Check) (wanted : B) (found : Result A Refusal) (r : Refusal) → IsErrAnd found (λ (e : Refusal). e ≡ r) → refuse (number_of r) (place_of r) ≡ check → page_of value found ≡ answered check wanted
answer_handed value check wanted found r is e =
    let told : (y : Refusal) × (found ≡ Err y) × (y ≡ r) = err_from_is_err_and found is in
    rw (told.1, told.2, sym e)

-- ---- a check and then the next: its refusal ends the checks, and where it finds nothing wrong the next one tells
pub stops : {A : Type 0} (check next : Check) (found : Result A Refusal) (r : Refusal) → IsErrAnd found (λ (e : Refusal). e ≡ r) → refuse (number_of r) (place_of r) ≡ check → check_of found ≡ (check and_then next)
stops check next found r is e = handed (check and_then next) found r is (rw (sym e))

pub goes_on : (check next : Check) {answer : Check} → sound ≡ check → answer ≡ next → answer ≡ (check and_then next)
goes_on check next e a = rw (sym e) a
