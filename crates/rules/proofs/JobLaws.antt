-- From what the checks found to what a job answers and leaves, and back. Assumes nothing.
use Prim.Native.Nat.{ℕ}
use native.Mathlib.Omega.{arith}
use mathlib.Core.Path.{◌≡◌, refl, sym, ap, ◌∙◌}
use mathlib.Core.List.{List}
use lib.ListN.{length, take, drop}
use lib.Seq.{take-append_seam}
use Rattle.rules.specs.Refusals.{Check, sound, refuse}
use Rattle.laws.specs.Parts.{over}
use Rattle.rules.specs.Jobs.{Answer, accepted, refused, answered, where_sound}

pub answer_refused : {A : Type 0} {check : Check} {number place : ℕ} (value : A) → check ≡ refuse number place → refused number place ≡ answered check value
answer_refused value e = rw e

pub answer_sound : {A : Type 0} {check : Check} {value wanted : A} → check ≡ sound → value ≡ wanted → accepted value ≡ answered check wanted
answer_sound e v = rw e (ap accepted v)

pub left_refused : {check : Check} {number place : ℕ} (written buffer : List ℕ) → check ≡ refuse number place → buffer ≡ where_sound check written buffer
left_refused written buffer e = rw e

pub left_sound : {check : Check} {after written : List ℕ} (buffer : List ℕ) → check ≡ sound → after ≡ written → after ≡ where_sound check written buffer
left_sound buffer e w = rw e w

-- ---- an accepted answer is its value, and then all checks found nothing wrong
pub accepted_value : {A : Type 0} {m n : A} → accepted m ≡ accepted n → m ≡ n
accepted_value e = cc

pub never_both : {A : Type 0} {n : A} {number place : ℕ} → accepted n ≡ refused number place → ⊥
never_both e = let z : ◌≡◌ {A = ℕ} 0 1 = cc in omega arith

pub accepted_sound : {A : Type 0} (check : Check) (value n : A) → answered check value ≡ accepted n → (check ≡ sound) × (value ≡ n)
accepted_sound sound value n e = (refl, accepted_value e)
accepted_sound (refuse number place) value n e = absurd (never_both (sym e))

-- where a job accepts, the first places of the buffer are what was to be written; `count` is how many of them it answers
pub written_front : {A : Type 0} (count : A → ℕ) (check : Check) (value : A) (wanted buffer after : List ℕ) (answer : Answer A) (told : A) → count value ≡ length wanted → answer ≡ answered check value → after ≡ where_sound check (over wanted buffer) buffer → answer ≡ accepted told → (check ≡ sound) × (take (count told) after ≡ wanted)
written_front count check value wanted buffer after answer told n a b e =
    let s = accepted_sound check value told (sym a ∙ e) in
    let left : after ≡ over wanted buffer = b ∙ rw s.0 in
    let many : count told ≡ length wanted = ap count (sym s.1) ∙ n in
    (s.0, rw (left, many) (take-append_seam wanted (drop (length wanted) buffer)))
