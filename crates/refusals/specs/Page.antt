-- What a refusal, a check and an answer say in the page's numbers.
use Rattle.std.specs.Prelude.{ℕ, Result, Ok, Err}
use Rattle.rules.specs.Refusals.{Check, sound, refuse}
use Rattle.rules.specs.Jobs.{Answer, accepted, refused}
use Rattle.refusals.specs.declared.Refusal.{Refusal}
use Rattle.refusals.specs.declared.Refusal.TheVariants.{NoClasses, UnknownClass, TooLong, EarlySeparator, BadBase, ShortLevels, BadLevel, BadLine, ShortOrder, BadEnds, ShortBuffer}

-- the page's number of a refusal
abbrev pub number_of : Refusal → ℕ
number_of NoClasses = 1
number_of (UnknownClass at) = 2
number_of TooLong = 3
number_of (EarlySeparator at) = 4
number_of BadBase = 5
number_of ShortLevels = 6
number_of (BadLevel at) = 7
number_of BadLine = 8
number_of ShortOrder = 9
number_of BadEnds = 10
number_of ShortBuffer = 16

-- its place: the first faulty position, or 0 where the page gives none
abbrev pub place_of : Refusal → ℕ
place_of NoClasses = 0
place_of (UnknownClass at) = at
place_of TooLong = 0
place_of (EarlySeparator at) = at
place_of BadBase = 0
place_of ShortLevels = 0
place_of (BadLevel at) = at
place_of BadLine = 0
place_of ShortOrder = 0
place_of BadEnds = 0
place_of ShortBuffer = 0

-- what a check found: nothing wrong, or the refusal's number and place
abbrev pub check_of : {A : Type 0} → Result A Refusal → Check
check_of (Ok found) = sound
check_of (Err r) = refuse (number_of r) (place_of r)

-- what a job answers: its value as the page gives it, or the refusal's number and place
abbrev pub page_of : {A B : Type 0} → (A → B) → Result A Refusal → Answer B
page_of value (Ok a) = accepted (value a)
page_of value (Err r) = refused (number_of r) (place_of r)
