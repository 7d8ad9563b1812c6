-- From a line's bytes to what it prints into a lent buffer. Assumes nothing.
use Prim.Native.Nat.{ℕ, ◌≤◌, ◌<◌}
use native.Mathlib.Omega.{arith}
use mathlib.Core.Path.{◌≡◌, refl, sym, ap, ◌∙◌}
use mathlib.Core.Bool.{true, false}
use mathlib.Core.List.{List}
use borrow.Author.Tests.{lt-ltb, le-ltb}
use lib.Dec.{ltb}
use lib.ListN.{length, take}
use lib.Seq.{length-take-le}
use Rattle.io.specs.Counts.{IsPrefixLen}
use Rattle.words.specs.Words.{request_of, fallback_of, classes_of}
use Rattle.words.specs.Read.{ClassesRead}
use Rattle.writing.specs.Text.{Puts}
use Rattle.writing.proofs.TextLaws.{puts_whole}
use Rattle.printing.specs.Printing.{most_classes, paragraph_text, line_text, most_output, printed, Prints}
use Rattle.printing.proofs.TextLaws.{text_of_front, front_within, front_is}
use Rattle.printing.proofs.LengthLaws.{line_short}

-- ---- a line's text is that of the classes that were read of it, one more than the longest paragraph has
pub line_told : {line before after : List ℕ} {request fallback count : ℕ} → length before ≡ most_classes → request ≡ request_of line → fallback ≡ fallback_of line → ClassesRead line before count after → paragraph_text request fallback (take count after) ≡ line_text line
unfolding line_text
line_told {line} {before} {after} {request} {fallback} {count} long asked instead read =
    let cs = classes_of line in
    let front : take count after ≡ take most_classes cs = front_is (take (length before) cs) before read.count read.classes ∙ ap (λ (n : ℕ). take n cs) long in
    (λ j. paragraph_text (asked j) (instead j) (front j)) ∙ text_of_front (request_of line) (fallback_of line) cs

-- ---- what a line prints into a buffer
pub prints_nothing : {line before : List ℕ} → length before < most_output → IsPrefixLen 0 before × Prints line before 0 before
unfolding printed
prints_nothing {line} {before} h =
    let short : ltb (length before) most_output ≡ true = lt-ltb (length before) most_output h in
    ((omega arith, refl), record { counted = rw short; buffer = rw short })

pub prints_text : {line before after : List ℕ} {count : ℕ} → most_output ≤ length before → Puts (line_text line) before 0 after count → IsPrefixLen count after × Prints line before count after
unfolding printed
prints_text {line} {before} {after} {count} h p =
    let room : ltb (length before) most_output ≡ false = le-ltb (length before) most_output h in
    let w = puts_whole p (omega (arith, line_short line)) in
    let within : count ≤ length after = front_within (line_text line) before w.1 w.0 in
    ((within, sym (length-take-le count after within)), record { counted = rw room w.1; buffer = rw room w.0 })
