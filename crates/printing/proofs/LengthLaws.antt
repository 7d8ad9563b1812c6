-- No line's output has as many bytes as the buffer that the program lends for it. Assumes nothing.
use Prim.Native.Nat.{ℕ, ◌≤◌, ◌<◌}
use native.Mathlib.Omega.{arith}
use mathlib.Core.Path.{◌≡◌, refl, sym, ap, ◌∙◌}
use mathlib.Core.Bool.{◌||◌}
use mathlib.Core.List.{List, [], ◌++◌, append-nil}
use borrow.Author.Tests.{ltb-false}
use lib.Dec.{ltb}
use lib.ListN.{length, get_or, length-append}
use Rattle.rules.specs.Paragraph.{base_of}
use Rattle.rules.specs.Resolve.{resolved_levels}
use Rattle.rules.specs.Line.{line_order}
use Rattle.rules.specs.Refusals.{longest_paragraph, Check, sound, refuse, ◌and_then◌, is_empty, check_some, check_length, first_fault, check_classes, check_request, first_bad_level}
use Rattle.rules.proofs.ToldLaws.{Told, told_then, told_where, told_faults}
use Rattle.rules.proofs.SoundLaws.{test_fails, levels_sound}
use Rattle.rules.proofs.BaseTheorem.{base_of_small}
use Rattle.resolve.proofs.WholeLaws.{length_resolved}
use Rattle.resolve.proofs.BoundLaws.{resolved_accepted}
use Rattle.line.proofs.LineLaws.{order_within}
use Rattle.pairwise.proofs.Theorem.{demand3}
use Rattle.words.specs.Words.{request_of, fallback_of, classes_of}
use Rattle.writing.specs.Text.{base_row, levels_row, order_row}
use Rattle.writing.proofs.SizeLaws.{base_row_size, levels_row_size, order_row_size, refused_row_size}
use Rattle.printing.specs.Printing.{paragraph_rows, paragraph_text, line_text, most_output}
use Rattle.printing.proofs.TextLaws.{checks_told}

-- ---- a refusal of a paragraph has a small number and a place in it
abbrev Within : ℕ → ℕ → ℕ → Type 0
Within limit number place = (number ≤ 10) × (place < limit)

few : (cs : List ℕ) → check_length cs ≡ sound → length cs ≤ longest_paragraph
unfolding check_length
few cs e = ltb-false longest_paragraph (length cs) (test_fails _ _ e)

told_within : (cs : List ℕ) (request fallback : ℕ) → Told (Within longest_paragraph) (check_classes cs and_then check_request request fallback)
unfolding check_classes check_some check_length check_request
told_within cs request fallback =
    let P = Within longest_paragraph in
    told_then P (check_classes cs) (check_request request fallback)
    (told_then P (check_some cs) (check_length cs and_then first_fault 0 cs) (told_where P (is_empty cs) 1 (omega arith, omega arith))
    (λ e. told_then P (check_length cs) (first_fault 0 cs) (told_where P (ltb longest_paragraph (length cs)) 3 (omega arith, omega arith))
    (λ l. told_faults P longest_paragraph (λ n h. ((omega arith, h), (omega arith, h))) 0 cs (omega (arith, few cs l)))))
    (λ e. told_where P (ltb 2 request || ltb 1 fallback) 5 (omega arith, omega arith))

-- ---- three rows: two digits for a level, four for a position
rows_short : (base : ℕ) (cs : List ℕ) → base ≤ 1 → length cs ≤ longest_paragraph → length (paragraph_rows base (resolved_levels base cs) (line_order base cs (resolved_levels base cs) 0 (length cs))) < most_output
unfolding paragraph_rows
rows_short base cs low h =
    let levels = resolved_levels base cs in
    let order = line_order base cs levels 0 (length cs) in
    let long : length levels ≡ length cs = length_resolved base cs in
    let fine : first_bad_level 0 cs levels ≡ sound = ap (first_bad_level 0 cs) (sym (append-nil levels)) ∙ resolved_accepted base cs [] low in
    let shown = demand3 base cs levels 0 (length cs) (omega arith) (omega arith) (omega arith) in
    let near : (i : ℕ) → i < length order → get_or order i 0 < 10000 = λ i g. let b : get_or order i 0 < length cs = (shown.only i g).before in omega arith in
    let count : length order ≤ length cs = omega (arith, order_within base cs levels 0 (length cs) (omega arith)) in
    let rows = length-append (base_row base ++ levels_row levels) (order_row order) in
    let first = length-append (base_row base) (levels_row levels) in
    omega (arith, rows, first, base_row_size base low, levels_row_size cs levels long fine, order_row_size order near)

told_short : (check : Check) (cs : List ℕ) (request fallback : ℕ) → (check_classes cs and_then check_request request fallback) ≡ check → Told (Within longest_paragraph) check → length (paragraph_text request fallback cs) < most_output
unfolding paragraph_text
told_short sound cs request fallback e w =
    let s = levels_sound cs request fallback longest_paragraph (checks_told cs request fallback longest_paragraph (omega arith) ∙ e) in
    rw e (rows_short (base_of request fallback cs) cs (base_of_small request fallback cs s.asked s.instead) s.few)
told_short (refuse number place) cs request fallback e w =
    let size = refused_row_size number place w.0 (omega (arith, w.1)) in
    rw e (omega (arith, size))

-- a line's output has fewer bytes than the buffer that is asked for
pub line_short : (line : List ℕ) → length (line_text line) < most_output
unfolding line_text
line_short line =
    let cs = classes_of line in
    told_short (check_classes cs and_then check_request (request_of line) (fallback_of line)) cs (request_of line) (fallback_of line) refl (told_within cs (request_of line) (fallback_of line))
