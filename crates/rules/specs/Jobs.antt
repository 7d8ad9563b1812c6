-- The jobs: what each answers, and what it leaves in the buffer that it is lent.
use Rattle.std.specs.Prelude.{ℕ, Option, List, [], length}
use Rattle.laws.specs.Parts.{over}
use Rattle.rules.specs.Paragraph.{P1, base_by_text, base_of}
use Rattle.rules.specs.Explicit.{X1, explicit_levels}
use Rattle.rules.specs.Resolve.{resolved_levels}
use Rattle.rules.specs.Line.{line_order, all_orders}
use Rattle.rules.specs.Reversals.{line_reversed, all_reversed}
use Rattle.rules.specs.Refusals.{Check, by_check, checks_of_cut, checks_of_base, checks_of_levels, checks_of_line, checks_of_lines, checks_of_marks}

-- a job accepts and answers a value, or refuses with a number and a place
pub data Answer (A : Type 0) : Type 0 where
  accepted : A → Answer A
  refused : ℕ → ℕ → Answer A

-- the value where the checks find nothing wrong, else their refusal
abbrev pub answered : {A : Type 0} → Check → A → Answer A
answered check value = by_check check (accepted value) (λ number place. refused number place)

-- the first list where the checks find nothing wrong, else the second
abbrev pub where_sound : Check → List ℕ → List ℕ → List ℕ
where_sound check xs ys = by_check check xs (λ number place. ys)

-- Cut: the first paragraph's length; and the paragraph itself, empty where it is refused
unfoldable pub cut_answer : List ℕ → Answer ℕ
cut_answer cs = answered (checks_of_cut cs) (length (P1 cs))

unfoldable pub cut_part : List ℕ → List ℕ
cut_part cs = where_sound (checks_of_cut cs) (P1 cs) []

-- Base: the level that the text decides, or none found
unfoldable pub base_answer : List ℕ → Answer (Option ℕ)
base_answer cs = answered (checks_of_base cs) (base_by_text cs)

-- Explicit and Resolve answer the base level used, and write a level for each position
unfoldable pub levels_answer : List ℕ → ℕ → ℕ → List ℕ → Answer ℕ
levels_answer cs request fallback levels =
    answered (checks_of_levels cs request fallback (length levels)) (base_of request fallback cs)

unfoldable pub explicit_buffer : List ℕ → ℕ → ℕ → List ℕ → List ℕ
explicit_buffer cs request fallback levels =
    let base = base_of request fallback cs in
    where_sound (checks_of_levels cs request fallback (length levels)) (over (explicit_levels base (X1 base) cs) levels) levels

unfoldable pub resolve_buffer : List ℕ → ℕ → ℕ → List ℕ → List ℕ
resolve_buffer cs request fallback levels =
    let base = base_of request fallback cs in
    where_sound (checks_of_levels cs request fallback (length levels)) (over (resolved_levels base cs) levels) levels

-- Order answers how many positions it placed and how many the passes reversed, and writes the positions from left to right
pub record Placing : Type 0 where
  pub placed : ℕ
  pub reversed : ℕ

abbrev pub line_placing : List ℕ → List ℕ → ℕ → ℕ → ℕ → Placing
line_placing cs levels base from to =
    record { placed = length (line_order base cs levels from to); reversed = line_reversed base cs levels from to }

unfoldable pub line_answer : List ℕ → List ℕ → ℕ → ℕ → ℕ → List ℕ → Answer Placing
line_answer cs levels base from to order =
    answered (checks_of_line cs levels base from to (length order)) (line_placing cs levels base from to)

unfoldable pub line_buffer : List ℕ → List ℕ → ℕ → ℕ → ℕ → List ℕ → List ℕ
line_buffer cs levels base from to order =
    where_sound (checks_of_line cs levels base from to (length order)) (over (line_order base cs levels from to) order) order

abbrev pub lines_placing : List ℕ → List ℕ → ℕ → List ℕ → Placing
lines_placing cs levels base ends =
    record { placed = length (all_orders base cs levels 0 ends); reversed = all_reversed base cs levels 0 ends }

unfoldable pub lines_answer : List ℕ → List ℕ → ℕ → List ℕ → List ℕ → Answer Placing
lines_answer cs levels base ends order =
    answered (checks_of_lines cs levels base ends (length order)) (lines_placing cs levels base ends)

unfoldable pub lines_buffer : List ℕ → List ℕ → ℕ → List ℕ → List ℕ → List ℕ
lines_buffer cs levels base ends order =
    where_sound (checks_of_lines cs levels base ends (length order)) (over (all_orders base cs levels 0 ends) order) order

-- Marks answers how many characters it put in drawing order, all of them; `flags` and `room` are how many flags and places
-- it is lent. What it writes is the list that Stacking.Draws tells
unfoldable pub marks_answer : List ℕ → ℕ → ℕ → Answer ℕ
marks_answer cs flags room = answered (checks_of_marks cs flags room) (length cs)
