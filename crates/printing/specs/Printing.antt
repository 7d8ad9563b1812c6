-- The printing program: what it writes for a line, and for its whole input.
use Rattle.std.specs.Prelude.{ℕ, ◌+◌, ◌*◌, ◌≡◌, List, [], ◌∷◌, ◌++◌, ltb, length, take, if◌then◌else◌}
use Rattle.rules.specs.Paragraph.{base_of}
use Rattle.rules.specs.Resolve.{resolved_levels}
use Rattle.rules.specs.Line.{line_order}
use Rattle.rules.specs.Refusals.{Check, by_check, ◌and_then◌, check_classes, check_request, longest_paragraph}
use Rattle.laws.specs.Parts.{over}
use Rattle.words.specs.Words.{lines_of, request_of, fallback_of, classes_of}
use Rattle.writing.specs.Text.{base_row, levels_row, order_row, refused_row}

-- the rows where the checks find nothing wrong, else the refusal's row
abbrev pub told_rows : Check → List ℕ → List ℕ
told_rows check rows = by_check check rows (λ number place. refused_row number place)

-- the base used, the levels before the line's reset, the order
unfoldable pub paragraph_rows : ℕ → List ℕ → List ℕ → List ℕ
paragraph_rows base levels order = base_row base ++ levels_row levels ++ order_row order

-- one paragraph that is one line of display
unfoldable pub paragraph_text : ℕ → ℕ → List ℕ → List ℕ
paragraph_text request fallback cs =
    let base = base_of request fallback cs in
    let levels = resolved_levels base cs in
    told_rows (check_classes cs and_then check_request request fallback) (paragraph_rows base levels (line_order base cs levels 0 (length cs)))

-- as many classes of a line are read; one more than the longest paragraph has is enough to refuse a longer one
abbrev pub most_classes : ℕ
most_classes = longest_paragraph + 1

-- the whole output for one line of input
unfoldable pub line_text : List ℕ → List ℕ
line_text line = paragraph_text (request_of line) (fallback_of line) (classes_of line)

-- the whole output: at most 65,536 bytes are read, and the lines are handled in turn
abbrev pub most_input : ℕ
most_input = 65536

unfoldable pub text_of_all : List (List ℕ) → List ℕ
text_of_all [] = []
text_of_all (line ∷ lines) = line_text line ++ text_of_all lines

unfoldable pub output_of : List ℕ → List ℕ
output_of input = text_of_all (lines_of (take most_input input))

-- a line's output has fewer bytes than this, and a shorter buffer is left alone. A level has at most two digits and a
-- position four, each with a space: eight bytes of nine
abbrev pub most_output : ℕ
most_output = 9 * longest_paragraph

unfoldable pub printed : List ℕ → ℕ → List ℕ
printed line room = if ltb room most_output then [] else line_text line

-- what printing a line into a lent buffer promises: how many bytes, and every byte of the buffer
pub record Prints (line before : List ℕ) (count : ℕ) (after : List ℕ) : Type 0 where
  pub counted : count ≡ length (printed line (length before))
  pub buffer : after ≡ over (printed line (length before)) before
