-- Document 01's proof table: its eleven rows marked P, in one table with one statement that the checker computes.
-- It goes through the jobs: what Resolve and then Order answer, and what they leave in buffers as long as the paragraph.
-- The last number of a row is not the page's: it is how many positions are reversed (ticket 6), counted by hand.
use Rattle.std.specs.Prelude.{ℕ, ◌≡◌, refl, List, [], ◌∷◌, map, length, take}
use Rattle.rules.specs.Classes.{L, R, AL, RLE, PDF, EN, ET, AN, CS, BN, S, WS, is_unknown, is_paragraph_end, is_opening, is_removed, is_strong, is_neutral, is_separator, is_blank}
use Rattle.rules.specs.Paragraph.{P2, P3, base_by_text, base_of}
use Rattle.rules.specs.Explicit.{removed_level, X1, least_greater_odd, least_greater_even, opening, closing, X2, X3, X4, X5, X6_level, X6_type, X7, verdict, after, step, level_here, type_here, explicit_levels, explicit_types, kept, put_back}
use Rattle.rules.specs.Runs.{one_longer, run_lengths, boundary_type}
use Rattle.laws.specs.Stretches.{after_stretch, stretches}
use Rattle.rules.specs.Weak.{change_W1, W1, change_W2, strong_W2, W2, change_W3, W3, change_W4, W4, is_terminator, change_W5, W5, change_W6, W6, change_W7, is_side, strong_W7, W7, weak}
use Rattle.rules.specs.Neutral.{direction, change_N1, N1, level_direction, change_N2, N2}
use Rattle.rules.specs.Implicit.{I1, I2, implicit_level}
use Rattle.rules.specs.Resolve.{resolve_run, resolve_runs, resolve_kept, resolved_levels}
use Rattle.laws.specs.Parts.{part}
use Rattle.rules.specs.Line.{blank_ahead, L1, items, pass, passes, highest, lowest_odd, L2, line_levels, line_order}
use Rattle.rules.specs.Reversals.{pass_reverses, passes_reverse, L2_reverses, line_reversed}
use Rattle.rules.specs.Refusals.{check_some, check_length, fault_at, first_fault, check_classes, check_request, check_base, check_level_room, is_bad_level, first_bad_level, check_line, check_order_room, checks_of_levels, checks_of_order, checks_of_line}
use Rattle.rules.specs.Jobs.{Answer, accepted, Placing, levels_answer, resolve_buffer, line_answer, line_buffer}

pub record Row : Type 0 where
  pub classes : List ℕ
  pub request : ℕ
  pub levels : List ℕ
  pub order : List ℕ
  pub base : Answer ℕ
  pub placing : Answer Placing

-- a request by text, the default that goes with it, and what stands for the page's dash
abbrev pub by_text : ℕ
by_text = 2

abbrev fallback : ℕ
fallback = 0

abbrev pub removed : ℕ
removed = removed_level

-- a row of the page, and the base that its request gives: both jobs accept, Resolve with that base, Order with how many
-- positions it placed and how many were reversed
abbrev pub page_row : List ℕ → ℕ → ℕ → List ℕ → List ℕ → ℕ → Row
page_row classes request base levels order reversed =
    record {
      classes = classes;
      request = request;
      levels = levels;
      order = order;
      base = accepted base;
      placing = accepted (record { placed = length order; reversed = reversed });
    }

abbrev pub table : List Row
table =
    page_row (L ∷ []) by_text 0 (0 ∷ []) (0 ∷ []) 0 ∷
    page_row (AL ∷ EN ∷ []) by_text 1 (1 ∷ 2 ∷ []) (1 ∷ 0 ∷ []) 3 ∷
    page_row (L ∷ WS ∷ EN ∷ []) by_text 0 (0 ∷ 0 ∷ 0 ∷ []) (0 ∷ 1 ∷ 2 ∷ []) 0 ∷
    page_row (EN ∷ CS ∷ EN ∷ []) 1 1 (2 ∷ 2 ∷ 2 ∷ []) (0 ∷ 1 ∷ 2 ∷ []) 0 ∷
    page_row (EN ∷ CS ∷ CS ∷ EN ∷ []) 1 1 (2 ∷ 1 ∷ 1 ∷ 2 ∷ []) (3 ∷ 2 ∷ 1 ∷ 0 ∷ []) 6 ∷
    page_row (AN ∷ ET ∷ EN ∷ []) 1 1 (2 ∷ 2 ∷ 2 ∷ []) (0 ∷ 1 ∷ 2 ∷ []) 0 ∷
    page_row (R ∷ WS ∷ L ∷ []) 0 0 (1 ∷ 0 ∷ 0 ∷ []) (0 ∷ 1 ∷ 2 ∷ []) 1 ∷
    page_row (R ∷ WS ∷ L ∷ []) 1 1 (1 ∷ 1 ∷ 2 ∷ []) (2 ∷ 1 ∷ 0 ∷ []) 4 ∷
    page_row (RLE ∷ L ∷ PDF ∷ R ∷ []) 0 0 (removed ∷ 2 ∷ removed ∷ 1 ∷ []) (3 ∷ 1 ∷ []) 3 ∷
    page_row (EN ∷ BN ∷ CS ∷ EN ∷ []) 1 1 (2 ∷ removed ∷ 2 ∷ 2 ∷ []) (0 ∷ 2 ∷ 3 ∷ []) 0 ∷
    page_row (R ∷ S ∷ R ∷ []) 0 0 (1 ∷ 1 ∷ 1 ∷ []) (0 ∷ 1 ∷ 2 ∷ []) 2 ∷
    []

-- the row of the same classes and request with what the jobs answer and leave, in buffers lent with any content
abbrev pub computed : Row → Row
computed r =
    let cs = r.classes in
    let base = base_of r.request fallback cs in
    let levels = resolve_buffer cs r.request fallback cs in
    record {
      classes = cs;
      request = r.request;
      levels = levels;
      order = take (length r.order) (line_buffer cs levels base 0 (length cs) cs);
      base = levels_answer cs r.request fallback cs;
      placing = line_answer cs levels base 0 (length cs) cs;
    }

pub table_holds : map computed table ≡ table
unfolding is_unknown is_paragraph_end is_opening is_removed is_strong is_neutral is_separator is_blank P2 P3 base_by_text base_of X1 least_greater_odd least_greater_even opening closing X2 X3 X4 X5 X6_level X6_type X7 verdict after step level_here type_here explicit_levels explicit_types kept put_back one_longer run_lengths boundary_type change_W1 W1 change_W2 strong_W2 W2 change_W3 W3 change_W4 W4 after_stretch stretches is_terminator change_W5 W5 change_W6 W6 change_W7 is_side strong_W7 W7 weak direction change_N1 N1 level_direction change_N2 N2 I1 I2 implicit_level resolve_run resolve_runs resolve_kept resolved_levels blank_ahead L1 items pass passes highest lowest_odd L2 part line_levels line_order pass_reverses passes_reverse L2_reverses line_reversed check_some check_length fault_at first_fault check_classes check_request check_base check_level_room is_bad_level first_bad_level check_line check_order_room checks_of_levels checks_of_order checks_of_line levels_answer resolve_buffer line_answer line_buffer
table_holds = refl
