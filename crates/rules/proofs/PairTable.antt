-- Worked paragraphs with CR, through the same jobs as document 01's table, and worked cuts: both are computed by the checker.
-- Assumes nothing.
use Prim.Native.Nat.{ℕ}
use mathlib.Core.Path.{◌≡◌, refl}
use mathlib.Core.List.{List, [], ◌∷◌, map}
use Rattle.laws.specs.Parts.{part}
use Rattle.laws.specs.Stretches.{after_stretch, stretches}
use Rattle.rules.specs.Classes.{L, R, RLE, RLO, BN, B, WS, CR, is_unknown, is_paragraph_end, is_opening, is_removed, is_strong, is_neutral, is_separator, is_blank}
use Rattle.rules.specs.Paragraph.{is_pair, P1, P2, P3, base_by_text, base_of}
use Rattle.rules.specs.Explicit.{X1, least_greater_odd, least_greater_even, opening, closing, X2, X3, X4, X5, X6_level, X6_type, X7, verdict, after, step, level_here, type_here, explicit_levels, explicit_types, kept, put_back}
use Rattle.rules.specs.Runs.{one_longer, run_lengths, boundary_type}
use Rattle.rules.specs.Weak.{change_W1, W1, change_W2, strong_W2, W2, change_W3, W3, change_W4, W4, is_terminator, change_W5, W5, change_W6, W6, change_W7, is_side, strong_W7, W7, weak}
use Rattle.rules.specs.Neutral.{direction, change_N1, N1, level_direction, change_N2, N2}
use Rattle.rules.specs.Implicit.{I1, I2, implicit_level}
use Rattle.rules.specs.Resolve.{resolve_run, resolve_runs, resolve_kept, resolved_levels}
use Rattle.rules.specs.Line.{blank_ahead, L1, items, pass, passes, highest, lowest_odd, L2, line_levels, line_order}
use Rattle.rules.specs.Reversals.{pass_reverses, passes_reverse, L2_reverses, line_reversed}
use Rattle.rules.specs.Refusals.{check_some, check_length, may_end, fault_at, first_fault, check_classes, check_request, check_base, check_level_room, is_bad_level, first_bad_level, check_line, check_order_room, checks_of_levels, checks_of_order, checks_of_line, walk, checks_of_cut}
use Rattle.rules.specs.Jobs.{levels_answer, resolve_buffer, line_answer, line_buffer, cut_part}
use Rattle.rules.specs.Table.{Row, page_row, removed, computed}

-- CR and its B are at the base level, also under an override, and take the blanks before them along
abbrev pub pairs : List Row
pairs =
    page_row (R ∷ WS ∷ CR ∷ B ∷ []) 0 0 (1 ∷ 0 ∷ 0 ∷ 0 ∷ []) (0 ∷ 1 ∷ 2 ∷ 3 ∷ []) 1 ∷
    page_row (L ∷ WS ∷ CR ∷ B ∷ []) 1 1 (2 ∷ 1 ∷ 1 ∷ 1 ∷ []) (3 ∷ 2 ∷ 1 ∷ 0 ∷ []) 5 ∷
    page_row (RLO ∷ L ∷ CR ∷ B ∷ []) 0 0 (removed ∷ 1 ∷ 0 ∷ 0 ∷ []) (1 ∷ 2 ∷ 3 ∷ []) 1 ∷
    page_row (RLE ∷ R ∷ WS ∷ CR ∷ []) 0 0 (removed ∷ 1 ∷ 1 ∷ 0 ∷ []) (1 ∷ 2 ∷ 3 ∷ []) 1 ∷
    []

pub pairs_hold : map computed pairs ≡ pairs
unfolding is_unknown is_paragraph_end is_opening is_removed is_strong is_neutral is_separator is_blank is_pair P2 P3 base_by_text base_of X1 least_greater_odd least_greater_even opening closing X2 X3 X4 X5 X6_level X6_type X7 verdict after step level_here type_here explicit_levels explicit_types kept put_back one_longer run_lengths boundary_type change_W1 W1 change_W2 strong_W2 W2 change_W3 W3 change_W4 W4 after_stretch stretches is_terminator change_W5 W5 change_W6 W6 change_W7 is_side strong_W7 W7 weak direction change_N1 N1 level_direction change_N2 N2 I1 I2 implicit_level resolve_run resolve_runs resolve_kept resolved_levels blank_ahead L1 items pass passes highest lowest_odd L2 part line_levels line_order pass_reverses passes_reverse L2_reverses line_reversed check_some check_length may_end fault_at first_fault check_classes check_request check_base check_level_room is_bad_level first_bad_level check_line check_order_room checks_of_levels checks_of_order checks_of_line levels_answer resolve_buffer line_answer line_buffer
pairs_hold = refl

-- a text, and the paragraph that Cut gives
pub record Cutting : Type 0 where
  pub text : List ℕ
  pub paragraph : List ℕ

infix 10 ◌gives◌
abbrev ◌gives◌ : List ℕ → List ℕ → Cutting
text gives paragraph = record { text = text; paragraph = paragraph }

abbrev pub cuts : List Cutting
cuts =
    (L ∷ B ∷ L ∷ [] gives L ∷ B ∷ []) ∷
    (L ∷ CR ∷ B ∷ L ∷ [] gives L ∷ CR ∷ B ∷ []) ∷
    (L ∷ CR ∷ L ∷ B ∷ [] gives L ∷ CR ∷ []) ∷
    (L ∷ CR ∷ [] gives L ∷ CR ∷ []) ∷
    (CR ∷ CR ∷ B ∷ [] gives CR ∷ []) ∷
    (CR ∷ BN ∷ B ∷ [] gives CR ∷ []) ∷
    (CR ∷ B ∷ B ∷ [] gives CR ∷ B ∷ []) ∷
    (B ∷ CR ∷ B ∷ [] gives B ∷ []) ∷
    (L ∷ R ∷ [] gives L ∷ R ∷ []) ∷
    []

pub cuts_hold : map (λ (c : Cutting). cut_part c.text) cuts ≡ map (λ (c : Cutting). c.paragraph) cuts
unfolding is_unknown is_paragraph_end is_pair P1 check_some walk checks_of_cut cut_part
cuts_hold = refl
