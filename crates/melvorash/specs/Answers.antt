-- What each answer means on the page, and what a job promises: its answer and the buffer it was lent, for every input.
use Rattle.std.specs.Prelude.{ℕ, ◌*◌, ◌≤◌, ◌≡◌, Option, Result, List, take}
use Rattle.rules.specs.Line.{line_levels, line_kept}
use Rattle.rules.specs.Refusals.{highest_resolved}
use Rattle.rules.specs.Reversals.{Counted, EachCounted}
use Rattle.rules.specs.Jobs.{Answer, accepted, refused, Placing, line_answer, line_buffer, lines_answer, lines_buffer}
use Rattle.refusals.specs.Page.{page_of}
use Rattle.refusals.specs.declared.Refusal.{Refusal}
use Rattle.line.specs.declared.Placed.{Placed}
use Rattle.pairwise.specs.Demand3.{Displayed, EachDisplayed}

-- the length, the base level or none found, the base level used, or how many positions were placed and reversed; or the
-- refusal's number and place
abbrev pub cut_page : Result ℕ Refusal → Answer ℕ
cut_page = page_of (λ length. length)

abbrev pub base_page : Result (Option ℕ) Refusal → Answer (Option ℕ)
base_page = page_of (λ level. level)

abbrev pub levels_page : Result ℕ Refusal → Answer ℕ
levels_page = page_of (λ base. base)

abbrev pub placing_of : Placed → Placing
placing_of p = record { placed = p.count; reversed = p.reversed }

abbrev pub order_page : Result Placed Refusal → Answer Placing
order_page = page_of placing_of

-- how long a part an answer of Cut gives: the paragraph's length, and 0 where it refuses
abbrev pub part_length : Answer ℕ → ℕ
part_length (accepted n) = n
part_length (refused number place) = 0

-- ---- what a job promises, of its answer on the page: so a function that hands the answer on promises it in the same words

-- a job that is lent a buffer: its answer is the wanted one, and the buffer holds afterwards, at every place, what is to be left
pub record Leaves {A : Type 0} (wanted : Answer A) (left : List ℕ) (answer : Answer A) (after : List ℕ) : Type 0 where
  pub told : answer ≡ wanted
  pub buffer : after ≡ left

-- Order of one line: also, where it accepts, what it wrote displays the line as demand 3 has it; and its count of reversed
-- positions is ticket 6's sum, 0 with no odd level, and at most 62 times the positions placed (`most`, the only part with the
-- limit of levels)
pub record OrdersLine (cs levels : List ℕ) (base from to : ℕ) (order : List ℕ) (answer : Answer Placing) (after : List ℕ) : Type 0 where
  pub leaves : Leaves (line_answer cs levels base from to order) (line_buffer cs levels base from to order) answer after
  pub display : (p : Placing) → answer ≡ accepted p → Displayed cs (line_levels base cs levels from to) (take p.placed after) from to
  pub counted : (p : Placing) → answer ≡ accepted p → Counted (line_kept base cs levels from to) p.reversed
  pub most : (p : Placing) → answer ≡ accepted p → p.reversed ≤ highest_resolved * p.placed

-- Order of all lines: the same for each line in turn; the counts are added up
pub record OrdersLines (cs levels : List ℕ) (base : ℕ) (ends order : List ℕ) (answer : Answer Placing) (after : List ℕ) : Type 0 where
  pub leaves : Leaves (lines_answer cs levels base ends order) (lines_buffer cs levels base ends order) answer after
  pub display : (p : Placing) → answer ≡ accepted p → EachDisplayed base cs levels 0 ends (take p.placed after)
  pub counted : (p : Placing) → answer ≡ accepted p → EachCounted base cs levels 0 ends p.reversed
  pub most : (p : Placing) → answer ≡ accepted p → p.reversed ≤ highest_resolved * p.placed
