-- The refusals: the number and the place of each, and the order of checks of each job.
use Rattle.std.specs.Prelude.{ℕ, zero, suc, ◌-◌, Bool, true, false, ◌||◌, ◌&&◌, not, List, [], ◌∷◌, eqb, leb, ltb, length, if◌then◌else◌}
use Rattle.rules.specs.Classes.{is_unknown, is_removed, is_paragraph_end}
use Rattle.rules.specs.Paragraph.{is_pair}
use Rattle.rules.specs.Explicit.{removed_level}

-- the longest paragraph, and the highest level that resolving can give
abbrev pub longest_paragraph : ℕ
longest_paragraph = 4096

abbrev pub highest_resolved : ℕ
highest_resolved = 62

-- what a check finds: nothing wrong, or a refusal's number and place
pub data Check : Type 0 where
  sound : Check
  refuse : ℕ → ℕ → Check

-- one check, then the next where the first finds nothing wrong
infixr 20 ◌and_then◌
abbrev pub ◌and_then◌ : Check → Check → Check
sound and_then next = next
(refuse number place) and_then next = refuse number place

-- one thing where a check finds nothing wrong, else what is made of the refusal's number and place
abbrev pub by_check : {A : Type 0} → Check → A → (ℕ → ℕ → A) → A
by_check sound here made = here
by_check (refuse number place) here made = made number place

-- a refusal with place 0 where a test holds
abbrev pub refuse_where : Bool → ℕ → Check
refuse_where true number = refuse number 0
refuse_where false number = sound

abbrev pub is_empty : List ℕ → Bool
is_empty [] = true
is_empty (x ∷ xs) = false

-- 1: there are no classes. 3: more than 4,096 positions
unfoldable pub check_some : List ℕ → Check
check_some cs = refuse_where (is_empty cs) 1

unfoldable pub check_length : List ℕ → Check
check_length cs = refuse_where (ltb longest_paragraph (length cs)) 3

-- B and CR may stand last, and CR before a last B
unfoldable pub may_end : ℕ → List ℕ → Bool
may_end c cs = is_empty cs || (is_pair c cs && eqb (length cs) 1)

-- the fault at a position, given what stands after it: 2, an unknown class; 4, any other B or CR
unfoldable pub fault_at : ℕ → ℕ → List ℕ → Check
fault_at at c cs =
    if is_unknown c then refuse 2 at else
    if is_paragraph_end c then (if may_end c cs then sound else refuse 4 at) else sound

-- the first faulty position from the left, the first position being `at`
unfoldable pub first_fault : ℕ → List ℕ → Check
first_fault at [] = sound
first_fault at (c ∷ cs) = fault_at at c cs and_then first_fault (suc at) cs

-- the checks of a paragraph's classes, in document 01's order
unfoldable pub check_classes : List ℕ → Check
check_classes cs = check_some cs and_then check_length cs and_then first_fault 0 cs

-- 5: a base request above 2, or a default above 1 with any request; in Order, a base above 1
unfoldable pub check_request : ℕ → ℕ → Check
check_request request fallback = refuse_where (ltb 2 request || ltb 1 fallback) 5

unfoldable pub check_base : ℕ → Check
check_base base = refuse_where (ltb 1 base) 5

-- 6: a level buffer with fewer positions than the paragraph; `room` is how many it has
unfoldable pub check_level_room : List ℕ → ℕ → Check
check_level_room cs room = refuse_where (ltb room (length cs)) 6

-- 7: a lent level that is not 0 to 62 on a kept position, or not 255 on a removed one
unfoldable pub is_bad_level : ℕ → ℕ → Bool
is_bad_level c l = if is_removed c then not (eqb l removed_level) else ltb highest_resolved l

unfoldable pub first_bad_level : ℕ → List ℕ → List ℕ → Check
first_bad_level at [] ls = sound
first_bad_level at (c ∷ cs) [] = sound
first_bad_level at (c ∷ cs) (l ∷ ls) = if is_bad_level c l then refuse 7 at else first_bad_level (suc at) cs ls

-- 8: a line whose `from` is not below its `to`, or whose `to` is beyond the paragraph
unfoldable pub check_line : List ℕ → ℕ → ℕ → Check
check_line cs from to = refuse_where (leb to from || ltb (length cs) to) 8

-- 9: an order buffer shorter than the line, or for all lines than the paragraph, removed positions counted; `room` is
-- how many places it has
unfoldable pub check_order_room : ℕ → ℕ → Check
check_order_room positions room = refuse_where (ltb room positions) 9

-- 10: ends that are none, begin with 0, do not rise strictly, or do not end with the paragraph's length
unfoldable pub ends_rise_to : ℕ → List ℕ → ℕ → Bool
ends_rise_to before [] last = eqb before last
ends_rise_to before (end ∷ ends) last = if ltb before end then ends_rise_to end ends last else false

unfoldable pub check_ends : List ℕ → List ℕ → Check
check_ends cs ends = refuse_where (is_empty ends || not (ends_rise_to 0 ends (length cs))) 10

-- 16: fewer flags, or fewer places for the order, than characters
unfoldable pub check_mark_room : List ℕ → ℕ → ℕ → Check
check_mark_room cs flags room = refuse_where (ltb flags (length cs) || ltb room (length cs)) 16

-- the checks of each job, each made only where those before it found nothing wrong
unfoldable pub checks_of_base : List ℕ → Check
checks_of_base cs = check_classes cs

unfoldable pub checks_of_levels : List ℕ → ℕ → ℕ → ℕ → Check
checks_of_levels cs request fallback room =
    check_classes cs and_then check_request request fallback and_then check_level_room cs room

unfoldable pub checks_of_order : List ℕ → List ℕ → ℕ → Check
checks_of_order cs levels base =
    check_classes cs and_then check_base base and_then check_level_room cs (length levels) and_then first_bad_level 0 cs levels

unfoldable pub checks_of_line : List ℕ → List ℕ → ℕ → ℕ → ℕ → ℕ → Check
checks_of_line cs levels base from to room =
    checks_of_order cs levels base and_then check_line cs from to and_then check_order_room (to - from) room

unfoldable pub checks_of_lines : List ℕ → List ℕ → ℕ → List ℕ → ℕ → Check
checks_of_lines cs levels base ends room =
    checks_of_order cs levels base and_then check_ends cs ends and_then check_order_room (length cs) room

-- a character's combining class may be any byte
unfoldable pub checks_of_marks : List ℕ → ℕ → ℕ → Check
checks_of_marks cs flags room = check_some cs and_then check_length cs and_then check_mark_room cs flags room

-- Cut's own: 1; then at most 4,096 positions are looked at: 2 where an unknown class comes before any B or CR, 3 where there
-- is none of these among them and more follow, or where the last of them is a CR and its B would be one more. Beyond a CR
-- nothing is asked but whether a B follows. `left` counts the positions that may still be looked at
unfoldable pub walk : ℕ → ℕ → List ℕ → Check
walk left at [] = sound
walk zero at (c ∷ cs) = refuse 3 0
walk (suc left) at (c ∷ cs) =
    if is_unknown c then refuse 2 at else
    if is_pair c cs then refuse_where (eqb left 0) 3 else
    if is_paragraph_end c then sound else walk left (suc at) cs

unfoldable pub checks_of_cut : List ℕ → Check
checks_of_cut cs = check_some cs and_then walk longest_paragraph 0 cs
