-- Worked refusals of every number, and which of two faults is told, in one table that the checker computes.
-- Assumes nothing.
use Prim.Native.Nat.{ℕ, suc, ◌-◌}
use mathlib.Core.Path.{◌≡◌, refl}
use mathlib.Core.List.{List, [], ◌∷◌, ◌++◌, map}
use lib.ListN.{replicate}
use Rattle.rules.specs.Classes.{L, LRE, BN, B, CR, is_unknown, is_opening, is_removed, is_paragraph_end}
use Rattle.rules.specs.Paragraph.{is_pair}
use Rattle.rules.specs.Explicit.{removed_level}
use Rattle.rules.specs.Refusals.{longest_paragraph, highest_resolved, Check, sound, refuse, check_some, check_length, may_end, fault_at, first_fault, check_classes, check_request, check_base, check_level_room, is_bad_level, first_bad_level, check_line, check_order_room, ends_rise_to, check_ends, check_mark_room, checks_of_base, checks_of_levels, checks_of_order, checks_of_line, checks_of_lines, checks_of_marks, walk, checks_of_cut}

-- what a job's checks find, and what they have to find
pub record Found : Type 0 where
  pub found : Check
  pub wanted : Check

infix 10 ◌finds◌
abbrev ◌finds◌ : Check → Check → Found
found finds wanted = record { found = found; wanted = wanted }

-- a class that is none, three positions of which the second is removed, and levels for them
abbrev unknown : ℕ
unknown = 20

abbrev three : List ℕ
three = L ∷ LRE ∷ L ∷ []

abbrev fine : List ℕ
fine = 0 ∷ removed_level ∷ highest_resolved ∷ []

-- one position more than a paragraph may have
abbrev long : List ℕ
long = replicate (suc longest_paragraph) L

-- as many letters as leave that much room in the longest paragraph, and what stands behind them
infixr 30 ◌beyond◌
abbrev ◌beyond◌ : List ℕ → ℕ → List ℕ
behind beyond room = replicate (longest_paragraph - room) L ++ behind

abbrev pub refusals : List Found
refusals =
    (checks_of_base [] finds refuse 1 0) ∷
    (checks_of_base (unknown ∷ long) finds refuse 3 0) ∷
    (checks_of_base (replicate longest_paragraph L) finds sound) ∷
    (checks_of_base (L ∷ unknown ∷ B ∷ L ∷ []) finds refuse 2 1) ∷
    (checks_of_base (L ∷ B ∷ unknown ∷ []) finds refuse 4 1) ∷
    (checks_of_base (L ∷ B ∷ []) finds sound) ∷
    (checks_of_base (L ∷ CR ∷ []) finds sound) ∷
    (checks_of_base (L ∷ CR ∷ B ∷ []) finds sound) ∷
    (checks_of_base (L ∷ CR ∷ L ∷ []) finds refuse 4 1) ∷
    (checks_of_base (CR ∷ B ∷ L ∷ []) finds refuse 4 0) ∷
    (checks_of_base (CR ∷ CR ∷ B ∷ []) finds refuse 4 0) ∷
    (checks_of_base (CR ∷ BN ∷ B ∷ []) finds refuse 4 0) ∷
    (checks_of_base (B ∷ CR ∷ B ∷ []) finds refuse 4 0) ∷
    (checks_of_base (B ∷ CR ∷ []) finds refuse 4 0) ∷
    (checks_of_base (CR ∷ unknown ∷ []) finds refuse 4 0) ∷
    (checks_of_base ((CR ∷ B ∷ []) beyond 2) finds sound) ∷
    (checks_of_base ((CR ∷ B ∷ []) beyond 1) finds refuse 3 0) ∷
    (checks_of_levels (unknown ∷ []) 3 2 0 finds refuse 2 0) ∷
    (checks_of_levels three 3 0 2 finds refuse 5 0) ∷
    (checks_of_levels three 0 2 2 finds refuse 5 0) ∷
    (checks_of_levels three 1 2 3 finds refuse 5 0) ∷
    (checks_of_levels three 2 2 3 finds refuse 5 0) ∷
    (checks_of_levels three 2 1 3 finds sound) ∷
    (checks_of_levels three 2 1 2 finds refuse 6 0) ∷
    (checks_of_line three [] 2 0 3 3 finds refuse 5 0) ∷
    (checks_of_line three (suc highest_resolved ∷ 0 ∷ []) 1 0 3 3 finds refuse 6 0) ∷
    (checks_of_line three (0 ∷ removed_level ∷ suc highest_resolved ∷ []) 1 3 3 3 finds refuse 7 2) ∷
    (checks_of_line three (0 ∷ 0 ∷ 0 ∷ []) 1 0 3 3 finds refuse 7 1) ∷
    (checks_of_line three fine 1 2 2 0 finds refuse 8 0) ∷
    (checks_of_line three fine 1 2 4 0 finds refuse 8 0) ∷
    (checks_of_line three fine 1 1 3 1 finds refuse 9 0) ∷
    (checks_of_line three fine 1 1 3 2 finds sound) ∷
    (checks_of_lines three fine 1 [] 3 finds refuse 10 0) ∷
    (checks_of_lines three fine 1 (2 ∷ 2 ∷ 3 ∷ []) 0 finds refuse 10 0) ∷
    (checks_of_lines three fine 1 (1 ∷ 2 ∷ []) 3 finds refuse 10 0) ∷
    (checks_of_lines three fine 1 (1 ∷ 3 ∷ []) 2 finds refuse 9 0) ∷
    (checks_of_lines three fine 1 (1 ∷ 3 ∷ []) 3 finds sound) ∷
    (checks_of_marks [] 0 0 finds refuse 1 0) ∷
    (checks_of_marks long 0 0 finds refuse 3 0) ∷
    (checks_of_marks (unknown ∷ []) 0 1 finds refuse 16 0) ∷
    (checks_of_marks (unknown ∷ []) 1 0 finds refuse 16 0) ∷
    (checks_of_cut [] finds refuse 1 0) ∷
    (checks_of_cut (L ∷ unknown ∷ long) finds refuse 2 1) ∷
    (checks_of_cut (L ∷ B ∷ unknown ∷ long) finds sound) ∷
    (checks_of_cut (L ∷ CR ∷ unknown ∷ long) finds sound) ∷
    (checks_of_cut (L ∷ CR ∷ B ∷ unknown ∷ long) finds sound) ∷
    (checks_of_cut ((CR ∷ unknown ∷ []) beyond 1) finds sound) ∷
    (checks_of_cut ((CR ∷ B ∷ []) beyond 2) finds sound) ∷
    (checks_of_cut ((CR ∷ B ∷ []) beyond 1) finds refuse 3 0) ∷
    (checks_of_cut ((B ∷ B ∷ []) beyond 1) finds sound) ∷
    (checks_of_cut ((CR ∷ B ∷ []) beyond 0) finds refuse 3 0) ∷
    (checks_of_cut long finds refuse 3 0) ∷
    []

pub refusals_hold : map (λ (f : Found). f.found) refusals ≡ map (λ (f : Found). f.wanted) refusals
unfolding is_unknown is_opening is_removed is_paragraph_end is_pair check_some check_length may_end fault_at first_fault check_classes check_request check_base check_level_room is_bad_level first_bad_level check_line check_order_room ends_rise_to check_ends check_mark_room checks_of_base checks_of_levels checks_of_order checks_of_line checks_of_lines checks_of_marks walk checks_of_cut
refusals_hold = refl
