-- What holds of the number and the place of every refusal; and that no number is 0. Assumes nothing.
use Rattle.std.specs.Prelude.{if◌then◌else◌}
use Prim.Native.Nat.{ℕ, zero, suc, ◌+◌, ◌-◌, ◌≤◌, ◌<◌}
use native.Mathlib.Omega.{arith}
use mathlib.Core.Path.{◌≡◌, refl}
use mathlib.Core.Bool.{Bool, true, false, ◌||◌, not}
use mathlib.Core.List.{List, [], ◌∷◌}
use lib.Dec.{eqb, leb, ltb}
use lib.ListN.{length}
use Rattle.rules.specs.Classes.{is_unknown, is_paragraph_end}
use Rattle.rules.specs.Paragraph.{is_pair}
use Rattle.rules.specs.Refusals.{longest_paragraph, Check, sound, refuse, ◌and_then◌, refuse_where, is_empty, check_some, check_length, may_end, fault_at, first_fault, check_classes, check_request, check_base, check_level_room, is_bad_level, first_bad_level, check_line, check_order_room, ends_rise_to, check_ends, check_mark_room, checks_of_base, checks_of_levels, checks_of_order, checks_of_line, checks_of_lines, checks_of_marks, walk, checks_of_cut}

-- ---- what holds of the number and the place of a refusal, whichever check finds it
abbrev pub Told : (ℕ → ℕ → Type 0) → Check → Type 0
Told P sound = Unit {0}
Told P (refuse number place) = P number place

module _ (P : ℕ → ℕ → Type 0) where
  pub told_then : (a b : Check) → Told P a → (a ≡ sound → Told P b) → Told P (a and_then b)
  told_then sound b p q = q refl
  told_then (refuse number place) b p q = p

  pub told_where : (test : Bool) (number : ℕ) → P number 0 → Told P (refuse_where test number)
  told_where true number h = h
  told_where false number h = tt

  told_if : (test : Bool) (a b : Check) → Told P a → Told P b → Told P (if test then a else b)
  told_if true a b p q = p
  told_if false a b p q = q

  -- the first fault is at a position of the paragraph
  pub told_faults : (limit : ℕ) → ((n : ℕ) → n < limit → P 2 n × P 4 n) → (at : ℕ) (cs : List ℕ) → at + length cs ≤ limit → Told P (first_fault at cs)
  unfolding fault_at first_fault
  told_faults limit here at [] h = tt
  told_faults limit here at (c ∷ cs) h =
      let p = here at (omega arith) in
      told_then (fault_at at c cs) (first_fault (suc at) cs)
      (told_if (is_unknown c) _ _ p.0 (told_if (is_paragraph_end c) _ _ (told_if (may_end c cs) _ _ tt p.1) tt))
      (λ _. told_faults limit here (suc at) cs (omega arith))

  told_level : (at : ℕ) (cs ls : List ℕ) → ((n : ℕ) → P 7 n) → Told P (first_bad_level at cs ls)
  unfolding first_bad_level
  told_level at [] ls h = tt
  told_level at (c ∷ cs) [] h = tt
  told_level at (c ∷ cs) (l ∷ ls) h = told_if (is_bad_level c l) _ _ (h at) (told_level (suc at) cs ls h)

  told_walk : (left at : ℕ) (cs : List ℕ) → ((n : ℕ) → P 2 n) → P 3 0 → Told P (walk left at cs)
  unfolding walk
  told_walk left at [] two three = tt
  told_walk zero at (c ∷ cs) two three = three
  told_walk (suc left) at (c ∷ cs) two three =
      told_if (is_unknown c) _ _ (two at)
      (told_if (is_pair c cs) _ _ (told_where (eqb left 0) 3 three)
      (told_if (is_paragraph_end c) _ _ tt (told_walk left (suc at) cs two three)))

-- ---- no job refuses with the number 0, which stands for an accepted call where an answer is three numbers
abbrev Above0 : ℕ → ℕ → Type 0
Above0 number place = 0 < number

abbrev pub Numbered : Check → Type 0
Numbered check = Told Above0 check

numbered_then : (a b : Check) → Numbered a → Numbered b → Numbered (a and_then b)
numbered_then a b p q = told_then Above0 a b p (λ _. q)

numbered_where : (test : Bool) (number : ℕ) → Numbered (refuse_where test (suc number))
numbered_where test number = told_where Above0 test (suc number) (omega arith)

numbered_some : (cs : List ℕ) → Numbered (check_some cs)
unfolding check_some
numbered_some cs = numbered_where (is_empty cs) 0

numbered_length : (cs : List ℕ) → Numbered (check_length cs)
unfolding check_length
numbered_length cs = numbered_where (ltb longest_paragraph (length cs)) 2

numbered_classes : (cs : List ℕ) → Numbered (check_classes cs)
unfolding check_classes
numbered_classes cs =
    numbered_then (check_some cs) _ (numbered_some cs)
    (numbered_then (check_length cs) _ (numbered_length cs)
    (told_faults Above0 (length cs) (λ n _. (omega arith, omega arith)) 0 cs (omega arith)))

pub numbered_base : (cs : List ℕ) → Numbered (checks_of_base cs)
unfolding checks_of_base
numbered_base cs = numbered_classes cs

pub numbered_levels : (cs : List ℕ) (request fallback room : ℕ) → Numbered (checks_of_levels cs request fallback room)
unfolding checks_of_levels check_request check_level_room
numbered_levels cs request fallback room =
    numbered_then (check_classes cs) _ (numbered_classes cs)
    (numbered_then (check_request request fallback) (check_level_room cs room) (numbered_where (ltb 2 request || ltb 1 fallback) 4) (numbered_where (ltb room (length cs)) 5))

numbered_order : (cs levels : List ℕ) (base : ℕ) → Numbered (checks_of_order cs levels base)
unfolding checks_of_order check_base check_level_room
numbered_order cs levels base =
    numbered_then (check_classes cs) _ (numbered_classes cs)
    (numbered_then (check_base base) (check_level_room cs (length levels) and_then first_bad_level 0 cs levels) (numbered_where (ltb 1 base) 4)
    (numbered_then (check_level_room cs (length levels)) (first_bad_level 0 cs levels) (numbered_where (ltb (length levels) (length cs)) 5)
    (told_level Above0 0 cs levels (λ n. omega arith))))

pub numbered_line : (cs levels : List ℕ) (base from to room : ℕ) → Numbered (checks_of_line cs levels base from to room)
unfolding checks_of_line check_line check_order_room
numbered_line cs levels base from to room =
    numbered_then (checks_of_order cs levels base) _ (numbered_order cs levels base)
    (numbered_then (check_line cs from to) (check_order_room (to - from) room) (numbered_where (leb to from || ltb (length cs) to) 7) (numbered_where (ltb room (to - from)) 8))

pub numbered_lines : (cs levels : List ℕ) (base : ℕ) (ends : List ℕ) (room : ℕ) → Numbered (checks_of_lines cs levels base ends room)
unfolding checks_of_lines check_ends check_order_room
numbered_lines cs levels base ends room =
    numbered_then (checks_of_order cs levels base) _ (numbered_order cs levels base)
    (numbered_then (check_ends cs ends) (check_order_room (length cs) room) (numbered_where (is_empty ends || not (ends_rise_to 0 ends (length cs))) 9) (numbered_where (ltb room (length cs)) 8))

pub numbered_marks : (cs : List ℕ) (flags room : ℕ) → Numbered (checks_of_marks cs flags room)
unfolding checks_of_marks check_mark_room
numbered_marks cs flags room =
    numbered_then (check_some cs) _ (numbered_some cs)
    (numbered_then (check_length cs) (check_mark_room cs flags room) (numbered_length cs) (numbered_where (ltb flags (length cs) || ltb room (length cs)) 15))

pub numbered_cut : (cs : List ℕ) → Numbered (checks_of_cut cs)
unfolding checks_of_cut
numbered_cut cs =
    numbered_then (check_some cs) _ (numbered_some cs) (told_walk Above0 longest_paragraph 0 cs (λ n. omega arith) (omega arith))
