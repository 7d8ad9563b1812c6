-- From what a job promises to what the function exported over it promises. Assumes nothing.
use Prim.Native.Nat.{ℕ, ◌<◌}
use native.Mathlib.Omega.{arith}
use mathlib.Core.Path.{◌≡◌, refl, sym, ap, subst, ◌∙◌}
use mathlib.Core.List.{List}
use Rattle.std.specs.Prelude.{Option, None, Some}
use mathlib.Core.Bool.{false}
use borrow.Author.Tests.{ne_eqb}
use lib.Dec.{eqb}
use lib.ListN.{length}
use Rattle.rules.specs.Refusals.{Check, sound, refuse, checks_of_cut, checks_of_base, checks_of_levels, checks_of_line, checks_of_lines, checks_of_marks}
use Rattle.rules.specs.Jobs.{Answer, refused, Placing, answered, cut_answer, base_answer, levels_answer, line_answer, lines_answer, marks_answer}
use Rattle.rules.proofs.ToldLaws.{Numbered, numbered_cut, numbered_base, numbered_levels, numbered_line, numbered_lines, numbered_marks}
use Rattle.melvorash.specs.Answers.{OrdersLine, OrdersLines}
use Rattle.melvorash_c.specs.declared.answer.OrderAnswer as Exported
use Rattle.melvorash_c.specs.Boundary.{level_or_none, numbers_of, read_off, order_numbers_of, order_read_off, Exports}

-- ---- no refusal has the number 0, so what a job answers is read off as what it is
abbrev pub Reads : Answer ℕ → Type 0
Reads wanted = read_off (numbers_of wanted) ≡ wanted

abbrev pub OrderReads : Answer Placing → Type 0
OrderReads wanted = order_read_off (order_numbers_of wanted) ≡ wanted

not_0 : (number : ℕ) → 0 < number → eqb number 0 ≡ false
not_0 number h = ne_eqb number 0 (λ e. let z : number ≡ 0 = e in omega arith)

refusal_reads : (number place : ℕ) → 0 < number → Reads (refused number place)
refusal_reads number place h = rw (not_0 number h)

reads_back : (check : Check) (value : ℕ) → Numbered check → Reads (answered check value)
reads_back sound value h = refl
reads_back (refuse number place) value h = refusal_reads number place h

order_reads_back : (check : Check) (value : Placing) → Numbered check → OrderReads (answered check value)
order_reads_back sound value h = refl
order_reads_back (refuse number place) value h = rw (not_0 number h)

level_reads_back : (check : Check) (found : Option ℕ) → Numbered check → Reads (level_or_none (answered check found))
level_reads_back sound None h = refl
level_reads_back sound (Some level) h = refl
level_reads_back (refuse number place) found h = refusal_reads number place h

pub cut_reads : (cs : List ℕ) → Reads (cut_answer cs)
unfolding cut_answer
cut_reads cs = reads_back (checks_of_cut cs) _ (numbered_cut cs)

pub base_reads : (cs : List ℕ) → Reads (level_or_none (base_answer cs))
unfolding base_answer
base_reads cs = level_reads_back (checks_of_base cs) _ (numbered_base cs)

pub levels_reads : (cs : List ℕ) (request fallback : ℕ) (levels : List ℕ) → Reads (levels_answer cs request fallback levels)
unfolding levels_answer
levels_reads cs request fallback levels =
    reads_back (checks_of_levels cs request fallback (length levels)) _ (numbered_levels cs request fallback (length levels))

line_reads : (cs levels : List ℕ) (base from to : ℕ) (order : List ℕ) → OrderReads (line_answer cs levels base from to order)
unfolding line_answer
line_reads cs levels base from to order = order_reads_back (checks_of_line cs levels base from to (length order)) _ (numbered_line cs levels base from to (length order))

lines_reads : (cs levels : List ℕ) (base : ℕ) (ends order : List ℕ) → OrderReads (lines_answer cs levels base ends order)
unfolding lines_answer
lines_reads cs levels base ends order = order_reads_back (checks_of_lines cs levels base ends (length order)) _ (numbered_lines cs levels base ends (length order))

pub marks_reads : (cs : List ℕ) (flags room : ℕ) → Reads (marks_answer cs flags room)
unfolding marks_answer
marks_reads cs flags room = reads_back (checks_of_marks cs flags room) _ (numbered_marks cs flags room)

-- ---- the job's promise of its own answer is one of the answer read off its numbers
module _ {A R : Type 0} (numbers : Answer A → R) (read : R → Answer A) (promise : Answer A → Type 0) where
  pub exports : {page wanted : Answer A} {r : R} → r ≡ numbers page → page ≡ wanted → read (numbers wanted) ≡ wanted → promise page → Exports numbers read promise r
  exports {page} {wanted} {r} n told reads p =
      let same : read r ≡ page = ap read (n ∙ ap numbers told) ∙ reads ∙ sym told in
      record { job = subst promise (sym same) p; exact = n ∙ ap numbers (sym same) }

-- Order's, by the promise that it has
pub line_exports : (cs levels : List ℕ) (base from to : ℕ) (order : List ℕ) {page : Answer Placing} {after : List ℕ} {r : Exported.OrderAnswer} → r ≡ order_numbers_of page → OrdersLine cs levels base from to order page after → Exports order_numbers_of order_read_off (λ a. OrdersLine cs levels base from to order a after) r
line_exports cs levels base from to order n o = exports order_numbers_of order_read_off _ n o.leaves.told (line_reads cs levels base from to order) o

pub lines_exports : (cs levels : List ℕ) (base : ℕ) (ends order : List ℕ) {page : Answer Placing} {after : List ℕ} {r : Exported.OrderAnswer} → r ≡ order_numbers_of page → OrdersLines cs levels base ends order page after → Exports order_numbers_of order_read_off (λ a. OrdersLines cs levels base ends order a after) r
lines_exports cs levels base ends order n o = exports order_numbers_of order_read_off _ n o.leaves.told (lines_reads cs levels base ends order) o
