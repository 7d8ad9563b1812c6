-- What an exported function promises: what its job promises, with the answer in three numbers, or four for an order.
use Rattle.std.specs.Prelude.{ℕ, ◌≡◌, Option, None, Some, Result, eqb, if◌then◌else◌}
use Rattle.rules.specs.Jobs.{Answer, accepted, refused, Placing}
use Rattle.refusals.specs.declared.Refusal.{Refusal}
use Rattle.line.specs.declared.Placed.{Placed}
use Rattle.melvorash.specs.Answers.{cut_page, base_page, order_page}
use Rattle.melvorash_c.specs.declared.answer.Answer as Exported
use Rattle.melvorash_c.specs.declared.answer.OrderAnswer as ExportedOrder

-- the value where Base finds none; a level is 0 or 1
abbrev pub none_found : ℕ
none_found = 2

abbrev pub level_or_none : Answer (Option ℕ) → Answer ℕ
level_or_none (accepted None) = accepted none_found
level_or_none (accepted (Some level)) = accepted level
level_or_none (refused number place) = refused number place

-- the three numbers of an answer: accepted has refusal 0 and place 0, refused has value 0
abbrev pub numbers_of : Answer ℕ → Exported.Answer
numbers_of (accepted value) = record { refusal = 0; place = 0; value = value }
numbers_of (refused number place) = record { refusal = number; place = place; value = 0 }

-- what a caller reads off them: a value where the refusal is 0, else a refusal's number and place
abbrev pub read_off : Exported.Answer → Answer ℕ
read_off r = if eqb r.refusal 0 then accepted r.value else refused r.refusal r.place

-- the same for an order, whose answer has how many positions were reversed beside how many were placed
abbrev pub order_numbers_of : Answer Placing → ExportedOrder.OrderAnswer
order_numbers_of (accepted p) = record { refusal = 0; place = 0; value = p.placed; reversed = p.reversed }
order_numbers_of (refused number place) = record { refusal = number; place = place; value = 0; reversed = 0 }

abbrev pub order_read_off : ExportedOrder.OrderAnswer → Answer Placing
order_read_off r =
    if eqb r.refusal 0 then accepted (record { placed = r.value; reversed = r.reversed }) else refused r.refusal r.place

-- what a job answered, in numbers
abbrev pub NumbersOf : Result ℕ Refusal → Exported.Answer → Type 0
NumbersOf answer r = r ≡ numbers_of (cut_page answer)

abbrev pub BaseNumbersOf : Result (Option ℕ) Refusal → Exported.Answer → Type 0
BaseNumbersOf answer r = r ≡ numbers_of (level_or_none (base_page answer))

abbrev pub OrderNumbersOf : Result Placed Refusal → ExportedOrder.OrderAnswer → Type 0
OrderNumbersOf answer r = r ≡ order_numbers_of (order_page answer)

-- what the job promises of its answer holds of the answer that a caller reads off, and the numbers hold nothing else
pub record Exports {A R : Type 0} (numbers : Answer A → R) (read : R → Answer A) (promise : Answer A → Type 0) (r : R) : Type 0 where
  pub job : promise (read r)
  pub exact : r ≡ numbers (read r)
