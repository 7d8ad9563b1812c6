-- Any two outcomes that an exported function's promise allows are equal, in all numbers and in every place of the
-- buffer: about the promises that the `ensures` cite. Assumes nothing.
use Prim.Native.Nat.{ℕ}
use mathlib.Core.Path.{◌≡◌, sym, ap, ◌∙◌}
use mathlib.Core.List.{List}
use lib.ListN.{length}
use Rattle.rules.specs.Refusals.{checks_of_marks}
use Rattle.rules.specs.Jobs.{Answer}
use Rattle.laws.proofs.Determined.{determined}
use Rattle.marks.specs.Answers.{DrawsMarks}
use Rattle.marks.proofs.Determined.{order_determined}
use Rattle.melvorash.specs.Answers.{Leaves, OrdersLine, OrdersLines}
use Rattle.melvorash_c.specs.Boundary.{numbers_of, read_off, order_numbers_of, order_read_off, Exports}
use Rattle.melvorash_c.specs.declared.answer.Answer as Exported
use Rattle.melvorash_c.specs.declared.answer.OrderAnswer as ExportedOrder

module _ {A R : Type 0} (numbers : Answer A → R) (read : R → Answer A) where
  -- answers that hold nothing but what is read off them, and are read alike
  same_numbers : {wanted : Answer A} {r s : R} → r ≡ numbers (read r) → s ≡ numbers (read s) → read r ≡ wanted → read s ≡ wanted → r ≡ s
  same_numbers p q a b = p ∙ ap numbers (determined a b) ∙ sym q

  -- Cut and Base
  pub answer_determined : {wanted : Answer A} {r s : R} → Exports numbers read (λ a. a ≡ wanted) r → Exports numbers read (λ a. a ≡ wanted) s → r ≡ s
  answer_determined p q = same_numbers p.exact q.exact p.job q.job

  -- Explicit and Resolve; Order below, by its part `leaves`
  pub leaves_determined : {wanted : Answer A} {left : List ℕ} {r s : R} {x y : List ℕ} → Exports numbers read (λ a. Leaves wanted left a x) r → Exports numbers read (λ a. Leaves wanted left a y) s → (r ≡ s) × (x ≡ y)
  leaves_determined p q = (same_numbers p.exact q.exact p.job.told q.job.told, determined p.job.buffer q.job.buffer)

-- Order
pub line_determined : (cs levels : List ℕ) (base from to : ℕ) (order : List ℕ) {r s : ExportedOrder.OrderAnswer} {x y : List ℕ} → Exports order_numbers_of order_read_off (λ a. OrdersLine cs levels base from to order a x) r → Exports order_numbers_of order_read_off (λ a. OrdersLine cs levels base from to order a y) s → (r ≡ s) × (x ≡ y)
line_determined cs levels base from to order p q =
    leaves_determined order_numbers_of order_read_off (record { job = p.job.leaves; exact = p.exact }) (record { job = q.job.leaves; exact = q.exact })

pub lines_determined : (cs levels : List ℕ) (base : ℕ) (ends order : List ℕ) {r s : ExportedOrder.OrderAnswer} {x y : List ℕ} → Exports order_numbers_of order_read_off (λ a. OrdersLines cs levels base ends order a x) r → Exports order_numbers_of order_read_off (λ a. OrdersLines cs levels base ends order a y) s → (r ≡ s) × (x ≡ y)
lines_determined cs levels base ends order p q =
    leaves_determined order_numbers_of order_read_off (record { job = p.job.leaves; exact = p.exact }) (record { job = q.job.leaves; exact = q.exact })

-- Marks
pub marks_determined : (cs flags before : List ℕ) {r s : Exported.Answer} {x y : List ℕ} → Exports numbers_of read_off (λ a. DrawsMarks cs flags before a x) r → Exports numbers_of read_off (λ a. DrawsMarks cs flags before a y) s → (r ≡ s) × (x ≡ y)
marks_determined cs flags before p q = (
  same_numbers numbers_of read_off p.exact q.exact p.job.told q.job.told,
  order_determined cs flags before (checks_of_marks cs (length flags) (length before)) p.job.drawing q.job.drawing p.job.buffer q.job.buffer,
)
