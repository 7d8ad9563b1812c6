-- Any two outcomes that a job's promise allows are equal: one lemma for a promise with a buffer, and each job's instance,
-- about the promise that its `ensures` cites. Assumes nothing.
use Rattle.std.specs.Prelude.{Option, Result}
use Prim.Native.Nat.{ℕ}
use mathlib.Core.Path.{◌≡◌, refl}
use mathlib.Core.List.{List}
use Rattle.rules.specs.Jobs.{Answer, Placing, cut_answer, cut_part, base_answer, levels_answer, explicit_buffer, resolve_buffer}
use Rattle.laws.proofs.Determined.{determined}
use Rattle.refusals.specs.Page.{page_of}
use Rattle.refusals.specs.declared.Refusal.{Refusal}
use Rattle.refusals.proofs.PageLaws.{answered_determined}
use Rattle.line.specs.declared.Placed.{Placed}
use Rattle.melvorash.specs.Answers.{cut_page, base_page, levels_page, placing_of, order_page, Leaves, OrdersLine, OrdersLines}

module _ {A B : Type 0} (value : B → A) (back : A → B) (reads : (b : B) → back (value b) ≡ b) where
  leaves_determined : {wanted : Answer A} {left : List ℕ} {b c : Result B Refusal} {x y : List ℕ} → Leaves wanted left (page_of value b) x → Leaves wanted left (page_of value c) y → (b ≡ c) × (x ≡ y)
  leaves_determined {wanted} {left} {b} {c} p q = (answered_determined value back reads b c p.told q.told, determined p.buffer q.buffer)

placed_of : Placing → Placed
placed_of p = record { count = p.placed; reversed = p.reversed }

placed_back : (p : Placed) → placed_of (placing_of p) ≡ p
unfolding placed_of
placed_back p = refl

-- ---- the jobs
pub cut_determined : (cs : List ℕ) {r s : Result ℕ Refusal} → cut_page r ≡ cut_answer cs → cut_page s ≡ cut_answer cs → r ≡ s
cut_determined cs {r} {s} p q = answered_determined (λ n. n) (λ n. n) (λ n. refl) r s p q

pub base_determined : (cs : List ℕ) {r s : Result (Option ℕ) Refusal} → base_page r ≡ base_answer cs → base_page s ≡ base_answer cs → r ≡ s
base_determined cs {r} {s} p q = answered_determined (λ o. o) (λ o. o) (λ o. refl) r s p q

pub cut_part_determined : (cs : List ℕ) {x y : List ℕ} → x ≡ cut_part cs → y ≡ cut_part cs → x ≡ y
cut_part_determined cs p q = determined p q

pub explicit_determined : (cs : List ℕ) (request fallback : ℕ) (levels : List ℕ) {r s : Result ℕ Refusal} {x y : List ℕ} → Leaves (levels_answer cs request fallback levels) (explicit_buffer cs request fallback levels) (levels_page r) x → Leaves (levels_answer cs request fallback levels) (explicit_buffer cs request fallback levels) (levels_page s) y → (r ≡ s) × (x ≡ y)
explicit_determined cs request fallback levels p q = leaves_determined (λ n. n) (λ n. n) (λ n. refl) p q

pub resolve_determined : (cs : List ℕ) (request fallback : ℕ) (levels : List ℕ) {r s : Result ℕ Refusal} {x y : List ℕ} → Leaves (levels_answer cs request fallback levels) (resolve_buffer cs request fallback levels) (levels_page r) x → Leaves (levels_answer cs request fallback levels) (resolve_buffer cs request fallback levels) (levels_page s) y → (r ≡ s) × (x ≡ y)
resolve_determined cs request fallback levels p q = leaves_determined (λ n. n) (λ n. n) (λ n. refl) p q

pub order_line_determined : (cs levels : List ℕ) (base from to : ℕ) (order : List ℕ) {r s : Result Placed Refusal} {x y : List ℕ} → OrdersLine cs levels base from to order (order_page r) x → OrdersLine cs levels base from to order (order_page s) y → (r ≡ s) × (x ≡ y)
order_line_determined cs levels base from to order p q = leaves_determined placing_of placed_of placed_back p.leaves q.leaves

pub order_lines_determined : (cs levels : List ℕ) (base : ℕ) (ends order : List ℕ) {r s : Result Placed Refusal} {x y : List ℕ} → OrdersLines cs levels base ends order (order_page r) x → OrdersLines cs levels base ends order (order_page s) y → (r ≡ s) × (x ≡ y)
order_lines_determined cs levels base ends order p q = leaves_determined placing_of placed_of placed_back p.leaves q.leaves
