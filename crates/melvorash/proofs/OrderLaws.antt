-- From what Order leaves to what it displays and to what its count comes to: demand 3 and ticket 6 for a caller.
-- Assumes nothing.
use Rattle.std.specs.Prelude.{Result, Err, IsErrAnd}
use Rattle.std.proofs.lemmas.Result.{err_from_is_err_and}
use Prim.Native.Nat.{ℕ}
use native.Mathlib.Omega.{arith}
use mathlib.Core.Path.{◌≡◌, refl, sym, ◌∙◌}
use mathlib.Core.List.{List}
use lib.ListN.{length}
use Rattle.laws.specs.Parts.{over}
use Rattle.rules.specs.Line.{line_kept, line_order, all_orders}
use Rattle.rules.specs.Refusals.{highest_resolved, sound, refuse, checks_of_line, checks_of_lines}
use Rattle.rules.specs.Reversals.{line_reversed, all_reversed}
use Rattle.rules.specs.Jobs.{Answer, accepted, refused, Placing, line_placing, lines_placing, line_answer, line_buffer, lines_answer, lines_buffer}
use Rattle.rules.proofs.JobLaws.{accepted_sound, written_front}
use Rattle.rules.proofs.LowLaws.{kept_fit, line_most, all_most}
use Rattle.rules.proofs.ReversalLaws.{counted, each_counted}
use Rattle.rules.proofs.SoundLaws.{line_sound, lines_sound}
use Rattle.pairwise.proofs.Theorem.{demand3}
use Rattle.pairwise.proofs.Lines.{each_displayed}
use Rattle.line.specs.Ordered.{Ordered}
use Rattle.line.specs.declared.Placed.{Placed}
use Rattle.refusals.specs.Page.{number_of, place_of}
use Rattle.refusals.specs.declared.Refusal.{Refusal}
use Rattle.melvorash.proofs.AnswerLaws.{leaves_refused, leaves_written}
use Rattle.melvorash.specs.Answers.{placing_of, order_page, Leaves, OrdersLine, OrdersLines}

orders_line : (cs levels : List ℕ) (base from to : ℕ) (order : List ℕ) (answer : Answer Placing) (after : List ℕ) → Leaves (line_answer cs levels base from to order) (line_buffer cs levels base from to order) answer after → OrdersLine cs levels base from to order answer after
unfolding line_answer line_buffer line_reversed
orders_line cs levels base from to order answer after p =
    record {
      leaves = p;
      display = λ k e.
          let front = written_front (λ (q : Placing). q.placed) (checks_of_line cs levels base from to (length order)) (line_placing cs levels base from to) (line_order base cs levels from to) order after answer k refl p.told p.buffer e in
          let s = line_sound cs levels base from to (length order) front.0 in
          rw front.1 (demand3 base cs levels from to (omega arith) s.within s.order.fits);
      counted = λ k e.
          let s = accepted_sound (checks_of_line cs levels base from to (length order)) (line_placing cs levels base from to) k (sym p.told ∙ e) in
          rw (sym s.1) (counted (line_kept base cs levels from to));
      most = λ k e.
          let a = accepted_sound (checks_of_line cs levels base from to (length order)) (line_placing cs levels base from to) k (sym p.told ∙ e) in
          let s = line_sound cs levels base from to (length order) a.0 in
          rw (sym a.1) (line_most highest_resolved base cs levels (omega (arith, s.order.low)) (kept_fit 0 cs levels s.order.right) from to);
    }

orders_lines : (cs levels : List ℕ) (base : ℕ) (ends order : List ℕ) (answer : Answer Placing) (after : List ℕ) → Leaves (lines_answer cs levels base ends order) (lines_buffer cs levels base ends order) answer after → OrdersLines cs levels base ends order answer after
unfolding lines_answer lines_buffer
orders_lines cs levels base ends order answer after p =
    record {
      leaves = p;
      display = λ k e.
          let front = written_front (λ (q : Placing). q.placed) (checks_of_lines cs levels base ends (length order)) (lines_placing cs levels base ends) (all_orders base cs levels 0 ends) order after answer k refl p.told p.buffer e in
          let s = lines_sound cs levels base ends (length order) front.0 in
          rw front.1 (each_displayed base cs levels 0 ends s.order.fits s.rise);
      counted = λ k e.
          let s = accepted_sound (checks_of_lines cs levels base ends (length order)) (lines_placing cs levels base ends) k (sym p.told ∙ e) in
          rw (sym s.1) (each_counted base cs levels 0 ends);
      most = λ k e.
          let a = accepted_sound (checks_of_lines cs levels base ends (length order)) (lines_placing cs levels base ends) k (sym p.told ∙ e) in
          let s = lines_sound cs levels base ends (length order) a.0 in
          rw (sym a.1) (all_most highest_resolved base cs levels (omega (arith, s.order.low)) (kept_fit 0 cs levels s.order.right) 0 ends);
    }

-- what the lines' work answers, on the page
placing_is : {wanted : List ℕ} {turned : ℕ} {entry : List ℕ} (r : Placed) {exit : List ℕ} → Ordered wanted turned entry r exit → placing_of r ≡ record { placed = length wanted; reversed = turned }
placing_is r o = λ j. record { placed = o.placed j; reversed = o.reversed j }

-- ---- the two returns of each form
module _ (cs levels : List ℕ) (base from to : ℕ) (order : List ℕ) where
  pub line_refused : (number place : ℕ) → checks_of_line cs levels base from to (length order) ≡ refuse number place → OrdersLine cs levels base from to order (refused number place) order
  unfolding line_answer line_buffer
  line_refused number place e =
      orders_line cs levels base from to order (refused number place) order
      (leaves_refused (checks_of_line cs levels base from to (length order)) number place (line_placing cs levels base from to) (over (line_order base cs levels from to) order) order e)

  -- what `?` handed on
  pub line_handed : (found : Result Placed Refusal) (r : Refusal) → IsErrAnd found (λ (e : Refusal). e ≡ r) → refuse (number_of r) (place_of r) ≡ checks_of_line cs levels base from to (length order) → OrdersLine cs levels base from to order (order_page found) order
  line_handed found r is e =
      let told : (y : Refusal) × (found ≡ Err y) × (y ≡ r) = err_from_is_err_and found is in
      rw (told.1, told.2) (line_refused (number_of r) (place_of r) (sym e))

  pub line_written : (r : Placed) (after : List ℕ) → checks_of_line cs levels base from to (length order) ≡ sound → Ordered (line_order base cs levels from to) (line_reversed base cs levels from to) order r after → OrdersLine cs levels base from to order (accepted (placing_of r)) after
  unfolding line_answer line_buffer
  line_written r after e o =
      orders_line cs levels base from to order (accepted (placing_of r)) after
      (leaves_written (checks_of_line cs levels base from to (length order)) (placing_of r) (line_placing cs levels base from to) (over (line_order base cs levels from to) order) order after e (placing_is r o) o.order)

module _ (cs levels : List ℕ) (base : ℕ) (ends order : List ℕ) where
  pub lines_refused : (number place : ℕ) → checks_of_lines cs levels base ends (length order) ≡ refuse number place → OrdersLines cs levels base ends order (refused number place) order
  unfolding lines_answer lines_buffer
  lines_refused number place e =
      orders_lines cs levels base ends order (refused number place) order
      (leaves_refused (checks_of_lines cs levels base ends (length order)) number place (lines_placing cs levels base ends) (over (all_orders base cs levels 0 ends) order) order e)

  -- what `?` handed on
  pub lines_handed : (found : Result Placed Refusal) (r : Refusal) → IsErrAnd found (λ (e : Refusal). e ≡ r) → refuse (number_of r) (place_of r) ≡ checks_of_lines cs levels base ends (length order) → OrdersLines cs levels base ends order (order_page found) order
  lines_handed found r is e =
      let told : (y : Refusal) × (found ≡ Err y) × (y ≡ r) = err_from_is_err_and found is in
      rw (told.1, told.2) (lines_refused (number_of r) (place_of r) (sym e))

  pub lines_written : (r : Placed) (after : List ℕ) → checks_of_lines cs levels base ends (length order) ≡ sound → Ordered (all_orders base cs levels 0 ends) (all_reversed base cs levels 0 ends) order r after → OrdersLines cs levels base ends order (accepted (placing_of r)) after
  unfolding lines_answer lines_buffer
  lines_written r after e o =
      orders_lines cs levels base ends order (accepted (placing_of r)) after
      (leaves_written (checks_of_lines cs levels base ends (length order)) (placing_of r) (lines_placing cs levels base ends) (over (all_orders base cs levels 0 ends) order) order after e (placing_is r o) o.order)
