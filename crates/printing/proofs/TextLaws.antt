-- From what the jobs answer to what a paragraph's text is. Assumes nothing.
use Prim.Native.Nat.{ℕ, ◌-◌, ◌≤◌, ◌<◌}
use native.Mathlib.Omega.{arith}
use mathlib.Core.Path.{◌≡◌, refl, sym, ap, ◌∙◌}
use mathlib.Core.Bool.{false}
use mathlib.Core.Logic.{◌⊎◌, inl, inr}
use mathlib.Core.List.{List, [], ◌∷◌, ◌++◌}
use borrow.Author.Tests.{le-ltb, lt-ltb, lt-leb}
use lib.Dec.{leb, ltb}
use lib.ListN.{length, take, drop, length-take, length-append}
use lib.Seq.{take_all, take-append_seam}
use Rattle.rules.specs.Paragraph.{base_of}
use Rattle.rules.specs.Resolve.{resolved_levels}
use Rattle.laws.specs.Parts.{part, over}
use Rattle.rules.specs.Line.{line_levels, line_order}
use Rattle.rules.specs.Refusals.{Check, sound, refuse, ◌and_then◌, check_some, check_length, check_classes, check_request, check_level_room, check_line, check_order_room, checks_of_levels, checks_of_order, checks_of_line, longest_paragraph}
use Rattle.rules.specs.Jobs.{Answer, accepted, refused, answered, levels_answer, resolve_buffer, Placing, line_placing, line_answer, line_buffer}
use Rattle.laws.proofs.Lists.{le_or_lt}
use Rattle.rules.proofs.SoundLaws.{then_sound, classes_length, classes_some, levels_sound}
use Rattle.resolve.proofs.WholeLaws.{length_resolved}
use Rattle.melvorash.specs.Answers.{Leaves, OrdersLine}
use Rattle.rules.proofs.JobLaws.{accepted_value, never_both, accepted_sound}
use Rattle.melvorash.proofs.LevelTheorems.{order_takes_resolved}
use Rattle.writing.specs.Text.{refused_row}
use Rattle.printing.specs.Printing.{most_classes, paragraph_rows, paragraph_text}

-- ---- one class beyond the longest paragraph is enough to refuse it
too_long : (cs : List ℕ) → longest_paragraph < length cs → check_classes cs ≡ refuse 3 0
unfolding check_classes check_some check_length
too_long [] h = absurd (omega arith)
too_long (c ∷ cs) h = rw (lt-ltb longest_paragraph (length (c ∷ cs)) h)

told_too_long : (request fallback : ℕ) (cs : List ℕ) → longest_paragraph < length cs → paragraph_text request fallback cs ≡ refused_row 3 0
unfolding paragraph_text
told_too_long request fallback cs h = rw (too_long cs h)

pub text_of_front : (request fallback : ℕ) (cs : List ℕ) → paragraph_text request fallback (take most_classes cs) ≡ paragraph_text request fallback cs
text_of_front request fallback cs = go (le_or_lt (length cs) most_classes)
  where
    go : (length cs ≤ most_classes) ⊎ (most_classes < length cs) → paragraph_text request fallback (take most_classes cs) ≡ paragraph_text request fallback cs
    go (inl h) = ap (paragraph_text request fallback) (take_all most_classes cs h)
    go (inr h) =
        told_too_long request fallback (take most_classes cs) (omega (arith, length-take most_classes cs))
        ∙ sym (told_too_long request fallback cs (omega arith))

-- ---- with room for the longest paragraph there is no refusal for want of room
enough_room : (check : Check) (cs : List ℕ) (request fallback room : ℕ) → check_classes cs ≡ check → longest_paragraph ≤ room → checks_of_levels cs request fallback room ≡ (check and_then check_request request fallback)
unfolding checks_of_levels check_level_room
enough_room sound cs request fallback room e h =
    rw (e, le-ltb room (length cs) (omega (arith, classes_length cs e))) (then_sound (check_request request fallback))
enough_room (refuse number place) cs request fallback room e h = rw e

pub checks_told : (cs : List ℕ) (request fallback room : ℕ) → longest_paragraph ≤ room → checks_of_levels cs request fallback room ≡ (check_classes cs and_then check_request request fallback)
checks_told cs request fallback room h = enough_room (check_classes cs) cs request fallback room refl h

module _ (cs : List ℕ) (request fallback room : ℕ) (h : longest_paragraph ≤ room) where
  pub text_refused : (number place : ℕ) → checks_of_levels cs request fallback room ≡ refuse number place → paragraph_text request fallback cs ≡ refused_row number place
  unfolding paragraph_text
  text_refused number place e = rw (sym (checks_told cs request fallback room h) ∙ e)

  pub text_sound : (base : ℕ) → base_of request fallback cs ≡ base → checks_of_levels cs request fallback room ≡ sound → paragraph_text request fallback cs ≡ paragraph_rows base (resolved_levels base cs) (line_order base cs (resolved_levels base cs) 0 (length cs))
  unfolding paragraph_text
  text_sound base b e = rw (sym (checks_told cs request fallback room h) ∙ e, b)

-- ---- the whole paragraph is a line that Order takes
pub line_taken : (cs levels : List ℕ) (base room : ℕ) → check_classes cs ≡ sound → checks_of_order cs levels base ≡ sound → longest_paragraph ≤ room → checks_of_line cs levels base 0 (length cs) room ≡ sound
unfolding checks_of_line check_line check_order_room
line_taken cs levels base room c o h =
    let few = classes_length cs c in
    let whole : ltb (length cs) (length cs) ≡ false = le-ltb (length cs) (length cs) (omega arith) in
    let begun : leb (length cs) 0 ≡ false = lt-leb (length cs) 0 (classes_some cs c) in
    rw (o, begun, whole, le-ltb room (length cs - 0) (omega (arith, few)))

-- ---- only the paragraph's own levels bear on its order
front_levels : (xs rest : List ℕ) (n : ℕ) → length xs ≡ n → part 0 n (xs ++ rest) ≡ part 0 n xs
unfolding part
front_levels xs rest n e =
    let whole : n - 0 ≡ length xs = omega arith in
    rw whole (take-append_seam xs rest ∙ sym (take_all (length xs) xs (omega arith)))

pub order_of_front : (base : ℕ) (cs xs rest : List ℕ) → length xs ≡ length cs → line_order base cs (xs ++ rest) 0 (length cs) ≡ line_order base cs xs 0 (length cs)
unfolding line_order line_levels
order_of_front base cs xs rest e = rw (front_levels xs rest (length cs) e)

-- ---- what Resolve's answer makes of a paragraph's text
refused_check : (check : Check) (value number place : ℕ) → answered check value ≡ refused number place → check ≡ refuse number place
refused_check sound value number place e = absurd (never_both e)
refused_check (refuse m p) value number place e = cc

module _ (cs : List ℕ) (request fallback : ℕ) (levels : List ℕ) (answer : Answer ℕ) (after : List ℕ) (room : longest_paragraph ≤ length levels) (l : Leaves (levels_answer cs request fallback levels) (resolve_buffer cs request fallback levels) answer after) where
  pub resolve_refused : (number place : ℕ) → answer ≡ refused number place → refused_row number place ≡ paragraph_text request fallback cs
  unfolding levels_answer
  resolve_refused number place e =
      sym (text_refused cs request fallback (length levels) room number place (refused_check (checks_of_levels cs request fallback (length levels)) (base_of request fallback cs) number place (sym l.told ∙ e)))

  module _ (base : ℕ) (a : answer ≡ accepted base) where
    checked : (checks_of_levels cs request fallback (length levels) ≡ sound) × (base_of request fallback cs ≡ base)
    unfolding levels_answer
    checked = accepted_sound (checks_of_levels cs request fallback (length levels)) (base_of request fallback cs) base (sym l.told ∙ a)

    written : after ≡ over (resolved_levels base cs) levels
    unfolding resolve_buffer
    written = l.buffer ∙ rw (checked.0, checked.1)

    -- Order takes the whole paragraph as a line
    pub resolve_taken : (places : ℕ) → longest_paragraph ≤ places → checks_of_line cs after base 0 (length cs) places ≡ sound
    resolve_taken places h =
        line_taken cs after base places (levels_sound cs request fallback (length levels) checked.0).classes (order_takes_resolved cs request fallback levels answer after base l a) h

    pub resolve_text : paragraph_rows base (take (length cs) after) (line_order base cs after 0 (length cs)) ≡ paragraph_text request fallback cs
    resolve_text =
        let long = length_resolved base cs in
        let rest = drop (length (resolved_levels base cs)) levels in
        let front : take (length cs) after ≡ resolved_levels base cs = rw (written, sym long) (take-append_seam (resolved_levels base cs) rest) in
        let same : line_order base cs after 0 (length cs) ≡ line_order base cs (resolved_levels base cs) 0 (length cs) = rw written (order_of_front base cs (resolved_levels base cs) rest long) in
        (λ j. paragraph_rows base (front j) (same j)) ∙ sym (text_sound cs request fallback (length levels) room base checked.1 checked.0)

-- ---- the front of a buffer that was written from its first place on
module _ (text before : List ℕ) {after : List ℕ} {count : ℕ} (n : count ≡ length text) (w : after ≡ over text before) where
  pub front_within : count ≤ length after
  front_within = omega (arith, n, ap length w ∙ length-append text (drop (length text) before))

  pub front_is : take count after ≡ text
  front_is = rw (n, w) (take-append_seam text (drop (length text) before))

-- ---- what Order answers where its checks find nothing wrong
module _ {cs levels : List ℕ} {base to : ℕ} {order : List ℕ} {answer : Answer Placing} {after : List ℕ} (s : checks_of_line cs levels base 0 to (length order) ≡ sound) (o : OrdersLine cs levels base 0 to order answer after) where
  told : answer ≡ accepted (line_placing cs levels base 0 to)
  unfolding line_answer
  told = o.leaves.told ∙ rw s

  left : after ≡ over (line_order base cs levels 0 to) order
  unfolding line_buffer
  left = o.leaves.buffer ∙ rw s

  pub order_not_refused : {number place : ℕ} → answer ≡ refused number place → ⊥
  order_not_refused e = never_both (sym told ∙ e)

  module _ {placing : Placing} (a : answer ≡ accepted placing) where
    counted : placing.placed ≡ length (line_order base cs levels 0 to)
    counted = ap (λ (p : Placing). p.placed) (accepted_value (sym a ∙ told))

    pub order_within : placing.placed ≤ length after
    order_within = front_within (line_order base cs levels 0 to) order counted left

    pub order_front : take placing.placed after ≡ line_order base cs levels 0 to
    order_front = front_is (line_order base cs levels 0 to) order counted left
