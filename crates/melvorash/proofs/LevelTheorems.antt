-- How high the written levels are, and that Order takes what Resolve wrote. Assumes nothing.
use Rattle.std.specs.Prelude.{if◌then◌else◌}
use Prim.Native.Nat.{ℕ, ◌-◌, ◌≤◌}
use native.Mathlib.Omega.{arith}
use mathlib.Core.Path.{◌≡◌, refl, sym, ap, ◌∙◌}
use mathlib.Core.Bool.{Bool, true, false, ◌||◌, not}
use mathlib.Core.Logic.{◌⊎◌, inl, inr}
use mathlib.Core.List.{List, [], ◌∷◌, ◌++◌}
use borrow.Author.Tests.{le-ltb}
use lib.Dec.{leb, ltb}
use lib.ListN.{length, drop, length-append, length-drop}
use Rattle.rules.specs.Classes.{is_removed}
use Rattle.rules.specs.Paragraph.{base_of}
use Rattle.rules.specs.Explicit.{highest_explicit, X1, explicit_levels, kept}
use Rattle.rules.specs.Resolve.{resolved_levels}
use Rattle.rules.specs.Refusals.{highest_resolved, sound, ◌and_then◌, refuse_where, check_base, check_level_room, first_bad_level, is_empty, ends_rise_to, check_line, check_ends, check_order_room, checks_of_levels, checks_of_order, checks_of_line, checks_of_lines}
use Rattle.laws.specs.Parts.{over}
use Rattle.rules.specs.Jobs.{Answer, accepted, refused, answered, levels_answer, explicit_buffer, resolve_buffer, line_answer, lines_answer}
use Rattle.rules.proofs.SoundLaws.{levels_sound}
use Rattle.rules.proofs.BaseTheorem.{base_of_small}
use Rattle.explicit.proofs.ExplicitLaws.{length_levels, kept_low}
use Rattle.laws.proofs.Every.{AtMost}
use Rattle.rules.proofs.LowLaws.{kept_fit}
use Rattle.resolve.proofs.BoundLaws.{at_most_all, resolved_accepted}
use Rattle.resolve.proofs.WholeLaws.{length_resolved}
use Rattle.rules.proofs.JobLaws.{accepted_sound, never_both}
use Rattle.melvorash.specs.Answers.{Leaves}

-- ---- kept positions of a written buffer
kept_over : (cs xs rest : List ℕ) → length xs ≡ length cs → kept cs (xs ++ rest) ≡ kept cs xs
unfolding kept
kept_over [] xs rest e = refl
kept_over (c ∷ cs) [] rest e = absurd (omega arith)
kept_over (c ∷ cs) (x ∷ xs) rest e =
    ap (λ (ys : List ℕ). if is_removed c then ys else x ∷ ys) (kept_over cs xs rest (omega arith))

-- ---- what Explicit and Resolve leave when they accept
module _ (cs : List ℕ) (request fallback : ℕ) (levels : List ℕ) (answer : Answer ℕ) (after : List ℕ) (base : ℕ) where
  module _ (p : Leaves (levels_answer cs request fallback levels) (explicit_buffer cs request fallback levels) answer after) (a : answer ≡ accepted base) where
    -- what Explicit writes on kept positions is at most the highest explicit level
    pub explicit_low : AtMost highest_explicit (kept cs after)
    unfolding levels_answer explicit_buffer
    explicit_low =
        let s = accepted_sound (checks_of_levels cs request fallback (length levels)) (base_of request fallback cs) base (sym p.told ∙ a) in
        let sounds = levels_sound cs request fallback (length levels) s.0 in
        let small : base_of request fallback cs ≤ 1 = base_of_small request fallback cs sounds.asked sounds.instead in
        let written : after ≡ over (explicit_levels (base_of request fallback cs) (X1 (base_of request fallback cs)) cs) levels = p.buffer ∙ rw s.0 in
        rw (written, kept_over cs (explicit_levels (base_of request fallback cs) (X1 (base_of request fallback cs)) cs) _ (length_levels (base_of request fallback cs) (X1 (base_of request fallback cs)) cs))
        (at_most_all highest_explicit (kept cs (explicit_levels (base_of request fallback cs) (X1 (base_of request fallback cs)) cs)) (kept_low (base_of request fallback cs) cs small))

  module _ (p : Leaves (levels_answer cs request fallback levels) (resolve_buffer cs request fallback levels) answer after) (a : answer ≡ accepted base) where
    resolved : (checks_of_levels cs request fallback (length levels) ≡ sound) × (base_of request fallback cs ≡ base)
    unfolding levels_answer
    resolved = accepted_sound (checks_of_levels cs request fallback (length levels)) (base_of request fallback cs) base (sym p.told ∙ a)

    low : base ≤ 1
    low =
        let sounds = levels_sound cs request fallback (length levels) resolved.0 in
        rw resolved.1 at (base_of_small request fallback cs sounds.asked sounds.instead)

    written : after ≡ over (resolved_levels base cs) levels
    unfolding resolve_buffer
    written = p.buffer ∙ rw (resolved.0, resolved.1)

    none_bad : first_bad_level 0 cs after ≡ sound
    none_bad = rw written (resolved_accepted base cs (drop (length (resolved_levels base cs)) levels) low)

    -- what Resolve writes on kept positions is at most the highest resolved level
    pub resolve_low : AtMost highest_resolved (kept cs after)
    resolve_low = kept_fit 0 cs after none_bad

    as_long : length after ≡ length levels
    as_long =
        let room : length cs ≤ length levels = (levels_sound cs request fallback (length levels) resolved.0).fits in
        ap length written ∙ length-append (resolved_levels base cs) (drop (length (resolved_levels base cs)) levels)
        ∙ omega (arith, length-drop (length (resolved_levels base cs)) levels, length_resolved base cs)

    -- lent Resolve's levels and base for the same classes, Order finds nothing wrong with either
    pub order_takes_resolved : checks_of_order cs after base ≡ sound
    unfolding checks_of_order check_base check_level_room
    order_takes_resolved =
        let s = levels_sound cs request fallback (length levels) resolved.0 in
        let room : length cs ≤ length after = omega (arith, s.fits, as_long) in
        rw (s.classes, le-ltb 1 base low, le-ltb (length after) (length cs) room, none_bad)

-- ---- so it can refuse only with the line's own numbers
refused_number : {A : Type 0} {m n p q : ℕ} → ◌≡◌ {A = Answer A} (refused m p) (refused n q) → m ≡ n
refused_number e = cc

two_tests : {A : Type 0} (b d : Bool) (m n : ℕ) (value : A) (number place : ℕ) → answered (refuse_where b m and_then refuse_where d n) value ≡ refused number place → (number ≡ m) ⊎ (number ≡ n)
two_tests true d m n value number place e = inl (sym (refused_number e))
two_tests false true m n value number place e = inr (sym (refused_number e))
two_tests false false m n value number place e = absurd (never_both e)

-- neither 5 nor 7: 8 or 9 for one line, 10 or 9 for all lines
pub line_refusals : (cs levels : List ℕ) (base from to : ℕ) (order : List ℕ) (number place : ℕ) → checks_of_order cs levels base ≡ sound → line_answer cs levels base from to order ≡ refused number place → (number ≡ 8) ⊎ (number ≡ 9)
unfolding line_answer checks_of_line check_line check_order_room
line_refusals cs levels base from to order number place s e =
    two_tests (leb to from || ltb (length cs) to) (ltb (length order) (to - from)) 8 9 _ number place (rw s at e)

pub lines_refusals : (cs levels : List ℕ) (base : ℕ) (ends order : List ℕ) (number place : ℕ) → checks_of_order cs levels base ≡ sound → lines_answer cs levels base ends order ≡ refused number place → (number ≡ 10) ⊎ (number ≡ 9)
unfolding lines_answer checks_of_lines check_ends check_order_room
lines_refusals cs levels base ends order number place s e =
    two_tests (is_empty ends || not (ends_rise_to 0 ends (length cs))) (ltb (length order) (length cs)) 10 9 _ number place (rw s at e)
