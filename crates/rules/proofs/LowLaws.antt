-- How high the levels of a line are: what Order's checks let pass is at most the highest resolved level on every kept
-- position, and the line's reset puts nothing higher. Assumes nothing.
use Rattle.std.specs.Prelude.{if◌then◌else◌}
use Prim.Native.Nat.{ℕ, zero, suc, ◌*◌, ◌-◌, ◌≤◌}
use native.Mathlib.Nat.{mul-add}
use native.Mathlib.Omega.{arith}
use mathlib.Core.Path.{◌≡◌}
use mathlib.Core.Bool.{Bool, true, false, ◌||◌, ◌&&◌}
use mathlib.Core.List.{List, [], ◌∷◌}
use borrow.Author.Tests.{ltb-false}
use lib.Dec.{ltb}
use lib.ListN.{length, take, drop, length-append}
use Rattle.laws.specs.Parts.{part}
use Rattle.laws.proofs.Every.{Every, AtMost}
use Rattle.laws.proofs.Passes.{by_test}
use Rattle.rules.specs.Classes.{is_removed, is_separator, is_blank}
use Rattle.rules.specs.Explicit.{kept}
use Rattle.rules.specs.Line.{blank_ahead, reset_level, L1, items, levels_of, highest, line_levels, line_kept, line_order, all_orders}
use Rattle.rules.specs.Refusals.{highest_resolved, sound, refuse, is_bad_level, first_bad_level}
use Rattle.rules.specs.Reversals.{L2_reverses, line_reversed, all_reversed}
use Rattle.rules.proofs.LineLaws.{length_line_order}
use Rattle.rules.proofs.LowestLaws.{highest_most}
use Rattle.rules.proofs.ReversalLaws.{reverses_most}
use Rattle.rules.proofs.SoundLaws.{never_sound}

-- ---- the check of lent levels
level_fits : (c l : ℕ) → is_removed c ≡ false → is_bad_level c l ≡ false → l ≤ highest_resolved
unfolding is_bad_level
level_fits c l r e = let t : ltb highest_resolved l ≡ false = rw r at e in ltb-false highest_resolved l t

pub kept_fit : (at : ℕ) (cs ls : List ℕ) → first_bad_level at cs ls ≡ sound → AtMost highest_resolved (kept cs ls)
unfolding first_bad_level kept
kept_fit at [] ls e = tt
kept_fit at (c ∷ cs) [] e = tt
kept_fit at (c ∷ cs) (l ∷ ls) e =
    by_test (is_bad_level c l)
    (λ b. let z : refuse 7 at ≡ sound = rw b at e in absurd (never_sound z))
    (λ b. let next : first_bad_level (suc at) cs ls ≡ sound = rw b at e in
    by_test (is_removed c)
    (λ r. rw r (kept_fit (suc at) cs ls next))
    (λ r. rw r (level_fits c l r b, kept_fit (suc at) cs ls next)))

-- ---- levels of kept positions, in a part of a paragraph and after the reset
module _ (P : ℕ → Type 0) where
  -- what holds of a kept level and of those behind it; of a removed one nothing is known
  kept_first : (c l : ℕ) (cs ls : List ℕ) → (is_removed c ≡ false → P l) → Every P (kept cs ls) → Every P (kept (c ∷ cs) (l ∷ ls))
  unfolding kept
  kept_first c l cs ls here rest = by_test (is_removed c) (λ r. rw r rest) (λ r. rw r (here r, rest))

  kept_here : (c l : ℕ) (cs ls : List ℕ) → Every P (kept (c ∷ cs) (l ∷ ls)) → is_removed c ≡ false → P l
  unfolding kept
  kept_here c l cs ls all r = let both : Every P (l ∷ kept cs ls) = rw r at all in both.0

  kept_rest : (c l : ℕ) (cs ls : List ℕ) → Every P (kept (c ∷ cs) (l ∷ ls)) → Every P (kept cs ls)
  unfolding kept
  kept_rest c l cs ls all =
      by_test (is_removed c)
      (λ r. let rest : Every P (kept cs ls) = rw r at all in rest)
      (λ r. let both : Every P (l ∷ kept cs ls) = rw r at all in both.1)

  kept_drop : (n : ℕ) (cs ls : List ℕ) → Every P (kept cs ls) → Every P (kept (drop n cs) (drop n ls))
  unfolding kept
  kept_drop zero cs ls all = all
  kept_drop (suc n) [] ls all = tt
  kept_drop (suc n) (c ∷ cs) [] all = none n cs
    where
      none : (n : ℕ) (cs : List ℕ) → Every P (kept (drop n cs) [])
      none zero [] = tt
      none zero (c ∷ cs) = tt
      none (suc n) [] = tt
      none (suc n) (c ∷ cs) = none n cs
  kept_drop (suc n) (c ∷ cs) (l ∷ ls) all = kept_drop n cs ls (kept_rest c l cs ls all)

  kept_take : (n : ℕ) (cs ls : List ℕ) → Every P (kept cs ls) → Every P (kept (take n cs) (take n ls))
  unfolding kept
  kept_take zero cs ls all = tt
  kept_take (suc n) [] ls all = tt
  kept_take (suc n) (c ∷ cs) [] all = tt
  kept_take (suc n) (c ∷ cs) (l ∷ ls) all =
      kept_first c l (take n cs) (take n ls) (kept_here c l cs ls all) (kept_take n cs ls (kept_rest c l cs ls all))

  chosen : (b : Bool) (x y : ℕ) → P x → P y → P (if b then x else y)
  chosen true x y p q = p
  chosen false x y p q = q

  kept_L1 : (base : ℕ) (cs ls : List ℕ) → P base → Every P (kept cs ls) → Every P (kept cs (L1 base cs ls))
  unfolding L1 kept
  kept_L1 base [] ls low all = tt
  kept_L1 base (c ∷ cs) [] low all = tt
  kept_L1 base (c ∷ cs) (l ∷ ls) low all =
      kept_first c (reset_level base c l (blank_ahead cs)) cs (L1 base cs ls)
      (λ r. chosen (is_separator c || (is_blank c && blank_ahead cs)) base l low (kept_here c l cs ls all r))
      (kept_L1 base cs ls low (kept_rest c l cs ls all))

  kept_items : (at : ℕ) (cs ls : List ℕ) → Every P (kept cs ls) → Every P (levels_of (items at cs ls))
  unfolding items kept
  kept_items at [] ls all = tt
  kept_items at (c ∷ cs) [] all = tt
  kept_items at (c ∷ cs) (l ∷ ls) all =
      by_test (is_removed c)
      (λ r. rw r (kept_items (suc at) cs ls (kept_rest c l cs ls all)))
      (λ r. rw r (kept_here c l cs ls all r, kept_items (suc at) cs ls (kept_rest c l cs ls all)))

module _ (limit base : ℕ) (cs ls : List ℕ) (low : base ≤ limit) (fits : AtMost limit (kept cs ls)) where
  -- no level of a line is above the limit of the paragraph's
  pub line_low : (from to : ℕ) → highest (line_kept base cs ls from to) ≤ limit
  unfolding line_levels part
  line_low from to =
      highest_most limit (line_kept base cs ls from to)
      (kept_items _ from (part from to cs) (line_levels base cs ls from to)
      (kept_L1 _ base (part from to cs) (part from to ls) low (kept_take _ (to - from) (drop from cs) (drop from ls) (kept_drop _ from cs ls fits))))

  -- and so no more are reversed than the limit times the positions
  pub line_most : (from to : ℕ) → line_reversed base cs ls from to ≤ limit * length (line_order base cs ls from to)
  unfolding line_reversed
  line_most from to =
      let most : L2_reverses (line_kept base cs ls from to) ≤ limit * length (line_kept base cs ls from to) = reverses_most limit (line_kept base cs ls from to) (line_low from to) in
      rw (length_line_order base cs ls from to) most

  pub all_most : (from : ℕ) (ends : List ℕ) → all_reversed base cs ls from ends ≤ limit * length (all_orders base cs ls from ends)
  unfolding all_reversed all_orders
  all_most from [] = omega arith
  all_most from (to ∷ ends) =
      let here : line_reversed base cs ls from to ≤ limit * length (line_order base cs ls from to) = line_most from to in
      let rest : all_reversed base cs ls to ends ≤ limit * length (all_orders base cs ls to ends) = all_most to ends in
      rw (length-append (line_order base cs ls from to) (all_orders base cs ls to ends), mul-add limit (length (line_order base cs ls from to)) (length (all_orders base cs ls to ends))) (omega arith)
