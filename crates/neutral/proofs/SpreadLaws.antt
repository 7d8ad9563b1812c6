-- N1, N2, I1 and I2 as one pass from the types to the levels: what holds at the loop's head as a record, and its laws over
-- plain lists: begun, a neutral left for later, a stretch filled, over another type, done.
-- Assumes nothing.
use Prim.Native.Nat.{ℕ, ◌+◌, ◌-◌, ◌≤◌, ◌<◌}
use native.Mathlib.Omega.{arith}
use mathlib.Core.Bool.{true, false}
use mathlib.Core.Path.{◌≡◌, refl, sym, ap, ◌∙◌}
use mathlib.Core.List.{List, map}
use borrow.Rule.Slice.PartMut.{mid_of, put_mid}
use lib.ListN.{length, get_or, drop, set, replicate}
use Rattle.std.proofs.lemmas.List.{get_or_past}
use Rattle.rules.specs.Classes.{ON, is_neutral}
use Rattle.rules.specs.Neutral.{change_N1, change_N2, N1, N2}
use Rattle.laws.specs.Stretches.{span}
use Rattle.laws.proofs.Passes.{Spread, spread_begun, spread_over, spread_filled, spread_done, span_further, span_past}
use Rattle.neutral.specs.declared.Finals.{Finals}
use Rattle.neutral.specs.Finals.{final_level}
use Rattle.neutral.proofs.NeutralLaws.{N_same, N1_N2}

-- what both rules make of a type of a stretch
abbrev pub change : ℕ → ℕ → ℕ → ℕ → ℕ
change level before next t = change_N2 level (change_N1 before next t)

-- what is written up to `from`, as in every such pass; from there to i stand neutrals
pub record Waiting (finals : Finals) (sor eor : ℕ) (types levels : List ℕ) (before from i : ℕ) : Type 0 where
  pub order : from ≤ i
  pub below : i ≤ length types
  pub waits : i + span is_neutral (drop i types) ≡ from + span is_neutral (drop from types)
  pub written : Spread (final_level finals) is_neutral (change finals.own) eor sor types levels before from

module _ {finals : Finals} {sor eor : ℕ} {types : List ℕ} where
  pub waiting_begun : (levels : List ℕ) → length types ≡ length levels → Waiting finals sor eor types levels sor 0 0
  waiting_begun levels same = record { order = omega arith; below = omega arith; waits = refl; written = spread_begun sor types levels (sym same) }

  -- another type comes to its own level, and is the one before what follows
  pub waiting_over : {levels : List ℕ} {before i t v : ℕ} → Spread (final_level finals) is_neutral (change finals.own) eor sor types levels before i → i < length types → t ≡ get_or types i 0 → is_neutral t ≡ false → v ≡ final_level finals t → Waiting finals sor eor types (set levels i v) t (i + 1) (i + 1)
  waiting_over {levels} {before} {i} {t} {v} now room is other wrote =
      rw is (record { order = omega arith; below = omega arith; waits = refl; written = spread_over now room (rw is at other) (rw is at wrote) })

  module _ {levels : List ℕ} {before from i : ℕ} (now : Waiting finals sor eor types levels before from i) where
    -- a neutral waits for what stands behind its stretch
    pub waiting_next : i < length types → is_neutral (get_or types i 0) ≡ true → Waiting finals sor eor types levels before from (i + 1)
    waiting_next room holds =
        let on : i + 1 + span is_neutral (drop (i + 1) types) ≡ from + span is_neutral (drop from types) = sym (span_further is_neutral types i room holds) ∙ now.waits in
        record { order = omega (arith, now.order); below = omega arith; waits = on; written = now.written }

    -- a stretch that ends at i is filled with the level of what both rules make of it
    pub waiting_filled : {ys : List ℕ} {next new v : ℕ} → i + span is_neutral (drop i types) ≡ i → next ≡ get_or types i eor → new ≡ change finals.own before next ON → v ≡ final_level finals new → ys ≡ replicate (length (mid_of from (i - from) levels)) v → Spread (final_level finals) is_neutral (change finals.own) eor sor types (put_mid from (i - from) levels ys) before i
    waiting_filled {ys} {next} {new} {v} ends is made wrote fill =
        spread_filled now.written (sym ends ∙ now.waits)
        (λ t holds. N_same finals.own before (get_or types i eor) t holds ∙ ap (λ (n : ℕ). change finals.own before n ON) (sym is) ∙ sym made)
        wrote fill

    -- a stretch that ends with the run
    pub waiting_ended : {ys : List ℕ} {new v : ℕ} → length types ≤ i → new ≡ change finals.own before eor ON → v ≡ final_level finals new → ys ≡ replicate (length (mid_of from (length levels - from) levels)) v → put_mid from (length levels - from) levels ys ≡ map (final_level finals) (N2 finals.own (N1 sor eor types))
    waiting_ended {ys} {new} {v} past made wrote fill =
        let all : length levels ≡ i = omega (arith, now.written.long, now.below) in
        rw all (spread_done (waiting_filled (span_past is_neutral types i past) (sym (get_or_past types i eor past)) made wrote (rw all at fill)) past)
        ∙ ap (map (final_level finals)) (sym (N1_N2 finals.own sor eor types))

    -- or none is waiting at its end
    pub waiting_done : length types ≤ from → levels ≡ map (final_level finals) (N2 finals.own (N1 sor eor types))
    waiting_done past = spread_done now.written past ∙ ap (map (final_level finals)) (sym (N1_N2 finals.own sor eor types))
