-- N1, N2, I1 and I2 of a long run in two passes: every type's own level first, then the stretches of neutrals. What holds at
-- the head of either loop, and its laws over plain lists: begun, past the types of no stretch, a stretch filled, done.
-- Assumes nothing.
use Prim.Native.Nat.{ℕ, zero, suc, ◌+◌, ◌-◌, ◌≤◌, ◌<◌}
use native.Mathlib.Omega.{arith}
use mathlib.Core.Bool.{Bool, true, false}
use mathlib.Core.Path.{◌≡◌, refl, sym, ap, ◌∙◌}
use mathlib.Core.List.{List, [], ◌∷◌, ◌++◌, map, append-nil}
use borrow.Rule.Slice.PartMut.{mid_of, put_mid, mid_len}
use lib.ListN.{length, get_or, take, drop, set, replicate, length-replicate, length-drop, drop_of_length-le}
use lib.Seq.{get_or-drop, drop-drop, take_all}
use Rattle.std.specs.Prelude.{if◌then◌else◌}
use Rattle.std.proofs.lemmas.List.{get_or-map, length-map, set-get_or}
use Rattle.std.proofs.lemmas.Slice.{drop-put_mid}
use Rattle.rules.specs.Classes.{ON, is_neutral}
use Rattle.rules.specs.Neutral.{N1, N2}
use Rattle.laws.specs.Parts.{over}
use Rattle.laws.specs.Stretches.{span}
use Rattle.laws.proofs.Filling.{Filled, filled_more, filled_all}
use Rattle.laws.proofs.Lists.{drop_next}
use Rattle.laws.proofs.Passes.{Spread, spread_begun, spread_over, spread_filled, spread_done, span_further, span_there, span_end, by_test}
use Rattle.neutral.specs.declared.Finals.{Finals}
use Rattle.neutral.specs.Finals.{final_level}
use Rattle.neutral.proofs.NeutralLaws.{N_same, N1_N2}
use Rattle.neutral.proofs.SpreadLaws.{change}

-- ---- every type's own level
pub own_next : (finals : Finals) (types : List ℕ) {before levels : List ℕ} {i v : ℕ} → i < length types → length types ≡ length before → v ≡ final_level finals (get_or types i 0) → Filled (map (final_level finals) types) before levels i (map (final_level finals) (drop i types)) → Filled (map (final_level finals) types) before (set levels i v) (i + 1) (map (final_level finals) (drop (i + 1) types))
own_next finals types {before} {levels} {i} {v} room same wrote now =
    filled_more (ap (map (final_level finals)) (drop_next types i room) ∙ ap (λ (x : ℕ). x ∷ map (final_level finals) (drop (i + 1) types)) (sym wrote)) (omega arith) now

pub own_ended : (finals : Finals) (types : List ℕ) {before levels : List ℕ} {i : ℕ} → i ≤ length types → length types ≤ i → length types ≡ length before → Filled (map (final_level finals) types) before levels i (map (final_level finals) (drop i types)) → levels ≡ map (final_level finals) types
own_ended finals types {before} {levels} {i} below past same now =
    let wrote : levels ≡ over (map (final_level finals) types) before = filled_all now (ap (map (final_level finals)) (drop_of_length-le types past)) (omega arith) in
    let behind : drop (length (map (final_level finals) types)) before ≡ [] = drop_of_length-le before (omega (arith, length-map types (final_level finals))) in
    wrote ∙ ap (λ (r : List ℕ). map (final_level finals) types ++ r) behind ∙ append-nil (map (final_level finals) types)

-- ---- the stretches
-- a type of no stretch
abbrev pub is_other : ℕ → Bool
is_other t = if is_neutral t then false else true

no_neutral : (t : ℕ) → is_other t ≡ true → is_neutral t ≡ false
no_neutral t other = by_test (is_neutral t) (λ holds. let never : false ≡ true = rw holds at other in let n : ◌≡◌ {A = ℕ} 0 1 = cc in absurd (omega arith)) (λ fails. fails)

-- of those that come first each passes
passes_within : (test : ℕ → Bool) (xs : List ℕ) (k : ℕ) → k < span test xs → test (get_or xs k 0) ≡ true
unfolding span
passes_within test [] k h = absurd (omega arith)
passes_within test (x ∷ xs) zero h = by_test (test x) (λ holds. holds) (λ fails. let none : 0 < 0 = rw fails at h in absurd (omega arith))
passes_within test (x ∷ xs) (suc k) h =
    by_test (test x)
    (λ holds. let more : suc k < suc (span test xs) = rw holds at h in passes_within test xs k (omega arith))
    (λ fails. let none : suc k < 0 = rw fails at h in absurd (omega arith))

-- up to `at` all is done, as in every such pass; from there on each type has its own level
pub record Stands (finals : Finals) (sor eor : ℕ) (types levels : List ℕ) (before at : ℕ) : Type 0 where
  pub written : Spread (final_level finals) is_neutral (change finals.own) eor sor types levels before at
  pub ahead : drop at levels ≡ drop at (map (final_level finals) types)

-- the level at a place ahead
own_level : (finals : Finals) (types levels : List ℕ) (i : ℕ) → i < length types → drop i levels ≡ drop i (map (final_level finals) types) → get_or levels i 0 ≡ final_level finals (get_or types i 0)
own_level finals types levels i room now =
    let here : i + 0 ≡ i = omega arith in
    ap (λ (n : ℕ). get_or levels n 0) (sym here) ∙ sym (get_or-drop i levels 0 0)
    ∙ ap (λ (l : List ℕ). get_or l 0 0) now
    ∙ get_or-drop i (map (final_level finals) types) 0 0
    ∙ ap (λ (n : ℕ). get_or (map (final_level finals) types) n 0) here
    ∙ get_or-map (final_level finals) types i 0 0 room

-- the type before a place, so many types of no stretch further on
abbrev before_past : List ℕ → ℕ → ℕ → ℕ → ℕ
before_past types before at zero = before
before_past types before at (suc k) = get_or types (at + k) 0

module _ {finals : Finals} {sor eor : ℕ} {types : List ℕ} where
  pub stands_begun : (levels : List ℕ) → levels ≡ map (final_level finals) types → Stands finals sor eor types levels sor 0
  stands_begun levels own = record { written = spread_begun sor types levels (ap length own ∙ length-map types (final_level finals)); ahead = own }

  -- past one type of no stretch: it stands at its own level, and is the one before what follows
  stands_past : (levels : List ℕ) (before i : ℕ) → i < length types → is_neutral (get_or types i 0) ≡ false → Stands finals sor eor types levels before i → Stands finals sor eor types levels (get_or types i 0) (i + 1)
  stands_past levels before i room other now =
      let stands : Spread (final_level finals) is_neutral (change finals.own) eor sor types (set levels i (get_or levels i 0)) (get_or types i 0) (i + 1) = spread_over now.written room other (own_level finals types levels i room now.ahead) in
      record {
        written = rw (set-get_or levels i 0) at stands;
        ahead = sym (drop-drop 1 i levels) ∙ ap (drop 1) now.ahead ∙ drop-drop 1 i (map (final_level finals) types);
      }

  -- past all that come first
  stands_passed : (levels : List ℕ) (before at k : ℕ) → at ≤ length types → k ≤ span is_other (drop at types) → Stands finals sor eor types levels before at → Stands finals sor eor types levels (before_past types before at k) (at + k)
  stands_passed levels before at zero within few now = let here : at + 0 ≡ at = omega arith in rw here now
  stands_passed levels before at (suc k) within few now =
      let ends : (at ≤ at + span is_other (drop at types)) × (at + span is_other (drop at types) ≤ length types) = span_end is_other types at (at + span is_other (drop at types)) within refl in
      let other : is_neutral (get_or types (at + k) 0) ≡ false = no_neutral (get_or types (at + k) 0) (rw (get_or-drop at types k 0) at (passes_within is_other (drop at types) k (omega arith))) in
      let next : at + k + 1 ≡ at + suc k = omega arith in
      rw next at (stands_past levels (before_past types before at k) (at + k) (omega arith) other (stands_passed levels before at k within (omega arith) now))

  module _ {levels : List ℕ} {before at from : ℕ} (now : Stands finals sor eor types levels before at) (led : from ≡ at + span is_other (drop at types)) where
    -- a stretch begins behind other types, or at once
    pub stretch_behind : at < from → Stands finals sor eor types levels (get_or types (from - 1) 0) from
    stretch_behind some =
        let to : at + suc (from - 1 - at) ≡ from = omega arith in
        let last : at + (from - 1 - at) ≡ from - 1 = omega arith in
        let passed : Stands finals sor eor types levels (get_or types (at + (from - 1 - at)) 0) (at + suc (from - 1 - at)) = stands_passed levels before at (suc (from - 1 - at)) now.written.within (omega arith) now in
        rw (to, last) at passed

    pub stretch_at_once : from ≤ at → Stands finals sor eor types levels before from
    stretch_at_once none = let here : at ≡ from = omega arith in rw here at now

  -- a stretch filled with the level of what both rules make of it; where there is none, nothing is
  module _ {levels ys : List ℕ} {before from end next new v : ℕ} (now : Stands finals sor eor types levels before from) (led : end ≡ from + span is_neutral (drop from types)) (is : next ≡ get_or types end eor) (made : new ≡ change finals.own before next ON) (wrote : v ≡ final_level finals new) (fill : ys ≡ replicate (length (mid_of from (end - from) levels)) v) where
    -- what is ahead of a place is ahead of any later one
    further : from ≤ end → drop end levels ≡ drop end (map (final_level finals) types)
    further h =
        let to : from + (end - from) ≡ end = omega arith in
        ap (λ (n : ℕ). drop n levels) (sym to) ∙ sym (drop-drop (end - from) from levels) ∙ ap (drop (end - from)) now.ahead
        ∙ drop-drop (end - from) from (map (final_level finals) types) ∙ ap (λ (n : ℕ). drop n (map (final_level finals) types)) to

    pub stretch_filled : Stands finals sor eor types (put_mid from (end - from) levels ys) before end
    stretch_filled =
        let ends : (from ≤ end) × (end ≤ length types) = span_end is_neutral types from end now.written.within led in
        let size : length ys ≡ end - from = ap length fill ∙ length-replicate (length (mid_of from (end - from) levels)) v ∙ mid_len from end levels (omega (arith, ends, now.written.long)) in
        record {
          written = spread_filled now.written led
              (λ t holds. N_same finals.own before (get_or types end eor) t holds ∙ ap (λ (n : ℕ). change finals.own before n ON) (sym is) ∙ sym made)
              wrote fill;
          ahead = drop-put_mid from (end - from) levels ys end (omega (arith, ends)) (omega (arith, ends, now.written.long)) size
              ∙ further ends.0;
        }

  pub stands_done : {levels : List ℕ} {before at : ℕ} → Stands finals sor eor types levels before at → length types ≤ at → levels ≡ map (final_level finals) (N2 finals.own (N1 sor eor types))
  stands_done now past = spread_done now.written past ∙ ap (map (final_level finals)) (sym (N1_N2 finals.own sor eor types))

-- how many come first from a place on: where they end, within the list
pub led_to : (test : ℕ → Bool) (ts : List ℕ) (at n : ℕ) → at ≤ length ts → n ≡ span test (take (length ts - at) (drop at ts)) → (at + n ≡ at + span test (drop at ts)) × (at + n ≤ length ts)
led_to test ts at n within is =
    let all : take (length ts - at) (drop at ts) ≡ drop at ts = take_all (length ts - at) (drop at ts) (omega (arith, length-drop at ts)) in
    let ends : at + n ≡ at + span test (drop at ts) = ap (λ (k : ℕ). at + k) (is ∙ ap (span test) all) in
    (ends, (span_end test ts at (at + n) within ends).1)

-- from one stretch to the next there is a step
pub stretch_goes_on : (types : List ℕ) (at from end : ℕ) → at < length types → from ≡ at + span is_other (drop at types) → end ≡ from + span is_neutral (drop from types) → at < end
stretch_goes_on types at from end room led ends =
    by_test (is_neutral (get_or types at 0))
    (λ holds. by_test (is_other (get_or types at 0))
    (λ other. let on : at + span is_other (drop at types) ≡ at + 1 + span is_other (drop (at + 1) types) = span_further is_other types at room other in omega arith)
    (λ none. let here : from ≡ at = led ∙ span_there is_other types at room none in
    let on : at + span is_neutral (drop at types) ≡ at + 1 + span is_neutral (drop (at + 1) types) = span_further is_neutral types at room holds in
    let ended : end ≡ at + span is_neutral (drop at types) = rw here at ends in omega arith))
    (λ fails. let other : is_other (get_or types at 0) ≡ true = rw fails in
    let on : at + span is_other (drop at types) ≡ at + 1 + span is_other (drop (at + 1) types) = span_further is_other types at room other in omega arith)
