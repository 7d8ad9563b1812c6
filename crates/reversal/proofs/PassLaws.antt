-- One pass, stretch by stretch: what is below the level, the stretch behind it turned round, and the pass over what is left.
-- Assumes nothing.
use Rattle.std.specs.Prelude.{if◌then◌else◌}
use Prim.Native.Nat.{ℕ, zero, suc, ◌+◌, ◌-◌, ◌≤◌, ◌<◌}
use native.Mathlib.Omega.{arith}
use mathlib.Core.Path.{◌≡◌, refl, sym, ap, ◌∙◌}
use mathlib.Core.Bool.{Bool, true, false}
use mathlib.Core.List.{List, [], ◌∷◌, ◌++◌, reverse, reverse_aux}
use lib.Dec.{leb, ltb}
use borrow.Author.Tests.{le-leb, lt-leb, ltb-true, ltb-false}
use lib.ListN.{length, get_or, take, drop, length-drop, length-reverse, drop_of_length-le, take-append-drop}
use lib.Seq.{drop-drop, length-take-le}
use borrow.Rule.Slice.PartMut.{put_mid, same_len_mid, Post-is}
use Rattle.std.proofs.lemmas.Slice.{take-put_mid, drop-put_mid}
use Rattle.laws.proofs.Lists.{drop_next}
use Rattle.laws.specs.Stretches.{span}
use Rattle.laws.proofs.Passes.{span_end}
use Rattle.reversal.specs.Passes.{below, pass_by, passes_by}
use Rattle.laws.proofs.Filling.{Filled, filled_stays, filled_part}
use Rattle.reversal.proofs.TurnLaws.{turned}

-- the first stretch joins the one under way, and the pass goes on where it ends
stretch_if : (b : Bool) (level l p : ℕ) (stretch ls ps : List ℕ) (s : ℕ) → leb level l ≡ b → pass_by level (p ∷ stretch) ls ps ≡ reverse_aux (take s ps) (p ∷ stretch) ++ pass_by level [] (drop s ls) (drop s ps) → (if b then pass_by level (p ∷ stretch) ls ps else stretch ++ (p ∷ pass_by level [] ls ps)) ≡ reverse_aux (take (if b then suc s else 0) (p ∷ ps)) stretch ++ pass_by level [] (drop (if b then suc s else 0) (l ∷ ls)) (drop (if b then suc s else 0) (p ∷ ps))
unfolding pass_by
stretch_if true level l p stretch ls ps s e ih = ih
stretch_if false level l p stretch ls ps s e ih = simp e

first_stretch : (level : ℕ) (stretch ls ps : List ℕ) → length ls ≤ length ps → pass_by level stretch ls ps ≡ reverse_aux (take (span (leb level) ls) ps) stretch ++ pass_by level [] (drop (span (leb level) ls) ls) (drop (span (leb level) ls) ps)
unfolding pass_by span
first_stretch level stretch [] ps h = refl
first_stretch level stretch (l ∷ ls) [] h = absurd (omega arith)
first_stretch level stretch (l ∷ ls) (p ∷ ps) h =
    stretch_if (leb level l) level l p stretch ls ps (span (leb level) ls) refl (first_stretch level (p ∷ stretch) ls ps (omega arith))

-- what is below the level stays, and the pass goes on behind it
skip_if : (b : Bool) (level l p : ℕ) (ls ps : List ℕ) (n : ℕ) → ltb l level ≡ b → pass_by level [] ls ps ≡ take n ps ++ pass_by level [] (drop n ls) (drop n ps) → pass_by level [] (l ∷ ls) (p ∷ ps) ≡ take (if b then suc n else 0) (p ∷ ps) ++ pass_by level [] (drop (if b then suc n else 0) (l ∷ ls)) (drop (if b then suc n else 0) (p ∷ ps))
unfolding pass_by
skip_if true level l p ls ps n e ih =
    let stays : leb level l ≡ false = lt-leb level l (ltb-true l level e) in
    let here : pass_by level [] (l ∷ ls) (p ∷ ps) ≡ p ∷ pass_by level [] ls ps = simp stays in
    here ∙ ap (λ (r : List ℕ). p ∷ r) ih
skip_if false level l p ls ps n e ih = refl

skipped : (level : ℕ) (ls ps : List ℕ) → length ls ≤ length ps → pass_by level [] ls ps ≡ take (span (below level) ls) ps ++ pass_by level [] (drop (span (below level) ls) ls) (drop (span (below level) ls) ps)
unfolding span
skipped level [] ps h = refl
skipped level (l ∷ ls) [] h = absurd (omega arith)
skipped level (l ∷ ls) (p ∷ ps) h = skip_if (ltb l level) level l p ls ps (span (below level) ls) refl (skipped level ls ps (omega arith))

-- a place is below the level or begins a stretch
further_if : (b : Bool) (level l : ℕ) (ls : List ℕ) (n : ℕ) → ltb l level ≡ b → 0 < (if b then suc n else 0) + span (leb level) (drop (if b then suc n else 0) (l ∷ ls))
unfolding span
further_if true level l ls n e = omega arith
further_if false level l ls n e = let holds : leb level l ≡ true = le-leb level l (ltb-false l level e) in simp holds (omega arith)

further : (level l : ℕ) (ls : List ℕ) → 0 < span (below level) (l ∷ ls) + span (leb level) (drop (span (below level) (l ∷ ls)) (l ∷ ls))
unfolding span
further level l ls = further_if (ltb l level) level l ls (span (below level) ls) refl

-- where a stretch begins and ends that is looked for from i on: within the levels, and its end behind i
module _ (level : ℕ) (ls : List ℕ) (i s : ℕ) (h : i < length ls) (begins : s ≡ i + span (below level) (drop i ls)) where
  pub starts : s ≤ length ls
  starts = (span_end (below level) ls i s (omega arith) begins).1

  pub ends : (e : ℕ) → e ≡ s + span (leb level) (drop s ls) → e ≤ length ls
  ends e is = (span_end (leb level) ls s e starts is).1

  pub goes_on : (e : ℕ) → e ≡ s + span (leb level) (drop s ls) → i < e
  goes_on e is =
      let n : ℕ = span (below level) (drop i ls) in
      let f : 0 < n + span (leb level) (drop n (drop i ls)) = rw (drop_next ls i h) (further level (get_or ls i 0) (drop (i + 1) ls)) in
      let there : drop s ls ≡ drop n (drop i ls) = ap (λ (k : ℕ). drop k ls) begins ∙ sym (drop-drop n i ls) in
      omega (arith, begins, is ∙ ap (λ (l : List ℕ). s + span (leb level) l) there)

pub ruleset bounds = (starts, ends, goes_on)

-- what is still to come of a pass from place i on
abbrev pub pass_from : ℕ → List ℕ → List ℕ → ℕ → List ℕ
pass_from level ls ps i = pass_by level [] (drop i ls) (drop i ps)

module _ (level : ℕ) (ls order₀ : List ℕ) (room : length ls ≤ length order₀) where
  fits : (i : ℕ) → length (drop i ls) ≤ length (drop i order₀)
  fits i = simp length-drop (omega arith)

  passed_on : (i n : ℕ) → pass_by level [] (drop n (drop i ls)) (drop n (drop i order₀)) ≡ pass_from level ls order₀ (i + n)
  passed_on i n = λ j. pass_by level [] (drop-drop n i ls j) (drop-drop n i order₀ j)

  -- the places before the stretch stay
  at_start : (order : List ℕ) (i n : ℕ) → n ≡ span (below level) (drop i ls) → Filled (pass_by level [] ls order₀) order₀ order i (pass_from level ls order₀ i) → Filled (pass_by level [] ls order₀) order₀ order (i + n) (pass_from level ls order₀ (i + n))
  at_start order i n is f =
      let parts : pass_from level ls order₀ i ≡ take n (drop i order₀) ++ pass_from level ls order₀ (i + n) =
      rw is (skipped level (drop i ls) (drop i order₀) (fits i) ∙ ap (λ (r : List ℕ). take (span (below level) (drop i ls)) (drop i order₀) ++ r) (passed_on i (span (below level) (drop i ls)))) in
      filled_stays _ order₀ order i n _ (rw parts at f)

  -- and those of the stretch are turned round
  stretch_turned : (order : List ℕ) (s m : ℕ) → s + m ≤ length ls → m ≡ span (leb level) (drop s ls) → Filled (pass_by level [] ls order₀) order₀ order s (pass_from level ls order₀ s) → Filled (pass_by level [] ls order₀) order₀ (put_mid s m order (reverse (take m (drop s order)))) (s + m) (pass_from level ls order₀ (s + m))
  stretch_turned order s m h is f =
      let same : length order ≡ length order₀ = f.long in
      let long : length (reverse (take m (drop s order))) ≡ m = length-reverse (take m (drop s order)) ∙ length-take-le m (drop s order) (simp length-drop (omega arith)) in
      let parts : pass_from level ls order₀ s ≡ reverse (take m (drop s order)) ++ pass_from level ls order₀ (s + m) =
      rw (f.beyond, is) (first_stretch level [] (drop s ls) (drop s order₀) (fits s) ∙ ap (λ (r : List ℕ). reverse (take (span (leb level) (drop s ls)) (drop s order₀)) ++ r) (passed_on s (span (leb level) (drop s ls)))) in
      filled_part _ order₀ order s _ (reverse (take m (drop s order))) _ (s + m) (same_len_mid s m order _ (length-reverse (take m (drop s order))))
      (take-put_mid s m order _ (s + m) (omega arith) (omega arith)) (drop-put_mid s m order _ (s + m) (omega arith) (omega arith) long) (omega arith) (rw parts at f)

  pub next : (order : List ℕ) (i s e : ℕ) → i < length ls → s ≡ i + span (below level) (drop i ls) → e ≡ s + span (leb level) (drop s ls) → Filled (pass_by level [] ls order₀) order₀ order i (pass_from level ls order₀ i) → Filled (pass_by level [] ls order₀) order₀ (turned s e order) e (pass_from level ls order₀ e)
  next order i s e h begins is f =
      let size : e - s ≡ span (leb level) (drop s ls) = omega arith in
      let there : s + (e - s) ≡ e = omega arith in
      let in_bounds : e ≤ length ls = ends level ls i s h begins e is in
      rw (Post-is s e order (omega arith)) at
      (rw there at (stretch_turned order s (e - s) (omega arith) size (rw (sym begins) at (at_start order i (span (below level) (drop i ls)) refl f))))

  pub ended : (order : List ℕ) (i : ℕ) → length ls ≤ i → Filled (pass_by level [] ls order₀) order₀ order i (pass_from level ls order₀ i) → order ≡ pass_by level [] ls order₀
  unfolding pass_by
  ended order i h f =
      sym (take-append-drop i order) ∙ ap (λ (l : List ℕ). take i order ++ l) f.beyond
      ∙ ap (λ (l : List ℕ). take i order ++ pass_by level [] l (drop i order₀)) (sym (drop_of_length-le ls h)) ∙ f.written

-- no pass at level 0, none below the lowest, and else one pass and those from the level one lower
module _ (lowest : ℕ) (ls ps : List ℕ) where
  pub none_at_zero : (level : ℕ) → level ≡ 0 → ps ≡ passes_by level lowest ls ps
  unfolding passes_by
  none_at_zero level e = ap (λ (n : ℕ). passes_by n lowest ls ps) (sym e)

  pub none_below : (level : ℕ) → level < lowest → ps ≡ passes_by level lowest ls ps
  unfolding passes_by
  none_below zero h = refl
  none_below (suc level) h = simp (lt-leb lowest (suc level) h)

  passes_suc : (level : ℕ) → lowest ≤ suc level → passes_by (suc level) lowest ls ps ≡ passes_by level lowest ls (pass_by (suc level) [] ls ps)
  unfolding passes_by
  passes_suc level h = simp (le-leb lowest (suc level) h)

  pub one_then_lower : (level : ℕ) (ps' ps'' : List ℕ) → (level ≡ 0 → ⊥) → lowest ≤ level → ps' ≡ pass_by level [] ls ps → ps'' ≡ passes_by (level - 1) lowest ls ps' → ps'' ≡ passes_by level lowest ls ps
  one_then_lower zero ps' ps'' n h e f = absurd (n refl)
  one_then_lower (suc level) ps' ps'' n h e f =
      let down : suc level - 1 ≡ level = omega arith in
      f ∙ (λ j. passes_by (down j) lowest ls (e j)) ∙ sym (passes_suc level h)

pub ruleset from_level_on = (none_at_zero, none_below, one_then_lower)
