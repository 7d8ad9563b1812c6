-- The laws of X10: how the end of a run is found, the direction of a boundary, and one run.
-- Assumes nothing.
use Prim.Native.Nat.{ℕ, suc, ◌+◌, ◌-◌, ◌≤◌, ◌<◌, max}
use native.Mathlib.Omega.{arith}
use mathlib.Core.Path.{◌≡◌, refl, sym, ap, ◌∙◌}
use mathlib.Core.Bool.{Bool, true}
use mathlib.Core.List.{List, [], ◌∷◌, map}
use borrow.Author.Tests.{eq-eqb, ne_eqb, eqb-true, eqb-false}
use lib.Dec.{eqb}
use lib.ListN.{length, get_or, drop}
use Rattle.rules.specs.Weak.{weak}
use Rattle.rules.specs.Neutral.{N1, N2, level_direction}
use Rattle.rules.specs.Implicit.{implicit_level}
use Rattle.rules.specs.Runs.{one_longer, run_lengths, boundary_type}
use Rattle.rules.specs.Resolve.{resolve_run}
use lib.Seq.{drop-drop}
use Rattle.laws.specs.Stretches.{span}
use Rattle.laws.proofs.Lists.{drop_next}
use Rattle.laws.proofs.Passes.{by_test, span_found, span_further}
use Rattle.runs.specs.RunEnd.{RunEnd}

-- the first run is as long as the first level lasts
abbrev pub same_as : ℕ → ℕ → Bool
same_as level l = eqb l level

runs_led : (l : ℕ) (ls : List ℕ) → run_lengths (l ∷ ls) ≡ suc (span (same_as l) ls) ∷ run_lengths (drop (span (same_as l) ls) ls)
unfolding run_lengths one_longer span
runs_led l [] = refl
runs_led l (m ∷ ms) =
    by_test (eqb m l)
    (λ same.
    let is : m ≡ l = eqb-true m l same in
    rw (same, eq-eqb l m (sym is), runs_led m ms, is))
    (λ other. rw (other, ne_eqb l m (λ e. eqb-false m l other (sym e))))

pub run_led : (ls : List ℕ) (from end : ℕ) → from < length ls → end ≡ from + span (same_as (get_or ls from 0)) (drop from ls) → RunEnd ls from end
run_led ls from end inside is =
    let level : ℕ = get_or ls from 0 in
    let size : ℕ = span (same_as level) (drop (from + 1) ls) in
    let here : same_as level level ≡ true = eq-eqb level level refl in
    let found : (from < end) × (end ≤ length ls) = span_found (same_as level) ls from end inside here is in
    let far : end ≡ from + 1 + size = is ∙ span_further (same_as level) ls from inside here in
    let long : end - from ≡ suc size = omega arith in
    record {
      later = found.0;
      within = found.1;
      lengths =
          ap run_lengths (drop_next ls from inside)
          ∙ runs_led level (drop (from + 1) ls)
          ∙ ap (λ (xs : List ℕ). suc size ∷ run_lengths xs) (drop-drop size (from + 1) ls)
          ∙ rw (long, far);
    }

-- ---- a boundary's direction
pub boundary_is : (l m : ℕ) → level_direction (max l m) ≡ boundary_type l m
unfolding level_direction boundary_type
boundary_is l m = refl

-- ---- one run: W, then N with I, on what W left
pub run_in_turn : (level sor eor : ℕ) (ts : List ℕ) {weaks out : List ℕ} → weaks ≡ weak sor eor ts → out ≡ map (implicit_level level) (N2 level (N1 sor eor weaks)) → out ≡ resolve_run level sor eor ts
unfolding resolve_run
run_in_turn level sor eor ts first second = second ∙ ap (λ (r : List ℕ). map (implicit_level level) (N2 level (N1 sor eor r))) first
