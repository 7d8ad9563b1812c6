-- The two returns of a job that is lent a buffer: what it was refused with leaves the buffer alone, and what it wrote is
-- what was to be written. Assumes nothing.
use Rattle.std.specs.Prelude.{Result, Err, IsErrAnd}
use Rattle.std.proofs.lemmas.Result.{err_from_is_err_and}
use Prim.Native.Nat.{ℕ, ◌≤◌}
use mathlib.Core.Path.{◌≡◌, sym, ap, ◌∙◌}
use mathlib.Core.List.{List}
use lib.ListN.{length}
use Rattle.laws.specs.Parts.{over}
use Rattle.rules.specs.Paragraph.{base_of}
use Rattle.rules.specs.Refusals.{longest_paragraph, Check, sound, refuse, checks_of_levels}
use Rattle.rules.specs.Jobs.{accepted, refused, answered, where_sound, levels_answer}
use Rattle.rules.proofs.SoundLaws.{levels_sound}
use Rattle.rules.proofs.BaseTheorem.{base_of_small}
use Rattle.rules.proofs.JobLaws.{answer_refused, answer_sound, left_refused, left_sound}
use Rattle.refusals.specs.Page.{number_of, place_of}
use Rattle.refusals.specs.declared.Refusal.{Refusal}
use Rattle.melvorash.specs.Answers.{levels_page, Leaves}

pub leaves_refused : {A : Type 0} (check : Check) (number place : ℕ) (value : A) (written buffer : List ℕ) → check ≡ refuse number place → Leaves (answered check value) (where_sound check written buffer) (refused number place) buffer
leaves_refused check number place value written buffer e = record { told = answer_refused value e; buffer = left_refused written buffer e }

pub leaves_written : {A : Type 0} (check : Check) (value wanted : A) (written buffer after : List ℕ) → check ≡ sound → value ≡ wanted → after ≡ written → Leaves (answered check wanted) (where_sound check written buffer) (accepted value) after
leaves_written check value wanted written buffer after e v w = record { told = answer_sound e v; buffer = left_sound buffer e w }

-- Explicit and Resolve: levels by the base that is used
module _ (levels_by : ℕ → List ℕ) (cs : List ℕ) (request fallback : ℕ) (levels : List ℕ) where
  pub levels_refused : (number place : ℕ) → checks_of_levels cs request fallback (length levels) ≡ refuse number place → Leaves (levels_answer cs request fallback levels) (where_sound (checks_of_levels cs request fallback (length levels)) (over (levels_by (base_of request fallback cs)) levels) levels) (refused number place) levels
  unfolding levels_answer
  levels_refused number place e =
      leaves_refused (checks_of_levels cs request fallback (length levels)) number place (base_of request fallback cs) (over (levels_by (base_of request fallback cs)) levels) levels e

  -- what `?` handed on
  pub levels_handed : (found : Result ℕ Refusal) (r : Refusal) → IsErrAnd found (λ (e : Refusal). e ≡ r) → refuse (number_of r) (place_of r) ≡ checks_of_levels cs request fallback (length levels) → Leaves (levels_answer cs request fallback levels) (where_sound (checks_of_levels cs request fallback (length levels)) (over (levels_by (base_of request fallback cs)) levels) levels) (levels_page found) levels
  levels_handed found r is e =
      let told : (y : Refusal) × (found ≡ Err y) × (y ≡ r) = err_from_is_err_and found is in
      rw (told.1, told.2) (levels_refused (number_of r) (place_of r) (sym e))

  pub levels_written : (base : ℕ) (after : List ℕ) → checks_of_levels cs request fallback (length levels) ≡ sound → base ≡ base_of request fallback cs → after ≡ over (levels_by base) levels → Leaves (levels_answer cs request fallback levels) (where_sound (checks_of_levels cs request fallback (length levels)) (over (levels_by (base_of request fallback cs)) levels) levels) (accepted base) after
  unfolding levels_answer
  levels_written base after e used wrote =
      leaves_written (checks_of_levels cs request fallback (length levels)) base (base_of request fallback cs) (over (levels_by (base_of request fallback cs)) levels) levels after e used
      (wrote ∙ ap (λ (b : ℕ). over (levels_by b) levels) used)

-- Resolve: what its checks give the work. They stand in the function's `using`, so its goals close with no step named, and an
-- edit that puts a call between is refused by the goal itself.
module _ (cs : List ℕ) (request fallback : ℕ) (levels : List ℕ) where
  pub resolve_base_low : (base : ℕ) → sound ≡ checks_of_levels cs request fallback (length levels) → base ≡ base_of request fallback cs → base ≤ 1
  resolve_base_low base e used =
      let s = levels_sound cs request fallback (length levels) (sym e) in
      rw used (base_of_small request fallback cs s.asked s.instead)

  pub resolve_fits : sound ≡ checks_of_levels cs request fallback (length levels) → length cs ≤ length levels
  resolve_fits e = (levels_sound cs request fallback (length levels) (sym e)).fits

  pub resolve_few : sound ≡ checks_of_levels cs request fallback (length levels) → length cs ≤ longest_paragraph
  resolve_few e = (levels_sound cs request fallback (length levels) (sym e)).few

pub ruleset resolve_laws = (resolve_base_low, resolve_fits, resolve_few)
