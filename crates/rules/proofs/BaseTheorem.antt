-- What Base answers is what Explicit and Resolve use by text, and the default where it finds none. Assumes nothing.
use Rattle.std.specs.Prelude.{if◌then◌else◌}
use Prim.Native.Nat.{ℕ, ◌≤◌}
use native.Mathlib.Omega.{arith}
use mathlib.Core.Path.{◌≡◌, refl, sym, ap, ◌∙◌}
use mathlib.Core.Bool.{Bool, true, false, ◌||◌}
use Rattle.std.specs.Prelude.{Option, None, Some}
use mathlib.Core.List.{List, [], ◌∷◌, map}
use borrow.Author.Tests.{eqb-false}
use lib.Dec.{eqb}
use lib.ListN.{length}
use Rattle.laws.proofs.Passes.{by_test}
use Rattle.rules.specs.Classes.{L, R, AL, LRE, EN, WS, B, is_strong}
use Rattle.rules.specs.Paragraph.{P2, P3, base_by_text, or_else, base_of}
use Rattle.rules.specs.Refusals.{checks_of_base, checks_of_levels}
use Rattle.rules.specs.Jobs.{accepted, base_answer, levels_answer}
use Rattle.rules.specs.Table.{by_text}
use Rattle.rules.proofs.JobLaws.{accepted_sound}

module _ (cs levels : List ℕ) (fallback used : ℕ) (l : levels_answer cs by_text fallback levels ≡ accepted used) where
  used_is : (found : Option ℕ) → base_answer cs ≡ accepted found → or_else found fallback ≡ used
  unfolding base_answer levels_answer base_of
  used_is found b =
      let by-text : base_by_text cs ≡ found = (accepted_sound (checks_of_base cs) (base_by_text cs) found b).1 in
      let taken : or_else (base_by_text cs) fallback ≡ used = (accepted_sound (checks_of_levels cs by_text fallback (length levels)) _ used l).1 in
      ap (λ (o : Option ℕ). or_else o fallback) (sym by-text) ∙ taken

  pub base_used : (level : ℕ) → base_answer cs ≡ accepted (Some level) → level ≡ used
  base_used level b = used_is (Some level) b

  pub default_used : base_answer cs ≡ accepted None → fallback ≡ used
  default_used b = used_is None b

-- ---- a base is 0 or 1
at_most_one : (b : Bool) → (if b then 1 else 0) ≤ 1
at_most_one true = omega arith
at_most_one false = omega arith

P3_small : (found : Option ℕ) (fallback : ℕ) → fallback ≤ 1 → or_else (P3 found) fallback ≤ 1
unfolding P3
P3_small None fallback h = h
P3_small (Some c) fallback h = at_most_one (eqb c R || eqb c AL)

-- with a request and a default that are not refused
pub base_of_small : (request fallback : ℕ) (cs : List ℕ) → request ≤ 2 → fallback ≤ 1 → base_of request fallback cs ≤ 1
unfolding base_of base_by_text
base_of_small request fallback cs h g =
    by_test (eqb request 2)
    (λ e. rw e (P3_small (P2 cs) fallback g))
    (λ e. let ne : (request ≡ 2 → ⊥) = eqb-false request 2 e in rw e (omega (arith, ne)))

-- and of what Base finds, so that no level is taken for the number that stands for none
pub base_low : (cs : List ℕ) (level : ℕ) → base_answer cs ≡ accepted (Some level) → level ≤ 1
unfolding base_answer base_by_text
base_low cs level e =
    let is : P3 (P2 cs) ≡ Some level = (accepted_sound (checks_of_base cs) (P3 (P2 cs)) (Some level) e).1 in
    rw is at (P3_small (P2 cs) 0 (omega arith))

-- worked: what the text decides, and the base with request 2 and default 1
abbrev pub texts : List (List ℕ)
texts = (EN ∷ []) ∷ (LRE ∷ WS ∷ B ∷ []) ∷ (EN ∷ L ∷ R ∷ []) ∷ (EN ∷ AL ∷ L ∷ []) ∷ []

pub texts_decide : map base_by_text texts ≡ None ∷ None ∷ Some 0 ∷ Some 1 ∷ []
unfolding base_by_text P2 P3 is_strong
texts_decide = refl

pub bases_hold : map (base_of by_text 1) texts ≡ 1 ∷ 1 ∷ 0 ∷ 1 ∷ []
unfolding base_of base_by_text P2 P3 is_strong
bases_hold = refl
