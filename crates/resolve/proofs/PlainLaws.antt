-- A paragraph with nothing removed is one run at its base level: its types are its classes, and each position has its
-- own place among the kept ones. Assumes nothing.
use Prim.Native.Nat.{ℕ, zero, suc}
use native.Mathlib.Omega.{arith}
use mathlib.Core.Path.{◌≡◌, refl, sym, ap, ap₂, ◌∙◌}
use mathlib.Core.Bool.{false}
use mathlib.Core.List.{List, [], ◌∷◌, ◌++◌, append-nil}
use borrow.Author.Tests.{eq-eqb}
use lib.ListN.{length, take, drop, replicate, length-replicate, drop_of_length-le}
use lib.Seq.{take_all, take_at}
use Rattle.rules.specs.Classes.{is_removed, is_paragraph_end}
use Rattle.rules.specs.Explicit.{X1, X6_level, X6_type, level_here, type_here, explicit_levels, explicit_types, kept, put_back}
use Rattle.rules.specs.Runs.{one_longer, run_lengths, boundary_type}
use Rattle.rules.specs.Resolve.{resolve_run, resolve_runs, resolve_kept, resolved_levels}
use Rattle.laws.specs.Parts.{over}
use Rattle.laws.specs.Any.{any_of}
use Rattle.laws.proofs.Any.{none_first}
use Rattle.laws.proofs.Passes.{by_test}
use Rattle.laws.specs.Stretches.{stretches}
use Rattle.rules.specs.Weak.{W1, W2, W3, W4, W5, W6, W7, weak}
use Rattle.rules.specs.Neutral.{N1, N2}
use Rattle.explicit.proofs.WalkLaws.{kept_stays}
use Rattle.resolve.proofs.BoundLaws.{length_run}
use Rattle.resolve.proofs.WholeLaws.{length_resolved}

-- ---- the phase of explicit levels stays in its first state
level_plain : (base c : ℕ) → is_removed c ≡ false → level_here base (X1 base) c ≡ base
unfolding level_here X1 X6_level
level_plain base c stays = rw stays (by_test (is_paragraph_end c) (λ e. rw e) (λ e. rw e))

type_plain : (base c : ℕ) → type_here (X1 base) c ≡ c
unfolding type_here X1 X6_type
type_plain base c = by_test (is_paragraph_end c) (λ e. rw e) (λ e. rw e)

levels_plain : (base : ℕ) (cs : List ℕ) → any_of is_removed cs ≡ false → explicit_levels base (X1 base) cs ≡ replicate (length cs) base
unfolding explicit_levels
levels_plain base [] none = refl
levels_plain base (c ∷ cs) none =
    let all = none_first is_removed c cs none in
    ap₂ (λ (l : ℕ) (ls : List ℕ). l ∷ ls) (level_plain base c all.0) (ap (λ s. explicit_levels base s cs) (sym (kept_stays (X1 base) c all.0)) ∙ levels_plain base cs all.1)

types_plain : (base : ℕ) (cs : List ℕ) → any_of is_removed cs ≡ false → explicit_types (X1 base) cs ≡ cs
unfolding explicit_types
types_plain base [] none = refl
types_plain base (c ∷ cs) none =
    let all = none_first is_removed c cs none in
    ap₂ (λ (t : ℕ) (ts : List ℕ). t ∷ ts) (type_plain base c) (ap (λ s. explicit_types s cs) (sym (kept_stays (X1 base) c all.0)) ∙ types_plain base cs all.1)

-- ---- every position is kept, and has its place already
kept_plain : (cs xs : List ℕ) → any_of is_removed cs ≡ false → length xs ≡ length cs → kept cs xs ≡ xs
unfolding kept
kept_plain [] [] none e = refl
kept_plain [] (x ∷ xs) none e = absurd (omega arith)
kept_plain (c ∷ cs) [] none e = absurd (omega arith)
kept_plain (c ∷ cs) (x ∷ xs) none e =
    let all = none_first is_removed c cs none in
    rw all.0 (ap (λ (r : List ℕ). x ∷ r) (kept_plain cs xs all.1 (omega arith)))

back_plain : (cs xs : List ℕ) → any_of is_removed cs ≡ false → length xs ≡ length cs → put_back cs xs ≡ xs
unfolding put_back
back_plain [] [] none e = refl
back_plain [] (x ∷ xs) none e = absurd (omega arith)
back_plain (c ∷ cs) [] none e = absurd (omega arith)
back_plain (c ∷ cs) (x ∷ xs) none e =
    let all = none_first is_removed c cs none in
    rw all.0 (ap (λ (r : List ℕ). x ∷ r) (back_plain cs xs all.1 (omega arith)))

-- ---- one run
lengths_plain : (n l : ℕ) → run_lengths (replicate (suc n) l) ≡ suc n ∷ []
unfolding run_lengths one_longer
lengths_plain zero l = refl
lengths_plain (suc n) l = rw (eq-eqb l l refl) (ap one_longer (lengths_plain n l))

lengths_none : run_lengths [] ≡ []
unfolding run_lengths
lengths_none = refl

run_of_none : (level sor eor : ℕ) → resolve_run level sor eor [] ≡ []
unfolding resolve_run weak W1 W2 W3 W4 W5 W6 W7 N1 N2 stretches
run_of_none level sor eor = refl

kept_is_run : (base : ℕ) (ts : List ℕ) → resolve_kept base (replicate (length ts) base) ts ≡ resolve_run base (boundary_type base base) (boundary_type base base) ts
unfolding resolve_kept resolve_runs
kept_is_run base [] = rw lengths_none (sym (run_of_none base (boundary_type base base) (boundary_type base base)))
kept_is_run base (t ∷ ts) =
    let n = length ts in
    let levels = replicate (suc n) base in
    let none : drop (suc n) levels ≡ [] = drop_of_length-le levels {i = suc n} (omega (arith, length-replicate (suc n) base)) in
    rw (lengths_plain n base, none, take_all (suc n) (t ∷ ts) (omega arith)) (append-nil _)

pub plain_is_run : (base : ℕ) (cs : List ℕ) → any_of is_removed cs ≡ false → resolved_levels base cs ≡ resolve_run base (boundary_type base base) (boundary_type base base) cs
unfolding resolved_levels
plain_is_run base cs none =
    let levels : kept cs (explicit_levels base (X1 base) cs) ≡ replicate (length cs) base = ap (kept cs) (levels_plain base cs none) ∙ kept_plain cs (replicate (length cs) base) none (length-replicate (length cs) base) in
    let types : kept cs (explicit_types (X1 base) cs) ≡ cs = ap (kept cs) (types_plain base cs none) ∙ kept_plain cs cs none refl in
    let run : resolve_kept base (kept cs (explicit_levels base (X1 base) cs)) (kept cs (explicit_types (X1 base) cs)) ≡ resolve_run base (boundary_type base base) (boundary_type base base) cs = ap₂ (resolve_kept base) levels types ∙ kept_is_run base cs in
    ap (put_back cs) run ∙ back_plain cs (resolve_run base (boundary_type base base) (boundary_type base base) cs) none (length_run base (boundary_type base base) (boundary_type base base) cs)

-- the levels of the run, in place of the first ones of a buffer
pub plain_whole : (base : ℕ) {side : ℕ} (cs ls ts₀ : List ℕ) {ts out : List ℕ} → any_of is_removed cs ≡ false → side ≡ boundary_type base base → ts ≡ over cs ts₀ → out ≡ resolve_run base side side (take (length cs) ts) → out ++ drop (length cs) ls ≡ over (resolved_levels base cs) ls
plain_whole base {side} cs ls ts₀ {ts} {out} none s types run =
    let front : take (length cs) ts ≡ cs = ap (take (length cs)) types ∙ take_at cs (drop (length cs) ts₀) (length cs) refl in
    let is : out ≡ resolved_levels base cs = run ∙ rw (s, front) (sym (plain_is_run base cs none)) in
    ap (λ (r : List ℕ). r ++ drop (length cs) ls) is
    ∙ ap (λ (n : ℕ). resolved_levels base cs ++ drop n ls) (sym (length_resolved base cs))
