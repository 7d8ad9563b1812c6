-- No resolved level passes the highest: what Resolve writes, Order never refuses with 7. Assumes nothing.
use Prim.Native.Nat.{ℕ, zero, suc, ◌+◌, ◌≤◌}
use native.Mathlib.Omega.{arith}
use mathlib.Core.Path.{◌≡◌, refl, sym, ap, ◌∙◌}
use mathlib.Core.Bool.{true, false}
use mathlib.Core.List.{List, [], ◌∷◌, ◌++◌, map}
use borrow.Author.Tests.{le-ltb}
use lib.Dec.{eqb}
use lib.ListN.{length, get_or, take, drop, length-append, length-take, length-drop}
use Rattle.laws.specs.Choice.{head_or}
use Rattle.rules.specs.Classes.{is_removed}
use Rattle.rules.specs.Explicit.{highest_explicit, removed_level, X1, explicit_levels, explicit_types, kept, put_back}
use Rattle.rules.specs.Runs.{one_longer, run_lengths, boundary_type}
use Rattle.rules.specs.Implicit.{implicit_level}
use Rattle.rules.specs.Weak.{weak}
use Rattle.rules.specs.Neutral.{N1, N2}
use Rattle.rules.specs.Resolve.{resolve_run, resolve_runs, resolve_kept, resolved_levels}
use Rattle.rules.specs.Refusals.{sound, highest_resolved, is_bad_level, first_bad_level}
use Rattle.laws.proofs.Every.{AtMost, every_append}
use Rattle.laws.proofs.Passes.{by_test}
use Rattle.explicit.proofs.ExplicitLaws.{length_levels, length_kept_types, kept_low}
use Rattle.weak.proofs.WeakLaws.{length_weak}
use Rattle.neutral.proofs.NeutralLaws.{length_N}
use Rattle.neutral.proofs.ImplicitLaws.{implicit_level_within, length_implicit}
use Rattle.resolve.proofs.ScatterLaws.{kept_in, kept_is, kept_one}
use Rattle.resolve.proofs.WholeLaws.{length_kept_in}

-- ---- lists whose every element is at most a number
at_most_append : (n : ℕ) (xs ys : List ℕ) → AtMost n xs → AtMost n ys → AtMost n (xs ++ ys)
at_most_append n xs ys p q = every_append (λ (x : ℕ). x ≤ n) xs ys p q

at_most_map : (n : ℕ) (f : ℕ → ℕ) → ((t : ℕ) → f t ≤ n) → (ts : List ℕ) → AtMost n (map f ts)
at_most_map n f h [] = tt
at_most_map n f h (t ∷ ts) = (h t, at_most_map n f h ts)

at_most_drop : (n k : ℕ) (xs : List ℕ) → AtMost n xs → AtMost n (drop k xs)
at_most_drop n zero xs p = p
at_most_drop n (suc k) [] p = tt
at_most_drop n (suc k) (x ∷ xs) p = at_most_drop n k xs p.1

at_most_head : (n none : ℕ) (xs : List ℕ) → none ≤ n → AtMost n xs → head_or none xs ≤ n
at_most_head n none [] h p = h
at_most_head n none (x ∷ xs) h p = p.0

pub at_most_all : (n : ℕ) (xs : List ℕ) → ((i : ℕ) → get_or xs i 0 ≤ n) → AtMost n xs
at_most_all n [] h = tt
at_most_all n (x ∷ xs) h = (h 0, at_most_all n xs (λ i. h (suc i)))

-- ---- the runs
run_low : (level sor eor : ℕ) (ts : List ℕ) → level ≤ highest_explicit → AtMost highest_resolved (resolve_run level sor eor ts)
unfolding resolve_run
run_low level sor eor ts h = at_most_map highest_resolved (implicit_level level) (λ t. implicit_level_within level t h) (N2 level (N1 sor eor (weak sor eor ts)))

runs_low : (base before : ℕ) (levels types ns : List ℕ) → base ≤ highest_explicit → AtMost highest_explicit levels → AtMost highest_resolved (resolve_runs base before levels types ns)
unfolding resolve_runs
runs_low base before levels types [] h p = tt
runs_low base before levels types (n ∷ ns) h p =
    at_most_append highest_resolved (resolve_run (head_or base levels) (boundary_type before (head_or base levels)) (boundary_type (head_or base levels) (head_or base (drop n levels))) (take n types)) _
    (run_low (head_or base levels) (boundary_type before (head_or base levels)) (boundary_type (head_or base levels) (head_or base (drop n levels))) (take n types) (at_most_head highest_explicit base levels h p))
    (runs_low base (head_or base levels) (drop n levels) (drop n types) ns h (at_most_drop highest_explicit n levels p))

-- ---- as many levels as positions
pub length_run : (level sor eor : ℕ) (ts : List ℕ) → length (resolve_run level sor eor ts) ≡ length ts
unfolding resolve_run
length_run level sor eor ts = length_implicit level (N2 level (N1 sor eor (weak sor eor ts))) ∙ length_N level sor eor (weak sor eor ts) ∙ length_weak sor eor ts

total : List ℕ → ℕ
total [] = 0
total (n ∷ ns) = n + total ns

total_longer : (ns : List ℕ) → total (one_longer ns) ≡ suc (total ns)
unfolding total one_longer
total_longer [] = refl
total_longer (n ∷ ns) = omega arith

total_lengths : (ls : List ℕ) → total (run_lengths ls) ≡ length ls
unfolding total run_lengths
total_lengths [] = refl
total_lengths (l ∷ []) = refl
total_lengths (l ∷ m ∷ ls) =
    let h : total (run_lengths (m ∷ ls)) ≡ suc (length ls) = total_lengths (m ∷ ls) in
    by_test (eqb l m)
    (λ e. rw e (total_longer (run_lengths (m ∷ ls)) ∙ ap suc h))
    (λ e. rw e (omega arith))

length_runs : (base before : ℕ) (levels types ns : List ℕ) → total ns ≡ length types → length (resolve_runs base before levels types ns) ≡ length types
unfolding resolve_runs total
length_runs base before levels types [] e = e
length_runs base before levels types (n ∷ ns) e =
    let rest : length (resolve_runs base (head_or base levels) (drop n levels) (drop n types) ns) ≡ length (drop n types) =
    length_runs base (head_or base levels) (drop n levels) (drop n types) ns (omega (arith, length-drop n types)) in
    length-append (resolve_run (head_or base levels) (boundary_type before (head_or base levels)) (boundary_type (head_or base levels) (head_or base (drop n levels))) (take n types)) _
    ∙ omega (arith, length_run (head_or base levels) (boundary_type before (head_or base levels)) (boundary_type (head_or base levels) (head_or base (drop n levels))) (take n types), length-take n types, length-drop n types)

-- ---- put back, no level is bad
removed_fits : (c : ℕ) → is_removed c ≡ true → is_bad_level c removed_level ≡ false
unfolding is_bad_level
removed_fits c r = rw r

kept_fits : (c l : ℕ) → is_removed c ≡ false → l ≤ highest_resolved → is_bad_level c l ≡ false
unfolding is_bad_level
kept_fits c l r h = rw r (le-ltb highest_resolved l h)

none_bad : (at : ℕ) (cs xs rest : List ℕ) → AtMost highest_resolved xs → kept_in cs ≤ length xs → first_bad_level at cs (put_back cs xs ++ rest) ≡ sound
unfolding first_bad_level put_back
none_bad at [] xs rest p h = refl
none_bad at (c ∷ cs) [] rest p h =
    by_test (is_removed c)
    (λ r. let k : kept_in cs ≤ 0 = rw (kept_one c cs, r) at h in rw (r, removed_fits c r) (none_bad (suc at) cs [] rest tt k))
    (λ r. let k : suc (kept_in cs) ≤ 0 = rw (kept_one c cs, r) at h in absurd (omega arith))
none_bad at (c ∷ cs) (x ∷ xs) rest p h =
    by_test (is_removed c)
    (λ r. let k : kept_in cs ≤ suc (length xs) = rw (kept_one c cs, r) at h in rw (r, removed_fits c r) (none_bad (suc at) cs (x ∷ xs) rest p k))
    (λ r. let k : suc (kept_in cs) ≤ suc (length xs) = rw (kept_one c cs, r) at h in rw (r, kept_fits c x r p.0) (none_bad (suc at) cs xs rest p.1 (omega arith)))

-- Order, lent Resolve's levels for the same classes, does not refuse with 7
pub resolved_accepted : (base : ℕ) (cs rest : List ℕ) → base ≤ 1 → first_bad_level 0 cs (resolved_levels base cs ++ rest) ≡ sound
unfolding resolved_levels resolve_kept
resolved_accepted base cs rest h =
    let levels = kept cs (explicit_levels base (X1 base) cs) in
    let types = kept cs (explicit_types (X1 base) cs) in
    let same : total (run_lengths levels) ≡ length types = total_lengths levels ∙ sym (length_kept_types base cs) in
    none_bad 0 cs (resolve_runs base base levels types (run_lengths levels)) rest
    (runs_low base base levels types (run_lengths levels) (omega arith) (at_most_all highest_explicit levels (kept_low base cs h)))
    (omega (arith, length_runs base base levels types (run_lengths levels) same, length_kept_types base cs, length_kept_in cs (explicit_levels base (X1 base) cs) (length_levels base (X1 base) cs), kept_is cs))
