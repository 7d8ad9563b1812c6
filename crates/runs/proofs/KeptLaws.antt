-- The laws of resolving run by run. Assumes nothing.
use Prim.Native.Nat.{ℕ, ◌-◌, ◌≤◌}
use native.Mathlib.Omega.{arith}
use mathlib.Core.Path.{◌≡◌, refl, sym, ap, ◌∙◌}
use mathlib.Core.List.{List, ◌∷◌, ◌++◌, append_assoc, append-nil}
use lib.ListN.{length, get_or, take, drop, drop_of_length-le}
use lib.Seq.{take_all}
use borrow.Rule.Slice.PartMut.{mid_of, put_mid, Post-is, mid_len, drop_put, same_len_mid}
use Rattle.laws.specs.Choice.{head_or}
use Rattle.rules.specs.Runs.{run_lengths, boundary_type}
use Rattle.rules.specs.Resolve.{resolve_run, resolve_runs, resolve_kept}
use Rattle.laws.proofs.Lists.{take_put_end}
use Rattle.laws.proofs.Passes.{head_drop, get_or_within}
use Rattle.runs.specs.RunEnd.{RunEnd}

runs_one : (base before : ℕ) (ls ts : List ℕ) (n : ℕ) (ns : List ℕ) → resolve_runs base before ls ts (n ∷ ns) ≡ resolve_run (head_or base ls) (boundary_type before (head_or base ls)) (boundary_type (head_or base ls) (head_or base (drop n ls))) (take n ts) ++ resolve_runs base (head_or base ls) (drop n ls) (drop n ts) ns
unfolding resolve_runs
runs_one base before ls ts n ns = refl

-- the runs before i are resolved, and all from i on stands as it was
pub record Resolving (ts₀ ls₀ : List ℕ) (base : ℕ) (ts ls : List ℕ) (before i : ℕ) : Type 0 where
  pub within : i ≤ length ls
  pub same : length ts ≡ length ls
  pub levels_long : length ls ≡ length ls₀
  pub types_long : length ts ≡ length ts₀
  pub levels_left : drop i ls ≡ drop i ls₀
  pub types_left : drop i ts ≡ drop i ts₀
  pub done : take i ls ++ resolve_runs base before (drop i ls₀) (drop i ts₀) (run_lengths (drop i ls₀)) ≡ resolve_kept base ls₀ ts₀

pub resolving_begun : (ts ls : List ℕ) (base : ℕ) → length ts ≡ length ls → Resolving ts ls base ts ls base 0
unfolding resolve_kept
resolving_begun ts ls base e =
    record { within = omega arith; same = e; levels_long = refl; types_long = refl; levels_left = refl; types_left = refl; done = refl }

pub resolving_done : {ts₀ ls₀ : List ℕ} {base : ℕ} {ts ls : List ℕ} {before i : ℕ} → Resolving ts₀ ls₀ base ts ls before i → length ls ≤ i → ls ≡ resolve_kept base ls₀ ts₀
unfolding run_lengths resolve_runs
resolving_done {ts₀} {ls₀} {base} {ts} {ls} {before} {i} r h =
    let g : length ls₀ ≤ i = omega (arith, r.levels_long) in
    sym (append-nil ls) ∙ (rw (take_all i ls h, drop_of_length-le ls₀ g) at r.done)

-- one run, from i to e
module _ {ts₀ ls₀ : List ℕ} {base : ℕ} {ts ls : List ℕ} {before i : ℕ} (r : Resolving ts₀ ls₀ base ts ls before i) (e : ℕ) (run : RunEnd ls i e) where
  from_to : i ≤ e
  from_to = omega (arith, run.later)

  -- what is left after the run, of the levels and of the types
  after_run : (xs : List ℕ) → drop (e - i) (drop i xs) ≡ drop e xs
  after_run xs = Post-is i e xs from_to

  levels_after : drop e ls ≡ drop e ls₀
  levels_after = sym (after_run ls) ∙ ap (drop (e - i)) r.levels_left ∙ after_run ls₀

  types_after : drop e ts ≡ drop e ts₀
  types_after = sym (after_run ts) ∙ ap (drop (e - i)) r.types_left ∙ after_run ts₀

  lengths_here : run_lengths (drop i ls₀) ≡ (e - i) ∷ run_lengths (drop e ls₀)
  lengths_here = ap run_lengths (sym r.levels_left) ∙ run.lengths ∙ ap (λ (xs : List ℕ). (e - i) ∷ run_lengths xs) levels_after

  level_here_is : head_or base (drop i ls₀) ≡ get_or ls i 0
  level_here_is =
      ap (head_or base) (sym r.levels_left) ∙ head_drop base ls i
      ∙ get_or_within ls i base 0 (omega (arith, run.later, run.within))

  level_next : head_or base (drop (e - i) (drop i ls₀)) ≡ get_or ls e base
  level_next = ap (head_or base) (after_run ls₀ ∙ sym levels_after) ∙ head_drop base ls e

  types_here : take (e - i) (drop i ts₀) ≡ mid_of i (e - i) ts
  types_here = ap (take (e - i)) (sym r.types_left)

  the_run : resolve_runs base before (drop i ls₀) (drop i ts₀) (run_lengths (drop i ls₀)) ≡ resolve_run (get_or ls i 0) (boundary_type before (get_or ls i 0)) (boundary_type (get_or ls i 0) (get_or ls e base)) (mid_of i (e - i) ts) ++ resolve_runs base (get_or ls i 0) (drop e ls₀) (drop e ts₀) (run_lengths (drop e ls₀))
  the_run =
      ap (resolve_runs base before (drop i ls₀) (drop i ts₀)) lengths_here
      ∙ runs_one base before (drop i ls₀) (drop i ts₀) (e - i) (run_lengths (drop e ls₀))
      ∙ rw (level_next, level_here_is, types_here, after_run ls₀, after_run ts₀)

  module _ (next sor eor : ℕ) (ts' ls' : List ℕ) (n : next ≡ get_or ls e base) (s : sor ≡ boundary_type before (get_or ls i 0)) (t : eor ≡ boundary_type (get_or ls i 0) next) (types : length ts' ≡ length (mid_of i (e - i) ts)) (levels : length ls' ≡ length (mid_of i (e - i) ls)) (out : ls' ≡ resolve_run (get_or ls i 0) sor eor (mid_of i (e - i) ts)) where
    long : length ls' ≡ e - i
    long = levels ∙ mid_len i e ls run.within

    types_room : e ≤ length ts
    types_room = omega (arith, run.within, r.same)

    out_is : ls' ≡ resolve_run (get_or ls i 0) (boundary_type before (get_or ls i 0)) (boundary_type (get_or ls i 0) (get_or ls e base)) (mid_of i (e - i) ts)
    out_is = out ∙ rw (s, t, n)

    pub resolving_run : Resolving ts₀ ls₀ base (put_mid i (e - i) ts ts') (put_mid i (e - i) ls ls') (get_or ls i 0) e
    resolving_run =
        let ll : length (put_mid i (e - i) ls ls') ≡ length ls = same_len_mid i (e - i) ls ls' levels in
        let tl : length (put_mid i (e - i) ts ts') ≡ length ts = same_len_mid i (e - i) ts ts' types in
        record {
          within = omega (arith, run.within);
          same = tl ∙ r.same ∙ sym ll;
          levels_long = ll ∙ r.levels_long;
          types_long = tl ∙ r.types_long;
          levels_left = drop_put i e ls ls' from_to run.within long ∙ levels_after;
          types_left = drop_put i e ts ts' from_to types_room (types ∙ mid_len i e ts types_room) ∙ types_after;
          done =
              ap (λ (xs : List ℕ). xs ++ resolve_runs base (get_or ls i 0) (drop e ls₀) (drop e ts₀) (run_lengths (drop e ls₀)))
              (take_put_end ls ls' i e from_to run.within long)
              ∙ append_assoc (take i ls) ls' (resolve_runs base (get_or ls i 0) (drop e ls₀) (drop e ts₀) (run_lengths (drop e ls₀)))
              ∙ ap (λ (xs : List ℕ). take i ls ++ xs)
              (ap (λ (xs : List ℕ). xs ++ resolve_runs base (get_or ls i 0) (drop e ls₀) (drop e ts₀) (run_lengths (drop e ls₀))) out_is ∙ sym the_run)
              ∙ r.done;
        }

-- the level at i is the one that stood there at first
pub level_as_was : {ts₀ ls₀ : List ℕ} {base : ℕ} {ts ls : List ℕ} {before i : ℕ} → Resolving ts₀ ls₀ base ts ls before i → get_or ls i 0 ≡ get_or ls₀ i 0
level_as_was {ts₀} {ls₀} {base} {ts} {ls} {before} {i} r =
    sym (head_drop 0 ls i) ∙ ap (head_or 0) r.levels_left ∙ head_drop 0 ls₀ i

-- the two parts of a run are equally long
pub parts_equal : {ts₀ ls₀ : List ℕ} {base : ℕ} {ts ls : List ℕ} {before i e : ℕ} → Resolving ts₀ ls₀ base ts ls before i → RunEnd ls i e → length (mid_of i (e - i) ts) ≡ length (mid_of i (e - i) ls)
parts_equal {ts₀} {ls₀} {base} {ts} {ls} {before} {i} {e} r run =
    mid_len i e ts (omega (arith, run.within, r.same)) ∙ sym (mid_len i e ls run.within)
