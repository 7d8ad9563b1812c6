-- From the gathered levels and types to a level for every position. Assumes nothing.
use Prim.Native.Nat.{ℕ, suc, ◌+◌, ◌-◌, ◌≤◌, ◌<◌}
use native.Mathlib.Omega.{arith}
use mathlib.Core.Path.{◌≡◌, refl, sym, ap, ap₂, ◌∙◌}
use mathlib.Core.Bool.{Bool, true, false}
use mathlib.Core.List.{List, [], ◌∷◌, ◌++◌}
use lib.ListN.{length, get_or, take, drop, length-append, length-drop}
use lib.Seq.{take_at, drop_at, length-take-le, drop-drop, drop-append-add}
use Rattle.rules.specs.Classes.{is_removed}
use Rattle.rules.specs.Explicit.{highest_explicit, X1, explicit_levels, explicit_types, kept, put_back}
use Rattle.rules.specs.Resolve.{resolve_kept, resolved_levels}
use Rattle.laws.specs.Parts.{over}
use Rattle.explicit.specs.Promises.{Gathered}
use Rattle.explicit.proofs.ExplicitLaws.{length_levels, length_kept, length_kept_types, kept_low}
use Rattle.laws.proofs.Passes.{by_test}

-- ---- lengths
length_put_back : (cs xs : List ℕ) → length (put_back cs xs) ≡ length cs
unfolding put_back
length_put_back [] xs = refl
length_put_back (c ∷ cs) xs = by (is_removed c) refl (length_put_back cs xs) (length_put_back cs (mathlib.Core.List.tail xs))
  where
    by : (b : Bool) → is_removed c ≡ b → length (put_back cs xs) ≡ length cs → length (put_back cs (mathlib.Core.List.tail xs)) ≡ length cs → length (put_back (c ∷ cs) xs) ≡ suc (length cs)
    by true e h g = rw e (ap suc h)
    by false e h g = rw e (ap suc g)

pub length_resolved : (base : ℕ) (cs : List ℕ) → length (resolved_levels base cs) ≡ length cs
unfolding resolved_levels
length_resolved base cs = length_put_back cs _

-- of every list with an element for each position as many are kept
pub length_kept_in : (cs xs : List ℕ) → length xs ≡ length cs → length (kept cs xs) ≡ length (kept cs cs)
unfolding kept
length_kept_in [] xs e = refl
length_kept_in (c ∷ cs) [] e = absurd (omega arith)
length_kept_in (c ∷ cs) (x ∷ xs) e =
    let more : length (kept cs xs) ≡ length (kept cs cs) = length_kept_in cs xs (omega arith) in
    by_test (is_removed c) (λ r. rw r more) (λ r. rw r (ap suc more))

over_long : (written buffer : List ℕ) → length written ≤ length buffer → length (over written buffer) ≡ length buffer
over_long written buffer h = length-append written (drop (length written) buffer) ∙ omega (arith, length-drop (length written) buffer)

abbrev kept_levels : ℕ → List ℕ → List ℕ
kept_levels base cs = kept cs (explicit_levels base (X1 base) cs)

abbrev kept_types : ℕ → List ℕ → List ℕ
kept_types base cs = kept cs (explicit_types (X1 base) cs)

module _ {base : ℕ} {cs ls₀ ts₀ ls ts : List ℕ} {n : ℕ} (g : Gathered base cs ls₀ ts₀ ls ts n) (room : (base ≤ 1) × (length cs ≤ length ls₀) × (length cs ≤ length ts₀)) where
  few : n ≤ length cs
  few = omega (arith, g.count, length_kept cs (explicit_levels base (X1 base) cs))

  types_few : length (kept cs (explicit_types (X1 base) cs)) ≡ n
  types_few = length_kept_types base cs ∙ sym g.count

  pub levels_as_long : length ls ≡ length ls₀
  levels_as_long = ap length g.levels ∙ over_long (kept_levels base cs) ls₀ (omega (arith, g.count, few, room))

  types_as_long : length ts ≡ length ts₀
  types_as_long = ap length g.types ∙ over_long (kept_types base cs) ts₀ (omega (arith, types_few, few, room))

  pub within_levels : n ≤ length ls
  within_levels = omega (arith, few, levels_as_long, room)

  pub within_types : n ≤ length ts
  within_types = omega (arith, few, types_as_long, room)

  front_levels : take n ls ≡ kept_levels base cs
  front_levels = ap (take n) g.levels ∙ take_at _ _ n (sym g.count)

  front_types : take n ts ≡ kept_types base cs
  front_types = ap (take n) g.types ∙ take_at _ _ n types_few

  pub fronts_equal : length (take n ts) ≡ length (take n ls)
  fronts_equal = length-take-le n ts within_types ∙ sym (length-take-le n ls within_levels)

  pub front_low : (k : ℕ) → get_or (take n ls) k 0 + 2 < 256
  front_low k =
      let low : get_or (take n ls) k 0 ≤ highest_explicit = rw front_levels (kept_low base cs room.0 k) in
      omega arith

  pub count_kept : n ≡ length (kept cs cs)
  count_kept = g.count ∙ length_kept_in cs _ (length_levels base (X1 base) cs)

  -- the levels past the paragraph, as they were
  past : (ys : List ℕ) → length ys ≡ n → drop (length cs) (ys ++ drop n ls) ≡ drop (length cs) ls₀
  past ys e =
      let split : n + (length cs - n) ≡ length cs = omega (arith, few) in
      ap (λ (k : ℕ). drop k (ys ++ drop n ls)) (sym split ∙ ap (λ (k : ℕ). k + (length cs - n)) (sym e))
      ∙ drop-append-add ys (drop n ls) (length cs - n)
      ∙ ap (drop (length cs - n)) (ap (drop n) g.levels ∙ drop_at (kept_levels base cs) (drop (length (kept_levels base cs)) ls₀) n (sym g.count) ∙ ap (λ (k : ℕ). drop k ls₀) (sym g.count))
      ∙ drop-drop (length cs - n) n ls₀
      ∙ ap (λ (k : ℕ). drop k ls₀) split

  pub resolved_whole : (ys out : List ℕ) → length ys ≡ length (take n ls) → ys ≡ resolve_kept base (take n ls) (take n ts) → out ≡ put_back cs (take n (ys ++ drop n ls)) ++ drop (length cs) (ys ++ drop n ls) → out ≡ over (resolved_levels base cs) ls₀
  unfolding resolved_levels
  resolved_whole ys out l y o =
      let long : length ys ≡ n = l ∙ length-take-le n ls within_levels in
      o
      ∙ ap₂ (λ (xs zs : List ℕ). put_back cs xs ++ zs)
      (take_at ys (drop n ls) n long ∙ y ∙ ap₂ (resolve_kept base) front_levels front_types)
      (past ys long ∙ ap (λ (k : ℕ). drop k ls₀) (sym (length_put_back cs _)))
