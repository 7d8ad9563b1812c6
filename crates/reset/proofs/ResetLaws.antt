-- L1 by one position at a time, from the line's end to its start: what is reset from a position on.
-- Assumes nothing.
use Prim.Native.Nat.{ℕ, suc, ◌-◌, ◌≤◌, ◌<◌}
use native.Mathlib.Omega.{arith}
use mathlib.Core.Path.{◌≡◌, sym, ap, ◌∙◌}
use mathlib.Core.Bool.{Bool, true}
use mathlib.Core.List.{List, ◌∷◌, ◌++◌}
use lib.ListN.{length, get_or, drop, set}
use lib.Seq.{drop-cons, drop-length}
use Rattle.laws.specs.Parts.{over}
use Rattle.rules.specs.Line.{reset_level, L1, blank_ahead}
use Rattle.laws.proofs.Lists.{drop_set_here}
use Rattle.reset.specs.Steps.{ahead_of, Steps}
use Rattle.reset.specs.declared.Stepped.{Stepped}
use Rattle.rules.proofs.LineLaws.{length_L1}

L1_drop : (base : ℕ) (cs ls : List ℕ) (k : ℕ) → k < length cs → k < length ls → L1 base (drop k cs) (drop k ls) ≡ reset_level base (get_or cs k 0) (get_or ls k 0) (blank_ahead (drop (suc k) cs)) ∷ L1 base (drop (suc k) cs) (drop (suc k) ls)
unfolding L1
L1_drop base cs ls k h g = rw (drop-cons cs k 0 h, drop-cons ls k 0 g)

blank_ahead_drop : (cs : List ℕ) (k : ℕ) → k < length cs → blank_ahead (drop k cs) ≡ ahead_of (get_or cs k 0) (blank_ahead (drop (suc k) cs))
unfolding blank_ahead
blank_ahead_drop cs k h = rw (drop-cons cs k 0 h)

-- the positions from i on are reset, and what stands past the line is as it was
pub record Reset (base : ℕ) (cs ls out₀ out : List ℕ) (i : ℕ) (ahead : Bool) : Type 0 where
  pub blank : ahead ≡ blank_ahead (drop i cs)
  pub done : drop i out ≡ L1 base (drop i cs) (drop i ls) ++ drop (length cs) out₀

pub begun : (base : ℕ) (cs ls out : List ℕ) → Reset base cs ls out out (length cs) true
unfolding L1 blank_ahead
begun base cs ls out = record { blank = rw drop-length; done = rw (drop-length cs) }

-- a turn: what is put here, and what the position before has ahead of it
stepped : (base : ℕ) (cs ls out₀ out : List ℕ) (ahead : Bool) (k : ℕ) (step : Stepped) → k < length cs → k < length ls → k < length out → Reset base cs ls out₀ out (suc k) ahead → Steps base (get_or cs k 0) (get_or ls k 0) ahead step → Reset base cs ls out₀ (set out k step.level) k step.ahead
stepped base cs ls out₀ out ahead k step h g room r taken = record {
  blank = taken.ahead ∙ ap (ahead_of (get_or cs k 0)) r.blank ∙ sym (blank_ahead_drop cs k h);
  done = drop_set_here out k step.level room ∙ rw (taken.level, r.blank, r.done, L1_drop base cs ls k h g);
}

pub next : (base : ℕ) (cs ls out₀ out : List ℕ) (ahead : Bool) (i : ℕ) (step : Stepped) → 0 < i → i ≤ length cs → length ls ≡ length cs → length cs ≤ length out → Reset base cs ls out₀ out i ahead → Steps base (get_or cs (i - 1) 0) (get_or ls (i - 1) 0) ahead step → Reset base cs ls out₀ (set out (i - 1) step.level) (i - 1) step.ahead
next base cs ls out₀ out ahead i step more within same room r taken =
    let at : i ≡ suc (i - 1) = omega arith in
    stepped base cs ls out₀ out ahead (i - 1) step (omega arith) (omega arith) (omega arith) (rw at at r) taken

pub ended : (base : ℕ) (cs ls out₀ out : List ℕ) (i : ℕ) (ahead : Bool) → length ls ≡ length cs → i ≤ 0 → Reset base cs ls out₀ out i ahead → out ≡ over (L1 base cs ls) out₀
ended base cs ls out₀ out i ahead same h r =
    let start : i ≡ 0 = omega arith in
    rw (length_L1 base cs ls same) (rw start at r.done)
