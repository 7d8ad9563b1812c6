-- A buffer that is filled from its first place on: what is written, then what is still to be written, is the whole.
-- Assumes nothing.
use Prim.Native.Nat.{ℕ, ◌+◌, ◌-◌, ◌≤◌, ◌<◌}
use native.Mathlib.Omega.{arith}
use mathlib.Core.Path.{◌≡◌, refl, sym, ap, ◌∙◌}
use mathlib.Core.List.{List, [], ◌∷◌, ◌++◌, append-nil, append_assoc}
use lib.ListN.{length, get_or, take, drop, set, length-set, take-append-drop}
use lib.Seq.{drop-drop, get_or-drop, length-take-le, take-add}
use Rattle.laws.specs.Parts.{over}
use Rattle.laws.proofs.Lists.{take_set_next, drop_set_next}

pub record Filled (whole out₀ out : List ℕ) (k : ℕ) (rest : List ℕ) : Type 0 where
  pub long : length out ≡ length out₀
  pub written : take k out ++ rest ≡ whole
  pub beyond : drop k out ≡ drop k out₀

pub filled_begun : (whole out : List ℕ) → Filled whole out out 0 whole
filled_begun whole out = record { long = refl; written = refl; beyond = refl }

module _ (whole out₀ out : List ℕ) (k : ℕ) where
  -- what is not written yet reads as it was
  pub filled_reads : (rest : List ℕ) (i : ℕ) → k ≤ i → Filled whole out₀ out k rest → get_or out i 0 ≡ get_or out₀ i 0
  filled_reads rest i h f =
      let e : k + (i - k) ≡ i = omega arith in
      ap (λ (n : ℕ). get_or out n 0) (sym e) ∙ sym (get_or-drop k out (i - k) 0)
      ∙ ap (λ (l : List ℕ). get_or l (i - k) 0) f.beyond
      ∙ get_or-drop k out₀ (i - k) 0 ∙ ap (λ (n : ℕ). get_or out₀ n 0) e

  pub filled_next : (v : ℕ) (rest : List ℕ) → k < length out → Filled whole out₀ out k (v ∷ rest) → Filled whole out₀ (set out k v) (k + 1) rest
  filled_next v rest h f = record {
    long = length-set out k v ∙ f.long;
    written = take_set_next out k v rest h ∙ f.written;
    beyond = drop_set_next out k v ∙ sym (drop-drop 1 k out) ∙ ap (drop 1) f.beyond ∙ drop-drop 1 k out₀;
  }

  pub filled_ended : k ≤ length out → Filled whole out₀ out k [] → (out ≡ over whole out₀) × (k ≡ length whole)
  filled_ended h f =
      let front : take k out ≡ whole = sym (append-nil (take k out)) ∙ f.written in
      let count : k ≡ length whole = sym (length-take-le k out h) ∙ ap length front in (
        sym (take-append-drop k out) ∙ (λ j. front j ++ f.beyond j) ∙ ap (λ (n : ℕ). whole ++ drop n out₀) count,
        count,
      )

  -- places that already hold what is to stand there
  pub filled_stays : (n : ℕ) (rest : List ℕ) → Filled whole out₀ out k (take n (drop k out₀) ++ rest) → Filled whole out₀ out (k + n) rest
  filled_stays n rest f = record {
    long = f.long;
    written = ap (λ (l : List ℕ). l ++ rest) (take-add k n out ∙ ap (λ (l : List ℕ). take k out ++ take n l) f.beyond)
        ∙ append_assoc (take k out) (take n (drop k out₀)) rest ∙ f.written;
    beyond = sym (drop-drop n k out) ∙ ap (drop n) f.beyond ∙ drop-drop n k out₀;
  }

  -- several places are written at once: up to k as it was, then the part, then what stood behind it
  pub filled_part : (out' part rest : List ℕ) (e : ℕ) → length out' ≡ length out → take e out' ≡ take k out ++ part → drop e out' ≡ drop e out → k ≤ e → Filled whole out₀ out k (part ++ rest) → Filled whole out₀ out' e rest
  filled_part out' part rest e l t d h f =
      let to : k + (e - k) ≡ e = omega arith in
      let as_it_was : drop e out ≡ drop e out₀ =
      ap (λ (n : ℕ). drop n out) (sym to) ∙ sym (drop-drop (e - k) k out) ∙ ap (drop (e - k)) f.beyond
      ∙ drop-drop (e - k) k out₀ ∙ ap (λ (n : ℕ). drop n out₀) to in
      record {
        long = l ∙ f.long;
        written = ap (λ (x : List ℕ). x ++ rest) t ∙ append_assoc (take k out) part rest ∙ f.written;
        beyond = d ∙ as_it_was;
      }

-- ---- the same, where what is left is known by an equation
pub filled_from : (before : List ℕ) {whole rest : List ℕ} → rest ≡ whole → Filled whole before before 0 rest
filled_from before e = record { long = refl; written = e; beyond = refl }

pub filled_more : {whole before out : List ℕ} {k v : ℕ} {rest next : List ℕ} → rest ≡ v ∷ next → k < length before → Filled whole before out k rest → Filled whole before (set out k v) (k + 1) next
filled_more {whole} {before} {out} {k} {v} {rest} {next} e h f = filled_next whole before out k v next (rw f.long h) (rw e at f)

module _ {whole before out rest : List ℕ} {k : ℕ} (f : Filled whole before out k rest) (none : rest ≡ []) (within : k ≤ length before) where
  all : (out ≡ over whole before) × (k ≡ length whole)
  all = filled_ended whole before out k (rw f.long within) (rw none at f)

  pub filled_count : k ≡ length whole
  filled_count = all.1

  pub filled_all : out ≡ over whole before
  filled_all = all.0
