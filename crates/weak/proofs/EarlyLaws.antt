-- W1 to W4 as one pass: what holds at the loop's head as a record, and its laws over plain lists: begun, one step
-- further, done. A type is written when the next one is known: the pass holds the last one after W3 and what W1 and W2
-- carry on.
-- Assumes nothing.
use Prim.Native.Nat.{ℕ, ◌+◌, ◌-◌, ◌≤◌, ◌<◌}
use native.Mathlib.Omega.{arith}
use mathlib.Core.Path.{◌≡◌, refl, sym, ap, ◌∙◌}
use mathlib.Core.List.{List, [], ◌∷◌, ◌++◌, append-nil}
use lib.ListN.{length, get_or, take, drop, set, length-set, drop_of_length-le}
use lib.Seq.{take_all, drop-set-lt}
use Rattle.rules.specs.Weak.{W1, W2, W3, W4, change_W1, change_W2, strong_W2, change_W3, change_W4}
use Rattle.laws.proofs.Lists.{take_set_next, drop_next}
use Rattle.weak_steps.specs.declared.Table.{Table}
use Rattle.weak_steps.specs.Tables.{early_steps, becomes, follows}
use Rattle.weak_steps.proofs.TableLaws.{early_change, early_carry}

W1_to_W3_cons : (before strong t : ℕ) (ts : List ℕ) → W3 (W2 strong (W1 before (t ∷ ts))) ≡ change_W3 (change_W2 strong (change_W1 before t)) ∷ W3 (W2 (strong_W2 strong (change_W1 before t)) (W1 (change_W1 before t) ts))
unfolding W1 W2 W3
W1_to_W3_cons before strong t ts = refl

W1_to_W3_nil : (own strong : ℕ) → W3 (W2 strong (W1 own [])) ≡ []
unfolding W1 W2 W3
W1_to_W3_nil own strong = refl

-- the first type of what is left
W1_to_W3_next : (xs : List ℕ) (i before strong own here after : ℕ) → i < length xs → own ≡ change_W1 before (get_or xs i 0) → here ≡ change_W3 (change_W2 strong own) → after ≡ strong_W2 strong own → W3 (W2 strong (W1 before (drop i xs))) ≡ here ∷ W3 (W2 after (W1 own (drop (i + 1) xs)))
W1_to_W3_next xs i before strong own here after below is-own is-here is-after =
    ap (λ (r : List ℕ). W3 (W2 strong (W1 before r))) (drop_next xs i below)
    ∙ W1_to_W3_cons before strong (get_or xs i 0) (drop (i + 1) xs)
    ∙ rw (is-here, is-after, is-own)

W4_two : (before eor here next : ℕ) (ts : List ℕ) → W4 before eor (here ∷ next ∷ ts) ≡ change_W4 before here next ∷ W4 here eor (next ∷ ts)
unfolding W4
W4_two before eor here next ts = refl

W4_last : (before eor here : ℕ) → W4 before eor (here ∷ []) ≡ change_W4 before here eor ∷ []
unfolding W4
W4_last before eor here = refl

-- of an empty run nothing is made
pub early_none : (sor eor : ℕ) (ts : List ℕ) → length ts ≡ 0 → ts ≡ W4 sor eor (W3 (W2 sor (W1 sor ts)))
unfolding W1 W2 W3 W4
early_none sor eor [] none = refl
early_none sor eor (t ∷ ts) none = absurd (omega arith)

-- what is written up to the type held, which stands before i, then W4 on it and on what W1 to W3 make of the rest, is what
-- the four make of all
pub record Early (sor eor : ℕ) (xs₀ xs : List ℕ) (own here strong before i : ℕ) : Type 0 where
  pub some : 0 < i
  pub within : i ≤ length xs₀
  pub long : length xs ≡ length xs₀
  pub fits : strong < 256
  pub joined : take (i - 1) xs ++ W4 before eor (here ∷ W3 (W2 strong (W1 own (drop i xs)))) ≡ W4 sor eor (W3 (W2 sor (W1 sor xs₀)))

module _ {sor eor : ℕ} where
  pub early_begun : (xs : List ℕ) {table : Table} {own here strong : ℕ} → table ≡ early_steps → own < 256 → sor < 256 → strong < 256 → 0 < length xs → own ≡ change_W1 sor (get_or xs 0 0) → here ≡ becomes table sor own → strong ≡ follows table sor own → Early sor eor xs xs own here strong sor 1
  early_begun xs {table} {own} {here} {strong} tabled own-fits sor-fits strong-fits below is-own is-here is-strong =
      record { some = omega arith; within = omega arith; long = refl; fits = strong-fits; joined = ap (W4 sor eor) (sym (W1_to_W3_next xs 0 sor sor own here strong below is-own (early_change sor own tabled own-fits is-here) (early_carry sor own tabled sor-fits is-strong))) }

  module _ {xs₀ xs : List ℕ} {own here strong before i : ℕ} (now : Early sor eor xs₀ xs own here strong before i) where
    pub early_next : {table : Table} {own' next strong' v : ℕ} → table ≡ early_steps → own' < 256 → strong' < 256 → i < length xs → own' ≡ change_W1 own (get_or xs i 0) → next ≡ becomes table strong own' → strong' ≡ follows table strong own' → v ≡ change_W4 before here next → Early sor eor xs₀ (set xs (i - 1) v) own' next strong' here (i + 1)
    early_next {table} {own'} {next} {strong'} {v} tabled own-fits strong-fits below is-own is-next is-strong wrote =
        let room : i - 1 < length xs = omega arith in
        let up : i + 1 - 1 ≡ i - 1 + 1 = omega (arith, now.some) in
        let rest : List ℕ = W3 (W2 strong' (W1 own' (drop (i + 1) xs))) in
        record {
          some = omega arith;
          within = omega (arith, now.long);
          long = length-set xs (i - 1) v ∙ now.long;
          fits = strong-fits;
          joined =
              ap (λ (n : ℕ). take n (set xs (i - 1) v) ++ W4 here eor (next ∷ W3 (W2 strong' (W1 own' (drop (i + 1) (set xs (i - 1) v)))))) up
              ∙ ap (λ (r : List ℕ). take (i - 1 + 1) (set xs (i - 1) v) ++ W4 here eor (next ∷ W3 (W2 strong' (W1 own' r)))) (drop-set-lt (i + 1) xs (i - 1) v (omega arith))
              ∙ take_set_next xs (i - 1) v (W4 here eor (next ∷ rest)) room
              ∙ ap (λ (t : ℕ). take (i - 1) xs ++ (t ∷ W4 here eor (next ∷ rest))) wrote
              ∙ ap (λ (r : List ℕ). take (i - 1) xs ++ r) (sym (W4_two before eor here next rest) ∙ ap (λ (r : List ℕ). W4 before eor (here ∷ r)) (sym (W1_to_W3_next xs i own strong own' next strong' below is-own (early_change strong own' tabled own-fits is-next) (early_carry strong own' tabled now.fits is-strong))))
              ∙ now.joined;
        }

    pub early_done : {v : ℕ} → length xs ≤ i → v ≡ change_W4 before here eor → set xs (length xs - 1) v ≡ W4 sor eor (W3 (W2 sor (W1 sor xs₀)))
    early_done {v} past wrote =
        let last : length xs - 1 ≡ i - 1 = omega (arith, now.within, now.long) in
        let room : i - 1 < length xs = omega (arith, now.some, now.within, now.long) in
        let full : length (set xs (i - 1) v) ≤ i - 1 + 1 = omega (arith, length-set xs (i - 1) v, now.some) in
        ap (λ (n : ℕ). set xs n v) last
        ∙ sym (append-nil (set xs (i - 1) v))
        ∙ ap (λ (r : List ℕ). r ++ []) (sym (take_all (i - 1 + 1) (set xs (i - 1) v) full))
        ∙ take_set_next xs (i - 1) v [] room
        ∙ ap (λ (t : ℕ). take (i - 1) xs ++ (t ∷ [])) wrote
        ∙ ap (λ (r : List ℕ). take (i - 1) xs ++ r) (sym (W4_last before eor here) ∙ ap (λ (r : List ℕ). W4 before eor (here ∷ r)) (sym (W1_to_W3_nil own strong) ∙ ap (λ (r : List ℕ). W3 (W2 strong (W1 own r))) (sym (drop_of_length-le xs past))))
        ∙ now.joined
