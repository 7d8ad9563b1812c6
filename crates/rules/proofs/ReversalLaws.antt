-- What the passes of L2 reverse, added up, is the sum over the levels of each level less the lowest odd one plus 1, where that
-- is positive: the theorem of ticket 6. No limit on levels is in it.
-- Assumes nothing.
use Prim.Native.Nat.{ℕ, zero, suc, ◌+◌, ◌-◌, ◌*◌, ◌≤◌, ◌<◌, min}
use native.Mathlib.Omega.{arith}
use mathlib.Core.Path.{◌≡◌, refl, sym, ◌∙◌}
use mathlib.Core.List.{List, [], ◌∷◌}
use lib.Dec.{leb}
use lib.ListN.{length}
use borrow.Author.Tests.{le-leb, lt-leb}
use Rattle.laws.specs.Sums.{sum_of}
use Rattle.laws.proofs.Every.{every_one, every_then}
use Rattle.laws.proofs.Lists.{by_order}
use Rattle.laws.proofs.Passes.{by_test}
use Rattle.laws.proofs.SumLaws.{one, sum_same, sum_both, sum_none, sum_most, sum_map}
use Rattle.rules.specs.Line.{Item, levels_of, pass, highest, lowest_odd, line_kept}
use Rattle.rules.specs.Reversals.{pass_reverses, passes_reverse, L2_reverses, line_reversed, all_reversed, slots, Counted, EachCounted}
use Rattle.rules.proofs.LowestLaws.{each_highest, lowest_positive, lowest_none}
use Rattle.rules.proofs.PassLaws.{sum_pass}

-- ---- one pass reverses as many positions as are at its level or above
reaches : ℕ → Item → ℕ
reaches m x = one (leb m x.level)

pass_counts : (m : ℕ) (stretch xs : List Item) → pass_reverses m stretch xs ≡ length stretch + sum_of (reaches m) xs
unfolding pass_reverses reaches
pass_counts m stretch [] = omega arith
pass_counts m stretch (x ∷ xs) =
    by_test (leb m x.level)
    (λ high. let rest : pass_reverses m (x ∷ stretch) xs ≡ suc (length stretch) + sum_of (reaches m) xs = pass_counts m (x ∷ stretch) xs in rw high (omega arith))
    (λ low. let rest : pass_reverses m [] xs ≡ 0 + sum_of (reaches m) xs = pass_counts m [] xs in rw low (omega arith))

-- ---- all passes down to a level: each item is reversed by the passes from its own level, or from the first, down
up_to : ℕ → ℕ → Item → ℕ
up_to first lowest x = suc (min x.level first) - lowest

one_more : (m lowest l : ℕ) → lowest ≤ suc m → one (leb (suc m) l) + (suc (min l m) - lowest) ≡ suc (min l (suc m)) - lowest
one_more m lowest l within =
    by_order (suc m) l
    (λ high. rw (le-leb (suc m) l high) (omega arith))
    (λ low. rw (lt-leb (suc m) l low) (omega arith))

passes_count : (m lowest : ℕ) (xs : List Item) → 1 ≤ lowest → passes_reverse m lowest xs ≡ sum_of (up_to m lowest) xs
unfolding passes_reverse up_to reaches
passes_count zero lowest xs some = sym (sum_none (up_to zero lowest) xs (every_one _ xs (λ x. omega arith)))
passes_count (suc m) lowest xs some =
    by_order lowest (suc m)
    (λ within.
    let first : pass_reverses (suc m) [] xs ≡ 0 + sum_of (reaches (suc m)) xs = pass_counts (suc m) [] xs in
    let moved : sum_of (up_to m lowest) (pass (suc m) [] xs) ≡ 0 + sum_of (up_to m lowest) xs = sum_pass (up_to m lowest) (suc m) [] xs in
    let rest : passes_reverse m lowest (pass (suc m) [] xs) ≡ sum_of (up_to m lowest) (pass (suc m) [] xs) = passes_count m lowest (pass (suc m) [] xs) some in
    let both : sum_of (λ (x : Item). reaches (suc m) x + up_to m lowest x) xs ≡ sum_of (reaches (suc m)) xs + sum_of (up_to m lowest) xs = sum_both (reaches (suc m)) (up_to m lowest) xs in
    let all : sum_of (λ (x : Item). reaches (suc m) x + up_to m lowest x) xs ≡ sum_of (up_to (suc m) lowest) xs = sum_same (λ (x : Item). reaches (suc m) x + up_to m lowest x) (up_to (suc m) lowest) xs (every_one _ xs (λ x. one_more m lowest x.level within)) in
    rw (le-leb lowest (suc m) within) (omega arith))
    (λ past. rw (lt-leb lowest (suc m) past) (sym (sum_none (up_to (suc m) lowest) xs (every_one _ xs (λ x. omega arith)))))

-- ---- the passes of L2 begin at the highest level
whole : (lowest : ℕ) (xs : List Item) → sum_of (up_to (highest xs) lowest) xs ≡ slots lowest (levels_of xs)
unfolding up_to slots
whole lowest xs =
    sum_same (up_to (highest xs) lowest) (λ (x : Item). suc x.level - lowest) xs (every_then _ _ xs (λ x h. omega arith) (each_highest (highest xs) xs (omega arith)))
    ∙ sym (sum_map (λ (l : ℕ). suc l - lowest) (λ (x : Item). x.level) xs)

pub reverses_sum : (xs : List Item) → L2_reverses xs ≡ slots (lowest_odd (suc (highest xs)) xs) (levels_of xs)
unfolding L2_reverses
reverses_sum xs =
    passes_count (highest xs) (lowest_odd (suc (highest xs)) xs) xs (lowest_positive (suc (highest xs)) xs (omega arith))
    ∙ whole (lowest_odd (suc (highest xs)) xs) xs

-- no slot where no level reaches the lowest
pub slots_none : (lowest : ℕ) (xs : List Item) → highest xs < lowest → slots lowest (levels_of xs) ≡ 0
unfolding slots
slots_none lowest xs below =
    sum_map (λ (l : ℕ). suc l - lowest) (λ (x : Item). x.level) xs
    ∙ sum_none (λ (x : Item). suc x.level - lowest) xs (every_then _ _ xs (λ x h. omega arith) (each_highest (highest xs) xs (omega arith)))

pub counted : (xs : List Item) → Counted xs (L2_reverses xs)
counted xs =
    record {
      sum = reverses_sum xs;
      none = λ even.
          let low : lowest_odd (suc (highest xs)) xs ≡ suc (highest xs) = lowest_none (suc (highest xs)) xs even in
          reverses_sum xs ∙ slots_none (lowest_odd (suc (highest xs)) xs) xs (omega arith);
    }

-- where no level is above a limit, no more are reversed than the limit times the positions
pub reverses_most : (limit : ℕ) (xs : List Item) → highest xs ≤ limit → L2_reverses xs ≤ limit * length xs
unfolding slots
reverses_most limit xs high =
    let low : 1 ≤ lowest_odd (suc (highest xs)) xs = lowest_positive (suc (highest xs)) xs (omega arith) in
    let lowest : ℕ = lowest_odd (suc (highest xs)) xs in
    let most : sum_of (λ (x : Item). suc x.level - lowest) xs ≤ limit * length xs = sum_most (λ (x : Item). suc x.level - lowest) limit xs (every_then _ _ xs (λ x h. omega arith) (each_highest limit xs high)) in
    let is : L2_reverses xs ≡ sum_of (λ (x : Item). suc x.level - lowest) xs = reverses_sum xs ∙ sum_map (λ (l : ℕ). suc l - lowest) (λ (x : Item). x.level) xs in
    omega arith

-- ---- all lines
pub each_counted : (base : ℕ) (cs ls : List ℕ) (from : ℕ) (ends : List ℕ) → EachCounted base cs ls from ends (all_reversed base cs ls from ends)
unfolding all_reversed line_reversed
each_counted base cs ls from [] = refl
each_counted base cs ls from (to ∷ ends) =
    (line_reversed base cs ls from to, all_reversed base cs ls to ends, refl, counted (line_kept base cs ls from to), each_counted base cs ls to ends)
