-- The pairwise law over items of any levels: a pass reverses two items with respect to each other exactly where the
-- smallest level from one to the other, both counted, is at least the level of the pass. After the passes of L2 the
-- one earlier in memory stands to the left exactly where that smallest level is even.
-- Assumes nothing.
use Prim.Native.Nat.{ℕ, zero, suc, ◌+◌, ◌-◌, ◌≤◌, ◌<◌, ◌%◌}
use native.Mathlib.Omega.{arith}
use mathlib.Core.Bool.{Bool, true, false}
use mathlib.Core.Path.{◌≡◌, refl, sym, ap, subst, ◌∙◌}
use mathlib.Core.Logic.{◌⊎◌, inl, inr}
use mathlib.Core.List.{List, [], ◌∷◌, ◌++◌, reverse, append_assoc}
use lib.Dec.{ltb}
use borrow.Author.Tests.{ltb-true, eq-eqb, eqb-true, eqb-false}
use Rattle.laws.specs.Choice.{is_odd}
use Rattle.rules.specs.Line.{Item, passes, highest, lowest_odd, L2}
use Rattle.laws.proofs.Passes.{by_test}
use Rattle.pairwise.specs.Demand3.{least}
use Rattle.laws.proofs.Lists.{by_order}
use Rattle.laws.proofs.SumLaws.{one}
use Rattle.pairwise.proofs.Count.{count, stands_at, is_below, is_of, count_append, count_passes}
use Rattle.pairwise.proofs.Stretches.{passes_part, passes_turn, Parted, first_below, Begins, begins, Ends, ends}
use Rattle.pairwise.proofs.Sides.{Left, Turned, turned_between, turned_reversed}
use Rattle.rules.proofs.LowestLaws.{lowest_within, lowest_positive}
use Rattle.pairwise.proofs.Least.{levels, none_below, least_reached, least_found, at_most_highest, lowest_is_odd, lowest_reached}

-- the items from x to y, both counted
abbrev pub from_to : Item → List Item → Item → List Item
from_to x between y = x ∷ (between ++ (y ∷ []))

here : (x : Item) → one (stands_at x.position x) ≡ 1
here x = ap one (eq-eqb x.position x.position refl)

-- an item below the passes keeps what stands before it to the left of what stands behind it, and of itself
module _ (h n : ℕ) (xs : List Item) (b : Item) (ys : List Item) (low : b.level < n) where
  keeps_behind : (x y : ℕ) → 1 ≤ count (stands_at x) (xs ++ (b ∷ [])) → 1 ≤ count (stands_at y) ys → Left x y (passes h n (xs ++ (b ∷ ys)))
  keeps_behind x y first second =
      record {
        left = passes h n xs ++ (b ∷ []);
        right = passes h n ys;
        cut = passes_part h n xs b ys low ∙ sym (append_assoc (passes h n xs) (b ∷ []) (passes h n ys));
        first = omega (arith, count_append (stands_at x) (passes h n xs) (b ∷ []), count_append (stands_at x) xs (b ∷ []), count_passes (stands_at x) h n xs);
        second = omega (arith, count_passes (stands_at y) h n ys);
      }

  keeps_ahead : (x y : ℕ) → 1 ≤ count (stands_at x) xs → 1 ≤ count (stands_at y) (b ∷ ys) → Left x y (passes h n (xs ++ (b ∷ ys)))
  keeps_ahead x y first second =
      record {
        left = passes h n xs;
        right = b ∷ passes h n ys;
        cut = passes_part h n xs b ys low;
        first = omega (arith, count_passes (stands_at x) h n xs);
        second = omega (arith, count_passes (stands_at y) h n ys);
      }

-- an item below the passes among those from x to y: at x, at y, or between them
module _ (h n : ℕ) (us : List Item) (x : Item) (xs : List Item) (y : Item) (vs : List Item) where
  x_low : x.level < n → Left x.position y.position (passes h n (us ++ (from_to x xs y ++ vs)))
  x_low low =
      keeps_behind h n us x ((xs ++ (y ∷ [])) ++ vs) low x.position y.position
      (omega (arith, count_append (stands_at x.position) us (x ∷ []), here x))
      (omega (arith, count_append (stands_at y.position) (xs ++ (y ∷ [])) vs, count_append (stands_at y.position) xs (y ∷ []), here y))

  y_low : y.level < n → Left x.position y.position (passes h n (us ++ (from_to x xs y ++ vs)))
  y_low low =
      subst (λ (l : List Item). Left x.position y.position (passes h n l)) (simp append_assoc)
      (keeps_ahead h n (us ++ (x ∷ xs)) y vs low x.position y.position
      (omega (arith, count_append (stands_at x.position) us (x ∷ xs), here x))
      (omega (arith, here y)))

  between_low : Parted n xs → Left x.position y.position (passes h n (us ++ (from_to x xs y ++ vs)))
  between_low d =
      subst (λ (l : List Item). Left x.position y.position (passes h n l)) (rw d.joined (simp append_assoc))
      (keeps_ahead h n (us ++ (x ∷ d.ahead)) d.parts ((d.behind ++ (y ∷ [])) ++ vs) d.low x.position y.position
      (omega (arith, count_append (stands_at x.position) us (x ∷ d.ahead), here x))
      (omega (arith, count_append (stands_at y.position) (d.behind ++ (y ∷ [])) vs, count_append (stands_at y.position) d.behind (y ∷ []), here y)))

  -- below the passes, none reverses the two
  apart : least (levels (from_to x xs y)) < n → Left x.position y.position (passes h n (us ++ (from_to x xs y ++ vs)))
  apart less =
      by_test (ltb x.level n)
      (λ low. x_low (ltb-true x.level n low))
      (λ first. by_test (ltb y.level n) (λ low. y_low (ltb-true y.level n low)) (λ last. go first last (first_below n xs)))
    where
      go : ltb x.level n ≡ false → ltb y.level n ≡ false → (count (is_below n) xs ≡ 0) ⊎ ((d : Parted n xs) × (count (is_below n) d.ahead ≡ 0)) → Left x.position y.position (passes h n (us ++ (from_to x xs y ++ vs)))
      go first last (inl none) =
          let all : count (is_below n) (from_to x xs y) ≡ 0 = omega (arith, count_append (is_below n) xs (y ∷ []), ap one first, ap one last) in
          absurd (omega (arith, least_reached n x (xs ++ (y ∷ [])) all))
      go first last (inr (d, none)) = between_low d

-- at or below the smallest level the whole stretch around the two is reversed, and they with it
module _ (h n k x y : ℕ) (us xs vs : List Item) (some : 1 ≤ n) (within : n ≤ h) (high : count (is_below n) xs ≡ 0) (before : (us vs : List Item) → Turned k x y (passes h (suc n) (us ++ (xs ++ vs)))) where
  together : Turned (suc k) x y (passes h n (us ++ (xs ++ vs)))
  together =
      subst (Turned (suc k) x y) (sym around)
      (turned_between (suc k) x y b.outside (passes h n stretch) e.outside
      (subst (Turned (suc k) x y) (sym turn) (turned_reversed k x y (passes h (suc n) stretch) (before b.inside e.inside))))
    where
      b : Begins h n us
      b = begins h n us

      e : Ends h n vs
      e = ends h n vs

      stretch : List Item
      stretch = b.inside ++ (xs ++ e.inside)

      turn : passes h n stretch ≡ reverse (passes h (suc n) stretch)
      turn = passes_turn h n stretch some within (omega (arith, count_append (is_below n) b.inside (xs ++ e.inside), count_append (is_below n) xs e.inside, b.high, e.high))

      around : passes h n (us ++ (xs ++ vs)) ≡ b.outside ++ (passes h n stretch ++ e.outside)
      around =
          b.settled (xs ++ vs)
          ∙ ap (λ (l : List Item). b.outside ++ passes h n l) (sym (append_assoc b.inside xs vs))
          ∙ ap (λ (l : List Item). b.outside ++ l) (e.settled (b.inside ++ xs))
          ∙ ap (λ (l : List Item). b.outside ++ (passes h n l ++ e.outside)) (append_assoc b.inside xs e.inside)

-- the passes from h down to n reverse the two once for each number from n up to the smallest level between them
module _ (h : ℕ) (x : Item) (xs : List Item) (y : Item) (m : ℕ) (is : m ≡ least (levels (from_to x xs y))) (found : m ≤ h) where
  unturned : (n : ℕ) (us vs : List Item) → m < n → Turned (suc m - n) x.position y.position (passes h n (us ++ (from_to x xs y ++ vs)))
  unturned n us vs low =
      let none : 0 ≡ suc m - n = omega arith in
      subst (λ (k : ℕ). Turned k x.position y.position (passes h n (us ++ (from_to x xs y ++ vs)))) none
      (apart h n us x xs y vs (omega arith))

  turned : (j n : ℕ) → n + j ≡ suc h → 1 ≤ n → (us vs : List Item) → Turned (suc m - n) x.position y.position (passes h n (us ++ (from_to x xs y ++ vs)))
  turned zero n reach some us vs = unturned n us vs (omega arith)
  turned (suc j) n reach some us vs =
      by_order n m
      (λ high.
      let once_more : suc (suc m - suc n) ≡ suc m - n = omega arith in
      subst (λ (k : ℕ). Turned k x.position y.position (passes h n (us ++ (from_to x xs y ++ vs)))) once_more
      (together h n (suc m - suc n) x.position y.position us (from_to x xs y) vs some (omega arith)
      (none_below n x (xs ++ (y ∷ [])) (omega arith))
      (turned j (suc n) (omega arith) (omega arith))))
      (λ low. unturned n us vs low)

-- turned round an even number of times, or an odd one
turned_even : (k x y : ℕ) (xs : List Item) → k % 2 ≡ 0 → Turned k x y xs → Left x y xs
turned_even zero x y xs even t = t
turned_even (suc zero) x y xs even t = absurd (omega arith)
turned_even (suc (suc k)) x y xs even t = turned_even k x y xs (omega arith) t

turned_odd : (k x y : ℕ) (xs : List Item) → k % 2 ≡ 1 → Turned k x y xs → Left y x xs
turned_odd zero x y xs odd t = absurd (omega arith)
turned_odd (suc k) x y xs odd t = turned_even k y x xs (omega arith) t

L2_is : (ds : List Item) → L2 ds ≡ passes (highest ds) (lowest_odd (suc (highest ds)) ds) ds
unfolding L2
L2_is ds = refl

-- L2 keeps every item
pub count_L2 : (test : Item → Bool) (ds : List Item) → count test (L2 ds) ≡ count test ds
count_L2 test ds = ap (count test) (L2_is ds) ∙ count_passes test (highest ds) (lowest_odd (suc (highest ds)) ds) ds

-- ds are the items in memory order
module _ (ds us : List Item) (x : Item) (xs : List Item) (y : Item) (vs : List Item) (joined : ds ≡ us ++ (from_to x xs y ++ vs)) (m : ℕ) (is : m ≡ least (levels (from_to x xs y))) where
  held : 1 ≤ count (is_of m) ds
  held = rw joined (omega (arith, count_append (is_of m) us (from_to x xs y ++ vs), count_append (is_of m) (from_to x xs y) vs, least_found m x (xs ++ (y ∷ [])) is))

  found : m ≤ highest ds
  found = at_most_highest m ds held

  L2_turns : (n : ℕ) → n ≡ lowest_odd (suc (highest ds)) ds → Turned (suc m - n) x.position y.position (L2 ds)
  L2_turns n lowest =
      let reach : n + (suc (highest ds) - n) ≡ suc (highest ds) = omega (arith, lowest_within (suc (highest ds)) ds) in
      let some : 1 ≤ n = omega (arith, lowest_positive (suc (highest ds)) ds (omega arith)) in
      let order : passes (highest ds) n (us ++ (from_to x xs y ++ vs)) ≡ L2 ds = rw (← joined, lowest) (sym (L2_is ds)) in
      subst (Turned (suc m - n) x.position y.position) order
      (turned (highest ds) x xs y m is found (suc (highest ds) - n) n reach some us vs)

  pub even_left : is_odd m ≡ false → Left x.position y.position (L2 ds)
  even_left even =
      let not-odd : ¬ (m % 2 ≡ 1) = eqb-false (m % 2) 1 even in
      let n : ℕ = lowest_odd (suc (highest ds)) ds in
      let times : (suc m - n) % 2 ≡ 0 =
      by_order n m
      (λ reached. omega (arith, lowest_is_odd (suc (highest ds)) ds (omega (arith, found))))
      (λ none. omega arith)
      in
      turned_even (suc m - n) x.position y.position (L2 ds) times (L2_turns n refl)

  pub odd_right : is_odd m ≡ true → Left y.position x.position (L2 ds)
  odd_right odd =
      let odd_level : m % 2 ≡ 1 = eqb-true (m % 2) 1 odd in
      let n : ℕ = lowest_odd (suc (highest ds)) ds in
      let reached : n ≤ m = lowest_reached (suc (highest ds)) m ds odd_level held in
      let times : (suc m - n) % 2 ≡ 1 = omega (arith, lowest_is_odd (suc (highest ds)) ds (omega (arith, found))) in
      turned_odd (suc m - n) x.position y.position (L2 ds) times (L2_turns n refl)
