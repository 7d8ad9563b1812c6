-- The laws of putting levels back: how many positions are kept, and the walk from the last position to the first.
-- Assumes nothing.
use Rattle.std.specs.Prelude.{if◌then◌else◌}
use Prim.Native.Nat.{ℕ, zero, suc, ◌+◌, ◌-◌, ◌≤◌, ◌<◌}
use native.Mathlib.Nat.{le_of_suc-le-suc, not-suc-le-zero}
use native.Mathlib.Omega.{arith}
use mathlib.Core.Path.{◌≡◌, refl, sym, ap, ap₂, ◌∙◌}
use mathlib.Core.Bool.{Bool, true, false}
use mathlib.Core.List.{List, [], ◌∷◌, ◌++◌, append_assoc, tail}
use lib.ListN.{length, get_or, take, drop, set, length-take, length-set, take-append-drop}
use lib.Seq.{take-length, drop-length, take-set-le, take-take, get_or-take, get_or-set_same}
use Rattle.laws.specs.Choice.{head_or}
use Rattle.rules.specs.Classes.{is_removed}
use Rattle.rules.specs.Explicit.{removed_level, kept, put_back}
use Rattle.laws.proofs.Lists.{drop_next, drop_set_next, take_next}
use Rattle.laws.proofs.Passes.{by_test}

-- ---- how many are kept
unfoldable pub kept_in : List ℕ → ℕ
kept_in cs = length (kept cs cs)

pub kept_is : (cs : List ℕ) → kept_in cs ≡ length (kept cs cs)
unfolding kept_in
kept_is cs = refl

kept_none : kept_in [] ≡ 0
unfolding kept_in kept
kept_none = refl

pub kept_one : (c : ℕ) (cs : List ℕ) → kept_in (c ∷ cs) ≡ (if is_removed c then kept_in cs else suc (kept_in cs))
unfolding kept_in kept
kept_one c cs = by_test (is_removed c) (λ e. rw e) (λ e. rw e)

put_one : (c : ℕ) (cs xs : List ℕ) → put_back (c ∷ cs) xs ≡ (if is_removed c then removed_level ∷ put_back cs xs else head_or removed_level xs ∷ put_back cs (tail xs))
unfolding put_back
put_one c cs xs = refl

kept_append : (xs ys : List ℕ) → kept_in (xs ++ ys) ≡ kept_in xs + kept_in ys
kept_append [] ys = rw kept_none (omega arith)
kept_append (x ∷ xs) ys =
    let more : kept_in (xs ++ ys) ≡ kept_in xs + kept_in ys = kept_append xs ys in
    by_test (is_removed x)
    (λ e. rw (kept_one x (xs ++ ys), kept_one x xs, e) more)
    (λ e. rw (kept_one x (xs ++ ys), kept_one x xs, e) (omega arith))

pub kept_at_most : (cs : List ℕ) → kept_in cs ≤ length cs
kept_at_most [] = rw kept_none (omega arith)
kept_at_most (c ∷ cs) =
    let most : kept_in cs ≤ length cs = kept_at_most cs in
    by_test (is_removed c) (λ e. rw (kept_one c cs, e) (omega arith)) (λ e. rw (kept_one c cs, e) (omega arith))

kept_single : (c : ℕ) → kept_in (c ∷ []) ≡ (if is_removed c then 0 else 1)
kept_single c = kept_one c [] ∙ rw kept_none

module _ (cs : List ℕ) (i : ℕ) (h : i < length cs) where
  kept_next : kept_in (take (i + 1) cs) ≡ kept_in (take i cs) + (if is_removed (get_or cs i 0) then 0 else 1)
  kept_next = ap kept_in (take_next cs i h) ∙ kept_append (take i cs) (get_or cs i 0 ∷ []) ∙ rw kept_single

-- where all of the first i positions are kept, they hold the first i levels
all_kept : (i : ℕ) (cs xs : List ℕ) → i ≤ length cs → i ≤ length xs → kept_in (take i cs) ≡ i → put_back cs xs ≡ take i xs ++ put_back (drop i cs) (drop i xs)
all_kept zero cs xs h g e = refl
all_kept (suc i) [] xs h g e = absurd (not-suc-le-zero h)
all_kept (suc i) (c ∷ cs) [] h g e = absurd (not-suc-le-zero g)
all_kept (suc i) (c ∷ cs) (x ∷ xs) h g e = by (is_removed c) refl e (all_kept i cs xs (le_of_suc-le-suc h) (le_of_suc-le-suc g))
  where
    by :
        (b : Bool) → is_removed c ≡ b → kept_in (c ∷ take i cs) ≡ suc i
        → (kept_in (take i cs) ≡ i → put_back cs xs ≡ take i xs ++ put_back (drop i cs) (drop i xs))
        → put_back (c ∷ cs) (x ∷ xs) ≡ x ∷ (take i xs ++ put_back (drop i cs) (drop i xs))
    by true r k ih =
        let m : kept_in (take i cs) ≡ suc i = rw (kept_one, r) at k in
        let l : kept_in (take i cs) ≤ length (take i cs) = kept_at_most (take i cs) in
        absurd (omega (arith, length-take i cs))
    by false r k ih =
        let m : suc (kept_in (take i cs)) ≡ suc i = rw (kept_one, r) at k in
        rw (put_one, r) (ap (λ (ys : List ℕ). x ∷ ys) (ih (omega arith)))

-- ---- the walk: positions from i on have their levels, and the levels before i stand as they were packed
pub record Placing (cs ls₀ : List ℕ) (count : ℕ) (ls : List ℕ) (i j : ℕ) : Type 0 where
  pub within : i ≤ length cs
  pub room : length cs ≤ length ls₀
  pub long : length ls ≡ length ls₀
  pub packed : j ≤ count
  pub fits : count ≤ length cs
  pub left : j ≡ kept_in (take i cs)
  pub front : take i ls ≡ take i ls₀
  pub back : drop i ls ≡ put_back (drop i cs) (drop j (take count ls₀)) ++ drop (length cs) ls₀

pub placing_begun : (cs ls₀ : List ℕ) (count : ℕ) → count ≡ length (kept cs cs) → length cs ≤ length ls₀ → Placing cs ls₀ count ls₀ (length cs) count
unfolding put_back
placing_begun cs ls₀ count is h =
    let e : count ≡ kept_in cs = is ∙ sym (kept_is cs) in
    record {
      within = omega arith;
      room = h;
      long = refl;
      packed = omega arith;
      fits = omega (arith, kept_at_most cs);
      left = rw (take-length cs) e;
      front = refl;
      back = rw (drop-length cs);
    }

pub left_at_most : {cs ls₀ : List ℕ} {count : ℕ} {ls : List ℕ} {i j : ℕ} → Placing cs ls₀ count ls i j → j ≤ i
left_at_most {cs} {ls₀} {count} {ls} {i} {j} p =
    let l : kept_in (take i cs) ≤ length (take i cs) = kept_at_most (take i cs) in
    omega (arith, p.left, length-take i cs)

-- the code counts down: i is one more than i - 1
pub counted_down : {cs ls₀ : List ℕ} {count : ℕ} {ls : List ℕ} {i j : ℕ} → 0 < i → Placing cs ls₀ count ls i j → Placing cs ls₀ count ls (i - 1 + 1) j
counted_down {cs} {ls₀} {count} {ls} {i} {j} h p = let e : i - 1 + 1 ≡ i = omega arith in rw e p

-- one position back: i + 1 becomes i
module _ (cs ls₀ : List ℕ) (count : ℕ) (ls : List ℕ) (i j : ℕ) (p : Placing cs ls₀ count ls (i + 1) j) where
  inside : i < length cs
  inside = omega (arith, p.within)

  front_shorter : (v : ℕ) → take i (set ls i v) ≡ take i ls₀
  front_shorter v =
      let h : i ≤ i + 1 = omega arith in
      take-set-le i ls i v (omega arith)
      ∙ sym (take-take i (i + 1) ls h)
      ∙ ap (take i) p.front
      ∙ take-take i (i + 1) ls₀ h

  back_longer : (v : ℕ) → drop i (set ls i v) ≡ v ∷ (put_back (drop (i + 1) cs) (drop j (take count ls₀)) ++ drop (length cs) ls₀)
  back_longer v =
      let h : i < length ls = omega (arith, p.long, p.room, inside) in
      let g : i < length (set ls i v) = rw length-set h in
      drop_next (set ls i v) i g
      ∙ ap₂ (λ (x : ℕ) (xs : List ℕ). x ∷ xs) (get_or-set_same ls i v 0 h) (drop_set_next ls i v ∙ p.back)

  pub place_removed : is_removed (get_or cs i 0) ≡ true → Placing cs ls₀ count (set ls i removed_level) i j
  place_removed r =
      let k : kept_in (take (i + 1) cs) ≡ kept_in (take i cs) + 0 = kept_next cs i inside ∙ rw r in
      record {
        within = omega (arith, inside);
        room = p.room;
        long = length-set ls i removed_level ∙ p.long;
        packed = p.packed;
        fits = p.fits;
        left = omega (arith, p.left);
        front = front_shorter removed_level;
        back = back_longer removed_level ∙ sym (rw (drop_next cs i inside, put_one, r));
      }

  module _ (r : is_removed (get_or cs i 0) ≡ false) where
    one_more : j ≡ kept_in (take i cs) + 1
    one_more = p.left ∙ kept_next cs i inside ∙ rw r

    pub some_left : 1 ≤ j
    some_left = omega (arith, one_more)

    pub place_kept : Placing cs ls₀ count (set ls i (get_or ls (j - 1) 0)) i (j - 1)
    place_kept =
        let m : j ≤ i + 1 = left_at_most p in
        let packed : j - 1 < length (take count ls₀) = omega (arith, length-take count ls₀, one_more, p.packed, p.fits, p.room) in
        let same : get_or ls (j - 1) 0 ≡ get_or (take count ls₀) (j - 1) 0 =
        sym (get_or-take (i + 1) ls (j - 1) 0 (omega (arith, one_more)))
        ∙ ap (λ (xs : List ℕ). get_or xs (j - 1) 0) p.front
        ∙ get_or-take (i + 1) ls₀ (j - 1) 0 (omega (arith, one_more))
        ∙ sym (get_or-take count ls₀ (j - 1) 0 (omega (arith, one_more, p.packed))) in
        let back_one : j - 1 + 1 ≡ j = omega (arith, one_more) in
        record {
          within = omega (arith, inside);
          room = p.room;
          long = length-set ls i (get_or ls (j - 1) 0) ∙ p.long;
          packed = omega (arith, p.packed);
          fits = p.fits;
          left = omega (arith, one_more);
          front = front_shorter (get_or ls (j - 1) 0);
          back =
              back_longer (get_or ls (j - 1) 0)
              ∙ rw (same, drop_next cs i inside, put_one, r, drop_next (take count ls₀) (j - 1) packed, back_one);
        }

pub placing_done : (cs ls₀ : List ℕ) (count : ℕ) (ls : List ℕ) (i j : ℕ) → Placing cs ls₀ count ls i j → i ≤ j → ls ≡ put_back cs (take count ls₀) ++ drop (length cs) ls₀
placing_done cs ls₀ count ls i j p h =
    let m : j ≤ i = left_at_most p in
    let same : j ≡ i = omega arith in
    let few : i ≤ count = omega (arith, p.packed) in
    let long : i ≤ length (take count ls₀) = omega (arith, length-take count ls₀, p.fits, p.room) in
    sym (take-append-drop i ls)
    ∙ ap₂ (λ (xs ys : List ℕ). xs ++ ys) (p.front ∙ sym (take-take i count ls₀ few)) (p.back ∙ rw same)
    ∙ sym (append_assoc (take i (take count ls₀)) (put_back (drop i cs) (drop i (take count ls₀))) (drop (length cs) ls₀))
    ∙ ap (λ (xs : List ℕ). xs ++ drop (length cs) ls₀)
    (sym (all_kept i cs (take count ls₀) p.within long (omega (arith, p.left))))
