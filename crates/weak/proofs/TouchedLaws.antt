-- Types that no rule asks for stay as they are, whatever stands before and behind them.
-- Assumes nothing.
use Prim.Native.Nat.{ℕ, zero, suc, ◌+◌, ◌-◌, ◌≤◌, ◌<◌}
use native.Mathlib.Omega.{arith}
use mathlib.Core.Bool.{Bool, true, false}
use mathlib.Core.Path.{◌≡◌, refl, sym, ap, ap₂, ◌∙◌}
use mathlib.Core.List.{List, [], ◌∷◌, ◌++◌}
use borrow.Author.Tests.{eqb-true}
use lib.Dec.{eqb}
use lib.ListN.{length, get_or, take, drop, take-append-drop, drop_of_length-le}
use lib.Seq.{drop-drop, length-take-le}
use Rattle.std.proofs.lemmas.List.{drop-take}
use Rattle.laws.specs.Choice.{head_or}
use Rattle.rules.specs.Classes.{AL, EN, ES, ET, CS, NSM}
use Rattle.laws.specs.Stretches.{after_stretch, stretches}
use Rattle.rules.specs.Weak.{W1, W2, W3, W4, W5, W6, W7, change_W1, change_W2, strong_W2, change_W3, change_W4, change_W5, change_W6, change_W7, strong_W7, is_terminator, weak}
use Rattle.laws.specs.Any.{any_of}
use Rattle.laws.proofs.Any.{none_first}
use Rattle.laws.proofs.Passes.{by_test, head_drop}
use Rattle.weak.specs.Touched.{is_touched}

-- what a type is not that no rule asks for
record Untouched (t : ℕ) : Type 0 where
  no_al : eqb t AL ≡ false
  no_en : eqb t EN ≡ false
  no_es : eqb t ES ≡ false
  no_et : eqb t ET ≡ false
  no_cs : eqb t CS ≡ false
  no_nsm : eqb t NSM ≡ false

-- a type that is not touched is none that is
apart : (t k : ℕ) → is_touched t ≡ false → is_touched k ≡ true → eqb t k ≡ false
apart t k e f =
    by_test (eqb t k)
    (λ same. let is : t ≡ k = eqb-true t k same in let z : true ≡ false = rw (is, f) at e in let n : ◌≡◌ {A = ℕ} 0 1 = cc in absurd (omega arith))
    (λ other. other)

untouched : (t : ℕ) → is_touched t ≡ false → Untouched t
unfolding is_touched
untouched t e =
    record { no_al = apart t AL e refl; no_en = apart t EN e refl; no_es = apart t ES e refl; no_et = apart t ET e refl; no_cs = apart t CS e refl; no_nsm = apart t NSM e refl }

first : (t : ℕ) (ts : List ℕ) → any_of is_touched (t ∷ ts) ≡ false → Untouched t
first t ts none = untouched t (none_first is_touched t ts none).0

others : (t : ℕ) (ts : List ℕ) → any_of is_touched (t ∷ ts) ≡ false → any_of is_touched ts ≡ false
others t ts none = (none_first is_touched t ts none).1

W1_untouched : (before : ℕ) (ts : List ℕ) → any_of is_touched ts ≡ false → W1 before ts ≡ ts
unfolding W1 change_W1
W1_untouched before [] none = refl
W1_untouched before (t ∷ ts) none = rw (first t ts none).no_nsm (ap (λ (r : List ℕ). t ∷ r) (W1_untouched t ts (others t ts none)))

W2_untouched : (strong : ℕ) (ts : List ℕ) → any_of is_touched ts ≡ false → W2 strong ts ≡ ts
unfolding W2 change_W2
W2_untouched strong [] none = refl
W2_untouched strong (t ∷ ts) none = rw (first t ts none).no_en (ap (λ (r : List ℕ). t ∷ r) (W2_untouched (strong_W2 strong t) ts (others t ts none)))

W3_untouched : (ts : List ℕ) → any_of is_touched ts ≡ false → W3 ts ≡ ts
unfolding W3 change_W3
W3_untouched [] none = refl
W3_untouched (t ∷ ts) none = rw (first t ts none).no_al (ap (λ (r : List ℕ). t ∷ r) (W3_untouched ts (others t ts none)))

W4_untouched : (before eor : ℕ) (ts : List ℕ) → any_of is_touched ts ≡ false → W4 before eor ts ≡ ts
unfolding W4 change_W4
W4_untouched before eor [] none = refl
W4_untouched before eor (t ∷ ts) none = rw ((first t ts none).no_es, (first t ts none).no_cs) (ap (λ (r : List ℕ). t ∷ r) (W4_untouched t eor ts (others t ts none)))

W5_untouched : (before eor : ℕ) (ts : List ℕ) → any_of is_touched ts ≡ false → W5 before eor ts ≡ ts
unfolding W5 stretches is_terminator
W5_untouched before eor [] none = refl
W5_untouched before eor (t ∷ ts) none = rw (first t ts none).no_et (ap (λ (r : List ℕ). t ∷ r) (W5_untouched t eor ts (others t ts none)))

W6_untouched : (ts : List ℕ) → any_of is_touched ts ≡ false → W6 ts ≡ ts
unfolding W6 change_W6
W6_untouched [] none = refl
W6_untouched (t ∷ ts) none = rw ((first t ts none).no_es, (first t ts none).no_et, (first t ts none).no_cs) (ap (λ (r : List ℕ). t ∷ r) (W6_untouched ts (others t ts none)))

W7_untouched : (strong : ℕ) (ts : List ℕ) → any_of is_touched ts ≡ false → W7 strong ts ≡ ts
unfolding W7 change_W7
W7_untouched strong [] none = refl
W7_untouched strong (t ∷ ts) none = rw (first t ts none).no_en (ap (λ (r : List ℕ). t ∷ r) (W7_untouched (strong_W7 strong t) ts (others t ts none)))

-- ---- behind the last type that a rule asks for all stays, and is seen from before it only by its first type
module _ (ys : List ℕ) (none : any_of is_touched ys ≡ false) where
  W1_front : (before : ℕ) (xs : List ℕ) → W1 before (xs ++ ys) ≡ W1 before xs ++ ys
  unfolding W1
  W1_front before [] = W1_untouched before ys none
  W1_front before (x ∷ xs) = ap (λ (r : List ℕ). change_W1 before x ∷ r) (W1_front (change_W1 before x) xs)

  W2_front : (strong : ℕ) (xs : List ℕ) → W2 strong (xs ++ ys) ≡ W2 strong xs ++ ys
  unfolding W2
  W2_front strong [] = W2_untouched strong ys none
  W2_front strong (x ∷ xs) = ap (λ (r : List ℕ). change_W2 strong x ∷ r) (W2_front (strong_W2 strong x) xs)

  W3_front : (xs : List ℕ) → W3 (xs ++ ys) ≡ W3 xs ++ ys
  unfolding W3
  W3_front [] = W3_untouched ys none
  W3_front (x ∷ xs) = ap (λ (r : List ℕ). change_W3 x ∷ r) (W3_front xs)

  head_front : (eor : ℕ) (xs : List ℕ) → head_or eor (xs ++ ys) ≡ head_or (head_or eor ys) xs
  head_front eor [] = refl
  head_front eor (x ∷ xs) = refl

  W4_front : (before eor : ℕ) (xs : List ℕ) → W4 before eor (xs ++ ys) ≡ W4 before (head_or eor ys) xs ++ ys
  unfolding W4
  W4_front before eor [] = W4_untouched before eor ys none
  W4_front before eor (x ∷ xs) =
      ap₂ (λ (n : ℕ) (r : List ℕ). change_W4 before x n ∷ r) (head_front eor xs) (W4_front x eor xs)

  after_none : (eor : ℕ) → after_stretch is_terminator eor ys ≡ head_or eor ys
  unfolding after_stretch is_terminator
  after_none eor = by ys none
    where
      by : (zs : List ℕ) → any_of is_touched zs ≡ false → after_stretch is_terminator eor zs ≡ head_or eor zs
      by [] n = refl
      by (z ∷ zs) n = rw (first z zs n).no_et

  after_front : (eor : ℕ) (xs : List ℕ) → after_stretch is_terminator eor (xs ++ ys) ≡ after_stretch is_terminator (head_or eor ys) xs
  unfolding after_stretch
  after_front eor [] = after_none eor
  after_front eor (x ∷ xs) = by_test (is_terminator x) (λ e. rw e (after_front eor xs)) (λ e. rw e)

  W5_front : (before eor : ℕ) (xs : List ℕ) → W5 before eor (xs ++ ys) ≡ W5 before (head_or eor ys) xs ++ ys
  unfolding W5 stretches
  W5_front before eor [] = W5_untouched before eor ys none
  W5_front before eor (x ∷ xs) =
      by_test (is_terminator x)
      (λ e. rw e (ap₂ (λ (n : ℕ) (r : List ℕ). change_W5 before n x ∷ r) (after_front eor xs) (W5_front before eor xs)))
      (λ e. rw e (ap (λ (r : List ℕ). x ∷ r) (W5_front x eor xs)))

  W6_front : (xs : List ℕ) → W6 (xs ++ ys) ≡ W6 xs ++ ys
  unfolding W6
  W6_front [] = W6_untouched ys none
  W6_front (x ∷ xs) = ap (λ (r : List ℕ). change_W6 x ∷ r) (W6_front xs)

  W7_front : (strong : ℕ) (xs : List ℕ) → W7 strong (xs ++ ys) ≡ W7 strong xs ++ ys
  unfolding W7
  W7_front strong [] = W7_untouched strong ys none
  W7_front strong (x ∷ xs) = ap (λ (r : List ℕ). change_W7 strong x ∷ r) (W7_front (strong_W7 strong x) xs)

  weak_front : (sor eor : ℕ) (xs : List ℕ) → weak sor eor (xs ++ ys) ≡ weak sor (head_or eor ys) xs ++ ys
  unfolding weak
  weak_front sor eor xs =
      rw (W1_front sor xs, W2_front sor (W1 sor xs), W3_front (W2 sor (W1 sor xs)), W4_front sor eor (W3 (W2 sor (W1 sor xs))), W5_front sor eor (W4 sor (head_or eor ys) (W3 (W2 sor (W1 sor xs)))), W6_front (W5 sor (head_or eor ys) (W4 sor (head_or eor ys) (W3 (W2 sor (W1 sor xs))))))
      (W7_front sor (W6 (W5 sor (head_or eor ys) (W4 sor (head_or eor ys) (W3 (W2 sor (W1 sor xs)))))))

-- where the end is the beginning
pub weak_of_none : (sor eor : ℕ) (ts : List ℕ) {end : ℕ} → any_of is_touched (drop end ts) ≡ false → end ≡ 0 → ts ≡ weak sor eor ts
unfolding weak W1 W2 W3 W4 W5 W6 W7 stretches
weak_of_none sor eor ts {end} none e =
    let all : any_of is_touched ts ≡ false = rw e at none in
    sym (weak_front ts all sor eor [])

-- the rules on the types up to an end, behind which none is touched, are the rules on all
pub weak_of_front : (sor eor : ℕ) (ts : List ℕ) (end : ℕ) {next : ℕ} {out : List ℕ} → any_of is_touched (drop end ts) ≡ false → next ≡ get_or ts end eor → out ≡ weak sor next (take end ts) → out ++ drop end ts ≡ weak sor eor ts
weak_of_front sor eor ts end {next} {out} none is made =
    let head : next ≡ head_or eor (drop end ts) = is ∙ sym (head_drop eor ts end) in
    ap (λ (r : List ℕ). r ++ drop end ts) (made ∙ ap (λ (n : ℕ). weak sor n (take end ts)) head)
    ∙ sym (weak_front (drop end ts) none sor eor (take end ts))
    ∙ ap (weak sor eor) (take-append-drop end ts)

-- none is touched from a place on, where none is at each place
pub none_touched : (ts : List ℕ) (from : ℕ) → ((k : ℕ) → from ≤ k → k < length ts → is_touched (get_or ts k 0) ≡ false) → any_of is_touched (drop from ts) ≡ false
unfolding any_of
none_touched [] zero none = refl
none_touched [] (suc from) none = refl
none_touched (t ∷ ts) zero none = rw (none 0 (omega arith) (omega arith)) (none_touched ts 0 (λ k above below. none (suc k) (omega arith) (omega arith)))
none_touched (t ∷ ts) (suc from) none = none_touched ts from (λ k above below. none (suc k) (omega arith) (omega arith))

-- ---- whole blocks, and what stands before them
-- none is in a list where none is in its front and none behind
none_both : (test : ℕ → Bool) (xs : List ℕ) (k : ℕ) → any_of test (take k xs) ≡ false → any_of test (drop k xs) ≡ false → any_of test xs ≡ false
unfolding any_of
none_both test xs zero front rest = rest
none_both test [] (suc k) front rest = refl
none_both test (x ∷ xs) (suc k) front rest =
    let first = none_first test x (take k xs) front in
    rw first.0 (none_both test xs k first.1 rest)

-- one block further towards the start
pub block_more : (ts : List ℕ) (at end : ℕ) → at ≤ end → end ≤ length ts → any_of is_touched (take (end - at) (drop at ts)) ≡ false → any_of is_touched (drop end ts) ≡ false → any_of is_touched (drop at ts) ≡ false
block_more ts at end h room here rest =
    let to : at + (end - at) ≡ end = omega arith in
    none_both is_touched (drop at ts) (end - at) here (rw (drop-drop (end - at) at ts, to) rest)

pub before_blocks : (ts : List ℕ) (begin r : ℕ) → begin ≤ length ts → r ≤ length (take begin ts) → any_of is_touched (drop r (take begin ts)) ≡ false → any_of is_touched (drop begin ts) ≡ false → any_of is_touched (drop r ts) ≡ false
before_blocks ts begin r room within here rest =
    let below : r ≤ begin = omega (arith, length-take-le begin ts room) in
    let to : r + (begin - r) ≡ begin = omega arith in
    let part : drop r (take begin ts) ≡ take (begin - r) (drop r ts) = ap (λ (n : ℕ). drop r (take n ts)) (sym to) ∙ drop-take r (begin - r) ts in
    block_more ts r begin below room (rw part at here) rest

-- behind the last place there is nothing
pub none_behind : (ts : List ℕ) (n : ℕ) → n ≡ length ts → any_of is_touched (drop n ts) ≡ false
unfolding any_of
none_behind ts n is = let none : drop n ts ≡ [] = drop_of_length-le ts (omega arith) in rw none
