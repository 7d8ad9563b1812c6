-- The passes over a list of numbers, each proved once over its step: a sweep goes from one to the next and carries
-- one value, a filling pass goes from stretch to stretch. Each has what holds at the loop's head as a record, and
-- laws over plain lists: begun, one step further, done.
-- Assumes nothing.
use Prim.Native.Nat.{ℕ, zero, suc, ◌+◌, ◌-◌, ◌≤◌, ◌<◌}
use native.Mathlib.Nat.{le_of_suc-le-suc, not-suc-le-zero}
use native.Mathlib.Omega.{arith}
use mathlib.Core.Bool.{Bool, true, false}
use mathlib.Core.Path.{◌≡◌, refl, sym, ap, ◌∙◌}
use mathlib.Core.Logic.{◌⊎◌, inl, inr}
use mathlib.Core.List.{List, [], ◌∷◌, ◌++◌, map, append-nil, append_assoc}
use lib.ListN.{length, get_or, take, drop, set, replicate, length-set, length-drop, length-replicate, drop_of_length-le}
use lib.Seq.{take_all, drop-nil, get_or-drop, drop-drop}
use borrow.Rule.Slice.PartMut.{mid_of, put_mid, same_len_mid, mid_len}
use Rattle.laws.specs.Choice.{head_or}
use Rattle.laws.specs.Stretches.{after_stretch, stretches, span}
use Rattle.laws.proofs.Lists.{take_set_next, drop_next, drop_set_next, take_put_end}

-- what comes first of what is left is what stands at that place
pub head_drop : (end : ℕ) (xs : List ℕ) (i : ℕ) → head_or end (drop i xs) ≡ get_or xs i end
head_drop end [] i = ap (head_or end) (drop-nil i)
head_drop end (x ∷ xs) zero = refl
head_drop end (x ∷ xs) (suc i) = head_drop end xs i

-- within the list it does not matter what would stand past its end
pub get_or_within : (xs : List ℕ) (i d e : ℕ) → i < length xs → get_or xs i d ≡ get_or xs i e
get_or_within [] i d e h = absurd (not-suc-le-zero h)
get_or_within (x ∷ xs) zero d e h = refl
get_or_within (x ∷ xs) (suc i) d e h = get_or_within xs i d e (le_of_suc-le-suc h)

-- ---- Sweeps

-- a number is written anew by the value carried, itself and the next one, `end` where there is none
unfoldable pub sweep : (ℕ → ℕ → ℕ → ℕ) → (ℕ → ℕ → ℕ) → ℕ → ℕ → List ℕ → List ℕ
sweep write carry end s [] = []
sweep write carry end s (t ∷ ts) = write s t (head_or end ts) ∷ sweep write carry end (carry s t) ts

pub length_sweep : (write : ℕ → ℕ → ℕ → ℕ) (carry : ℕ → ℕ → ℕ) (end s : ℕ) (ts : List ℕ) → length (sweep write carry end s ts) ≡ length ts
unfolding sweep
length_sweep write carry end s [] = refl
length_sweep write carry end s (t ∷ ts) = ap suc (length_sweep write carry end (carry s t) ts)

sweep_nil : (write : ℕ → ℕ → ℕ → ℕ) (carry : ℕ → ℕ → ℕ) (end s : ℕ) → sweep write carry end s [] ≡ []
unfolding sweep
sweep_nil write carry end s = refl

sweep_cons : (write : ℕ → ℕ → ℕ → ℕ) (carry : ℕ → ℕ → ℕ) (end s t : ℕ) (ts : List ℕ) → sweep write carry end s (t ∷ ts) ≡ write s t (head_or end ts) ∷ sweep write carry end (carry s t) ts
unfolding sweep
sweep_cons write carry end s t ts = refl

-- a map is a sweep that carries nothing
pub map_sweep : (f : ℕ → ℕ) (ts : List ℕ) → map f ts ≡ sweep (λ s t n. f t) (λ s t. s) 0 0 ts
unfolding sweep
map_sweep f [] = refl
map_sweep f (t ∷ ts) = ap (λ (r : List ℕ). f t ∷ r) (map_sweep f ts)

-- one number at every place is a sweep that writes it
pub replicate_sweep : (v : ℕ) (ts : List ℕ) → replicate (length ts) v ≡ sweep (λ s t n. v) (λ s t. s) 0 0 ts
unfolding sweep
replicate_sweep v [] = refl
replicate_sweep v (t ∷ ts) = ap (λ (r : List ℕ). v ∷ r) (replicate_sweep v ts)

sweep_next : (write : ℕ → ℕ → ℕ → ℕ) (carry : ℕ → ℕ → ℕ) (end : ℕ) (xs : List ℕ) (s i : ℕ) → i < length xs → sweep write carry end s (drop i xs) ≡ write s (get_or xs i 0) (get_or xs (i + 1) end) ∷ sweep write carry end (carry s (get_or xs i 0)) (drop (i + 1) xs)
sweep_next write carry end xs s i h =
    ap (sweep write carry end s) (drop_next xs i h)
    ∙ sweep_cons write carry end s (get_or xs i 0) (drop (i + 1) xs)
    ∙ ap (λ (n : ℕ). write s (get_or xs i 0) n ∷ sweep write carry end (carry s (get_or xs i 0)) (drop (i + 1) xs)) (head_drop end xs (i + 1))

-- `xs` is read and `out` written, both up to i: what is written, then the sweep over what is left, is the sweep over all
pub record Swept (write : ℕ → ℕ → ℕ → ℕ) (carry : ℕ → ℕ → ℕ) (end start : ℕ) (xs₀ xs out : List ℕ) (s i : ℕ) : Type 0 where
  pub within : i ≤ length xs₀
  pub read : length xs ≡ length xs₀
  pub written : length out ≡ length xs₀
  pub joined : take i out ++ sweep write carry end s (drop i xs) ≡ sweep write carry end start xs₀

module _ {write : ℕ → ℕ → ℕ → ℕ} {carry : ℕ → ℕ → ℕ} {end : ℕ} where
  module _ {start : ℕ} {xs₀ xs out : List ℕ} {s i v s' : ℕ} (now : Swept write carry end start xs₀ xs out s i) (below : i < length xs) (wrote : v ≡ write s (get_or xs i 0) (get_or xs (i + 1) end)) (carried : s' ≡ carry s (get_or xs i 0)) where
    joined_next : take (i + 1) (set out i v) ++ sweep write carry end s' (drop (i + 1) xs) ≡ sweep write carry end start xs₀
    joined_next =
        let room : i < length out = omega (arith, now.read, now.written) in
        take_set_next out i v (sweep write carry end s' (drop (i + 1) xs)) room
        ∙ ap (λ (r : List ℕ). take i out ++ r) (rw (wrote, carried) (sym (sweep_next write carry end xs s i below)))
        ∙ now.joined

    pub sweep_step : Swept write carry end start xs₀ xs (set out i v) s' (i + 1)
    sweep_step = record { within = omega (arith, now.read); read = now.read; written = length-set out i v ∙ now.written; joined = joined_next }

  -- in place: what is read is what is written
  pub sweep_step_in_place : {start : ℕ} {xs₀ xs : List ℕ} {s i v s' : ℕ} → Swept write carry end start xs₀ xs xs s i → i < length xs → v ≡ write s (get_or xs i 0) (get_or xs (i + 1) end) → s' ≡ carry s (get_or xs i 0) → Swept write carry end start xs₀ (set xs i v) (set xs i v) s' (i + 1)
  sweep_step_in_place {start} {xs₀} {xs} {s} {i} {v} {s'} now below wrote carried =
      let next : Swept write carry end start xs₀ xs (set xs i v) s' (i + 1) = sweep_step now below wrote carried in
      record { within = next.within; read = next.written; written = next.written; joined = rw (drop_set_next xs i v) next.joined }

  pub sweep_done : {start : ℕ} {xs₀ xs out : List ℕ} {s i : ℕ} → Swept write carry end start xs₀ xs out s i → length xs ≤ i → out ≡ sweep write carry end start xs₀
  sweep_done {start} {xs₀} {xs} {out} {s} {i} now past =
      let full : length out ≤ i = omega (arith, now.read, now.written) in
      sym (append-nil out)
      ∙ (rw (take_all i out full, drop_of_length-le xs past, sweep_nil write carry end s) at now.joined)

-- a list filled with one number: there is none, or the first place is written already
pub none_to_fill : (t : ℕ) (xs : List ℕ) → length xs ≡ 0 → xs ≡ replicate (length xs) t
none_to_fill t [] none = refl
none_to_fill t (x ∷ xs) none = absurd (omega arith)

pub first_filled : (t : ℕ) (xs : List ℕ) → (length xs ≡ 0 → ⊥) → Swept (λ s u n. t) (λ s u. s) 0 0 (set xs 0 t) (set xs 0 t) (set xs 0 t) 0 1
unfolding sweep
first_filled t [] some = absurd (some refl)
first_filled t (x ∷ xs) some = record { within = omega arith; read = refl; written = refl; joined = refl }

-- ---- Stretches

span_here : (test : ℕ → Bool) (t : ℕ) (ts : List ℕ) → test t ≡ true → span test (t ∷ ts) ≡ suc (span test ts)
unfolding span
span_here test t ts e = rw e

span_none : (test : ℕ → Bool) (t : ℕ) (ts : List ℕ) → test t ≡ false → span test (t ∷ ts) ≡ 0
unfolding span
span_none test t ts e = rw e

pub span_nil : (test : ℕ → Bool) → span test [] ≡ 0
unfolding span
span_nil test = refl

-- a case split on a test, for the laws below
pub by_test : {A : Type 0} (b : Bool) → (b ≡ true → A) → (b ≡ false → A) → A
by_test true holds fails = holds refl
by_test false holds fails = fails refl

-- a case split on the way that the code came, where two ways meet
pub by_way : {A B C : Type 0} → A ⊎ B → (A → C) → (B → C) → C
by_way (inl a) one other = one a
by_way (inr b) one other = other b

pub span_within : (test : ℕ → Bool) (ts : List ℕ) → span test ts ≤ length ts
span_within test [] = rw (span_nil test) (omega arith)
span_within test (t ∷ ts) =
    let rest : span test ts ≤ length ts = span_within test ts in
    by_test (test t) (λ holds. rw (span_here test t ts holds) (omega arith)) (λ fails. rw (span_none test t ts fails) (omega arith))

-- the search for a stretch's end: one place further where the test holds, there where it fails or nothing is left
pub span_further : (test : ℕ → Bool) (xs : List ℕ) (i : ℕ) → i < length xs → test (get_or xs i 0) ≡ true → i + span test (drop i xs) ≡ i + 1 + span test (drop (i + 1) xs)
span_further test xs i h holds =
    let e : span test (drop i xs) ≡ suc (span test (drop (i + 1) xs)) = rw (drop_next xs i h) (span_here test (get_or xs i 0) (drop (i + 1) xs) holds) in
    omega arith

pub span_there : (test : ℕ → Bool) (xs : List ℕ) (i : ℕ) → i < length xs → test (get_or xs i 0) ≡ false → i + span test (drop i xs) ≡ i
span_there test xs i h fails =
    let e : span test (drop i xs) ≡ 0 = rw (drop_next xs i h) (span_none test (get_or xs i 0) (drop (i + 1) xs) fails) in
    omega arith

pub span_past : (test : ℕ → Bool) (xs : List ℕ) (i : ℕ) → length xs ≤ i → i + span test (drop i xs) ≡ i
span_past test xs i h =
    let e : span test (drop i xs) ≡ 0 = rw (drop_of_length-le xs h) (span_nil test) in
    omega arith

-- a stretch ends within the list; one that begins at i, behind i
pub span_end : (test : ℕ → Bool) (xs : List ℕ) (i e : ℕ) → i ≤ length xs → e ≡ i + span test (drop i xs) → (i ≤ e) × (e ≤ length xs)
span_end test xs i e h is =
    let w : span test (drop i xs) ≤ length xs - i = rw (length-drop i xs) at (span_within test (drop i xs)) in
    (omega arith, omega arith)

pub span_found : (test : ℕ → Bool) (xs : List ℕ) (i e : ℕ) → i < length xs → test (get_or xs i 0) ≡ true → e ≡ i + span test (drop i xs) → (i < e) × (e ≤ length xs)
span_found test xs i e h holds is =
    let f : i + span test (drop i xs) ≡ i + 1 + span test (drop (i + 1) xs) = span_further test xs i h holds in
    (omega arith, (span_end test xs i e (omega arith) is).1)

after_here : (test : ℕ → Bool) (end t : ℕ) (ts : List ℕ) → test t ≡ true → after_stretch test end (t ∷ ts) ≡ after_stretch test end ts
unfolding after_stretch
after_here test end t ts e = rw e

after_none : (test : ℕ → Bool) (end t : ℕ) (ts : List ℕ) → test t ≡ false → after_stretch test end (t ∷ ts) ≡ t
unfolding after_stretch
after_none test end t ts e = rw e

after_nil : (test : ℕ → Bool) (end : ℕ) → after_stretch test end [] ≡ end
unfolding after_stretch
after_nil test end = refl

-- what stands after a stretch stands at its end
pub after_span : (test : ℕ → Bool) (end : ℕ) (ts : List ℕ) → after_stretch test end ts ≡ get_or ts (span test ts) end
after_span test end [] = after_nil test end
after_span test end (t ∷ ts) =
    by_test (test t)
    (λ holds. after_here test end t ts holds ∙ after_span test end ts ∙ ap (λ (n : ℕ). get_or (t ∷ ts) n end) (sym (span_here test t ts holds)))
    (λ fails. after_none test end t ts fails ∙ ap (λ (n : ℕ). get_or (t ∷ ts) n end) (sym (span_none test t ts fails)))

module _ (test : ℕ → Bool) (change : ℕ → ℕ → ℕ → ℕ) (end : ℕ) where
  pub stretches_nil : (before : ℕ) → stretches test change before end [] ≡ []
  unfolding stretches
  stretches_nil before = refl

  pub stretches_here : (before t : ℕ) (ts : List ℕ) → test t ≡ true → stretches test change before end (t ∷ ts) ≡ change before (after_stretch test end ts) t ∷ stretches test change before end ts
  unfolding stretches
  stretches_here before t ts e = rw e

  pub stretches_over : (before t : ℕ) (ts : List ℕ) → test t ≡ false → stretches test change before end (t ∷ ts) ≡ t ∷ stretches test change t end ts
  unfolding stretches
  stretches_over before t ts e = rw e

  pub length_stretches : (before : ℕ) (ts : List ℕ) → length (stretches test change before end ts) ≡ length ts
  length_stretches before [] = ap length (stretches_nil before)
  length_stretches before (t ∷ ts) =
      by_test (test t)
      (λ holds. ap length (stretches_here before t ts holds) ∙ ap suc (length_stretches before ts))
      (λ fails. ap length (stretches_over before t ts fails) ∙ ap suc (length_stretches t ts))

  -- where a change gives every type of the stretch the same one, the stretch is that type so many times
  pub filled : (before v : ℕ) (ts : List ℕ) → ((t : ℕ) → test t ≡ true → change before (after_stretch test end ts) t ≡ v) → stretches test change before end ts ≡ replicate (span test ts) v ++ stretches test change before end (drop (span test ts) ts)
  filled before v [] same = rw (span_nil test)
  filled before v (t ∷ ts) same =
      by_test (test t)
      (λ holds.
      stretches_here before t ts holds
      ∙ ap (λ (x : ℕ). x ∷ stretches test change before end ts) (ap (λ (n : ℕ). change before n t) (sym (after_here test end t ts holds)) ∙ same t holds)
      ∙ ap (λ (r : List ℕ). v ∷ r) (filled before v ts (λ u h. ap (λ (n : ℕ). change before n u) (sym (after_here test end t ts holds)) ∙ same u h))
      ∙ ap (λ (n : ℕ). replicate n v ++ stretches test change before end (drop n (t ∷ ts))) (sym (span_here test t ts holds)))
      (λ fails. rw (span_none test t ts fails))

-- what is left at i, where a stretch ends at e: what its change gives every number of it, so many times, and what is left at e
stretch_parted : (test : ℕ → Bool) (change : ℕ → ℕ → ℕ → ℕ) (end : ℕ) (xs : List ℕ) (before i e v : ℕ) → i ≤ e → e ≡ i + span test (drop i xs) → ((t : ℕ) → test t ≡ true → change before (get_or xs e end) t ≡ v) → stretches test change before end (drop i xs) ≡ replicate (e - i) v ++ stretches test change before end (drop e xs)
stretch_parted test change end xs before i e v h ends same =
    let size : span test (drop i xs) ≡ e - i = omega arith in
    let there : i + (e - i) ≡ e = omega arith in
    filled test change end before v (drop i xs) (λ t holds. ap (λ (n : ℕ). change before n t) (after_span test end (drop i xs) ∙ get_or-drop i xs (span test (drop i xs)) end ∙ ap (λ (n : ℕ). get_or xs n end) (sym ends)) ∙ same t holds)
    ∙ ap (λ (n : ℕ). replicate n v ++ stretches test change before end (drop n (drop i xs))) size
    ∙ ap (λ (r : List ℕ). replicate (e - i) v ++ stretches test change before end r) (drop-drop (e - i) i xs ∙ ap (λ (n : ℕ). drop n xs) there)

-- a second change of every number, one that keeps what stands outside the stretches, joins the first
pub map_stretches : (f : ℕ → ℕ) (test : ℕ → Bool) (change : ℕ → ℕ → ℕ → ℕ) (end : ℕ) → ((t : ℕ) → test t ≡ false → f t ≡ t) → (before : ℕ) (ts : List ℕ) → map f (stretches test change before end ts) ≡ stretches test (λ b n t. f (change b n t)) before end ts
map_stretches f test change end keeps before [] =
    ap (map f) (stretches_nil test change end before) ∙ sym (stretches_nil test (λ b n t. f (change b n t)) end before)
map_stretches f test change end keeps before (t ∷ ts) =
    by_test (test t)
    (λ holds.
    ap (map f) (stretches_here test change end before t ts holds)
    ∙ ap (λ (r : List ℕ). f (change before (after_stretch test end ts) t) ∷ r) (map_stretches f test change end keeps before ts)
    ∙ sym (stretches_here test (λ b n u. f (change b n u)) end before t ts holds))
    (λ fails.
    ap (map f) (stretches_over test change end before t ts fails)
    ∙ ap (λ (x : ℕ). x ∷ map f (stretches test change t end ts)) (keeps t fails)
    ∙ ap (λ (r : List ℕ). t ∷ r) (map_stretches f test change end keeps t ts)
    ∙ sym (stretches_over test (λ b n u. f (change b n u)) end before t ts fails))

-- ---- Stretches that are read from one list and written, changed once more, into another

map_fill : (f : ℕ → ℕ) (n v : ℕ) (rest : List ℕ) → map f (replicate n v ++ rest) ≡ replicate n (f v) ++ map f rest
map_fill f zero v rest = refl
map_fill f (suc n) v rest = ap (λ (r : List ℕ). f v ∷ r) (map_fill f n v rest)

-- what is written up to i, then what is to be written for what is left, is what is to be written for all
pub record Spread (f : ℕ → ℕ) (test : ℕ → Bool) (change : ℕ → ℕ → ℕ → ℕ) (end start : ℕ) (xs out : List ℕ) (before i : ℕ) : Type 0 where
  pub within : i ≤ length xs
  pub long : length out ≡ length xs
  pub joined : take i out ++ map f (stretches test change before end (drop i xs)) ≡ map f (stretches test change start end xs)

module _ {f : ℕ → ℕ} {test : ℕ → Bool} {change : ℕ → ℕ → ℕ → ℕ} {end : ℕ} where
  pub spread_begun : (start : ℕ) (xs out : List ℕ) → length out ≡ length xs → Spread f test change end start xs out start 0
  spread_begun start xs out same = record { within = omega arith; long = same; joined = refl }

  -- a type that fails the test is changed by f alone, and is the one before what follows
  pub spread_over : {start : ℕ} {xs out : List ℕ} {before i v : ℕ} → Spread f test change end start xs out before i → i < length xs → test (get_or xs i 0) ≡ false → v ≡ f (get_or xs i 0) → Spread f test change end start xs (set out i v) (get_or xs i 0) (i + 1)
  spread_over {start} {xs} {out} {before} {i} {v} now below fails wrote =
      let room : i < length out = omega (arith, now.long) in
      record {
        within = omega arith;
        long = length-set out i v ∙ now.long;
        joined =
            take_set_next out i v (map f (stretches test change (get_or xs i 0) end (drop (i + 1) xs))) room
            ∙ ap (λ (x : ℕ). take i out ++ (x ∷ map f (stretches test change (get_or xs i 0) end (drop (i + 1) xs)))) wrote
            ∙ ap (λ (r : List ℕ). take i out ++ map f r) (sym (stretches_over test change end before (get_or xs i 0) (drop (i + 1) xs) fails) ∙ ap (stretches test change before end) (sym (drop_next xs i below)))
            ∙ now.joined;
      }

  -- a stretch that begins at i and ends at e is filled by f of what its change gives every type of it
  module _ {start : ℕ} {xs out ys : List ℕ} {before i e u v : ℕ} (now : Spread f test change end start xs out before i) (ends : e ≡ i + span test (drop i xs)) (same : (t : ℕ) → test t ≡ true → change before (get_or xs e end) t ≡ u) (wrote : v ≡ f u) (fill : ys ≡ replicate (length (mid_of i (e - i) out)) v) where
    spread_bounds : (i ≤ e) × (e ≤ length xs)
    spread_bounds = span_end test xs i e now.within ends

    spread_room : e ≤ length out
    spread_room = omega (arith, spread_bounds, now.long)

    spread_fill : ys ≡ replicate (e - i) (f u)
    spread_fill = fill ∙ ap (λ (n : ℕ). replicate n v) (mid_len i e out spread_room) ∙ ap (replicate (e - i)) wrote

    spread_length : length ys ≡ e - i
    spread_length = ap length spread_fill ∙ length-replicate (e - i) (f u)

    spread_rest : ys ++ map f (stretches test change before end (drop e xs)) ≡ map f (stretches test change before end (drop i xs))
    spread_rest =
        ap (λ (r : List ℕ). r ++ map f (stretches test change before end (drop e xs))) spread_fill
        ∙ sym (map_fill f (e - i) u (stretches test change before end (drop e xs)))
        ∙ ap (map f) (sym (stretch_parted test change end xs before i e u spread_bounds.0 ends same))

    pub spread_filled : Spread f test change end start xs (put_mid i (e - i) out ys) before e
    spread_filled =
        record {
          within = spread_bounds.1;
          long = same_len_mid i (e - i) out ys (spread_length ∙ sym (mid_len i e out spread_room)) ∙ now.long;
          joined =
              ap (λ (r : List ℕ). r ++ map f (stretches test change before end (drop e xs))) (take_put_end out ys i e spread_bounds.0 spread_room spread_length)
              ∙ append_assoc (take i out) ys (map f (stretches test change before end (drop e xs)))
              ∙ ap (λ (r : List ℕ). take i out ++ r) spread_rest
              ∙ now.joined;
        }

  pub spread_done : {start : ℕ} {xs out : List ℕ} {before i : ℕ} → Spread f test change end start xs out before i → length xs ≤ i → out ≡ map f (stretches test change start end xs)
  spread_done {start} {xs} {out} {before} {i} now past =
      let full : length out ≤ i = omega (arith, now.long) in
      sym (append-nil out)
      ∙ (rw (take_all i out full, drop_of_length-le xs past, stretches_nil test change end before) at now.joined)
