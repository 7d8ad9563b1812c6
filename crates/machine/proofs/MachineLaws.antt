-- The machine's struct against the rules' state: what each way of stepping does, over plain lists. Assumes nothing.
use Rattle.std.specs.Prelude.{if◌then◌else◌}
use Prim.Native.Nat.{ℕ, zero, suc, ◌+◌, ◌-◌, ◌%◌, ◌≤◌, ◌<◌, zero-le}
use native.Mathlib.Numerals.{add-one}
use native.Mathlib.Omega.{arith}
use mathlib.Core.Path.{◌≡◌, refl, sym, ap, subst, ◌∙◌}
use mathlib.Core.Logic.{◌⊎◌, inl, inr, ∥∥₁_elim, ∥∥₁_map}
use mathlib.Core.HLevel.{×_prop}
use native.Mathlib.Bridge.{le_prop}
use native.Mathlib.Nat.{ℕ_set}
use mathlib.Core.List.{List, ◌∷◌, ◌++◌, tail}
use mathlib.Core.Bool.{true, false}
use Rattle.std.proofs.lemmas.Bool.Decides.{nat_tests}
use borrow.Author.Tests.{eqb-true, eq-eqb, ne_eqb, le-leb, lt-leb}
use lib.Dec.{eqb}
use lib.ListN.{length, get_or, set, replicate, length-set}
use lib.Seq.{get_or-set_same, get_or-set_other}
use Rattle.laws.proofs.Lists.{le_or_lt}
use Rattle.rules.specs.Explicit.{State, Entry, valid, invalid, neutral, X1, after, opens_valid, opens_invalid, closes_valid, closes_invalid, closing, opening, plain, least_greater_odd, least_greater_even, X2, X3, X4, X5, X7, verdict, step, highest_explicit}
use Rattle.laws.proofs.Passes.{by_test}
use Rattle.laws.proofs.Tests.{tests, not_both}
use Rattle.rules.specs.Classes.{PDF, RLE, RLO, is_opening}
use Rattle.machine.specs.declared.Machine.{Machine}
use Rattle.machine.specs.declared.Pair.{Pair}
use Rattle.machine.specs.declared.Verdict.{Verdict}
use Rattle.machine.specs.declared.Verdict.TheVariants.{OpensValid, OpensInvalid, ClosesValid, ClosesInvalid, ClosesNothing, Plain}
use Rattle.machine.specs.Asked.{level_asked, override_asked}
use Rattle.machine.specs.Steps.{Shown, Recounted, Judged}
use Rattle.machine.specs.Meaning.{invalid_at, remembered, remembered_by, invalid_here, meaning, verdict_of}
use Rattle.machine.specs.Fields.{next_to_highest, Falls, none, more, Only61, Only60, SoundFields}
use Rattle.machine.specs.Sound.{Sound, counts, Stands}

-- what the ghost field says of a machine

falls_next : {levels : List ℕ} {l d : ℕ} → Falls levels l (suc d) → (get_or levels d 0 < l) × Falls levels (get_or levels d 0) d
falls_next (more h f) = (h, f)

falls_told : (levels : List ℕ) (l d : ℕ) → ∥ Falls levels l d ∥₁ → Falls levels l d
falls_told levels l zero t = none
falls_told levels l (suc d) t =
    more (∥∥₁_elim t le_prop (λ f. (falls_next f).0)) (falls_told levels (get_or levels d 0) d (∥∥₁_map t (λ f. (falls_next f).1)))

only61_told : (n l : ℕ) → ∥ Only61 n l ∥₁ → Only61 n l
only61_told zero l t = inl refl
only61_told (suc n) l t = inr (∥∥₁_elim t (ℕ_set _ _) at)
  where
    at : Only61 (suc n) l → l ≡ highest_explicit
    at (inl e) = absurd (omega arith)
    at (inr e) = e

only60_told : (n l last : ℕ) → ∥ Only60 n l last ∥₁ → Only60 n l last
only60_told zero l last t = inl refl
only60_told (suc n) l last t =
    by_test (eqb l next_to_highest) (λ e. inr (inl (eqb-true l next_to_highest e))) (λ e. inr (inr (∥∥₁_elim t (×_prop (ℕ_set _ _) (ℕ_set _ _)) (at e))))
  where
    at : eqb l next_to_highest ≡ false → Only60 (suc n) l last → (l ≡ highest_explicit) × (last ≡ next_to_highest)
    at e (inl f) = absurd (omega arith)
    at e (inr (inl f)) = absurd (not_both (eq-eqb l next_to_highest f) e)
    at e (inr (inr f)) = f

pub sound_of : (m : Machine) → Sound m
sound_of m =
    record {
      levels = ∥∥₁_elim m.sound (ℕ_set _ _) (λ s. s.levels);
      overrides = ∥∥₁_elim m.sound (ℕ_set _ _) (λ s. s.overrides);
      depth = ∥∥₁_elim m.sound le_prop (λ s. s.depth);
      level = ∥∥₁_elim m.sound le_prop (λ s. s.level);
      falls = falls_told m.levels m.level m.depth (∥∥₁_map m.sound (λ s. s.falls));
      only61 = only61_told m.invalid61 m.level (∥∥₁_map m.sound (λ s. s.only61));
      only60 = only60_told m.invalid60 m.level _ (∥∥₁_map m.sound (λ s. s.only60));
    }

-- the invalid codes at a level

invalid_at_61 : (n60 n61 : ℕ) {l : ℕ} → l ≡ highest_explicit → invalid_at n60 n61 l ≡ n61
unfolding invalid_at
invalid_at_61 n60 n61 e = ap (invalid_at n60 n61) e

invalid_at_60 : (n60 n61 : ℕ) {l : ℕ} → l ≡ next_to_highest → invalid_at n60 n61 l ≡ n60
unfolding invalid_at
invalid_at_60 n60 n61 e = ap (invalid_at n60 n61) e

invalid_at_below : (n60 n61 : ℕ) {l : ℕ} → l < next_to_highest → invalid_at n60 n61 l ≡ 0
unfolding invalid_at
invalid_at_below n60 n61 {l} h = grind (arith, nat_tests)

-- below 61 the count at 61 does not bear, below 60 that at 60 neither
below_61 : (n60 n61 m61 k : ℕ) → k < highest_explicit → invalid_at n60 n61 k ≡ invalid_at n60 m61 k
unfolding invalid_at
below_61 n60 n61 m61 k h = grind (arith, nat_tests)

below_60 : (n60 n61 m60 k : ℕ) → k < next_to_highest → invalid_at n60 n61 k ≡ invalid_at m60 n61 k
below_60 n60 n61 m60 k h = invalid_at_below n60 n61 h ∙ sym (invalid_at_below m60 n61 h)

-- above its level a machine counts none
module _ (m : Machine) where
  none_at_61 : m.level < highest_explicit → m.invalid61 ≡ 0
  none_at_61 h = go (sound_of m).only61
    where
      go : Only61 m.invalid61 m.level → m.invalid61 ≡ 0
      go (inl e) = e
      go (inr e) = absurd (omega arith)

  none_at_60 : m.level < next_to_highest → m.invalid60 ≡ 0
  none_at_60 h = go (sound_of m).only60
    where
      go : Only60 m.invalid60 m.level (get_or m.levels (m.depth - 1) 0) → m.invalid60 ≡ 0
      go (inl e) = e
      go (inr (inl e)) = absurd (omega arith)
      go (inr (inr e)) = absurd (omega arith)

  none_above : (new : ℕ) → m.level < new → new ≤ highest_explicit → invalid_at m.invalid60 m.invalid61 new ≡ 0
  none_above new h k = go (le_or_lt next_to_highest new) (le_or_lt highest_explicit new)
    where
      go : (next_to_highest ≤ new) ⊎ (new < next_to_highest) → (highest_explicit ≤ new) ⊎ (new < highest_explicit) → invalid_at m.invalid60 m.invalid61 new ≡ 0
      go a (inl e) = invalid_at_61 _ _ (omega arith) ∙ none_at_61 (omega arith)
      go (inl d) (inr e) = invalid_at_60 _ _ (omega arith) ∙ none_at_60 (omega arith)
      go (inr d) (inr e) = invalid_at_below _ _ d

-- the remembered pairs

-- levels that fall from at most 61 are at most 61
pub falls_depth : {levels : List ℕ} {l d : ℕ} → Falls levels l d → d ≤ l
falls_depth none = zero-le
falls_depth (more h f) = let b = falls_depth f in omega arith

falls_last : (levels : List ℕ) (l d : ℕ) → 0 < d → Falls levels l d
    → (get_or levels (d - 1) 0 < l) × Falls levels (get_or levels (d - 1) 0) (d - 1)
falls_last levels l d h f =
    let e : d ≡ suc (d - 1) = omega arith in
    falls_next (subst (λ (n : ℕ). Falls levels l n) e f)

falls_set : {levels : List ℕ} {l d : ℕ} (k x : ℕ) → d ≤ k → Falls levels l d → Falls (set levels k x) l d
falls_set k x h none = none
falls_set {levels} k x h (more {level = l} {d = d} b f) =
    let e : get_or (set levels k x) d 0 ≡ get_or levels d 0 = get_or-set_other levels k d x 0 (omega arith) in
    more {level = l} {d = d} (rw e b) (rw e (falls_set k x (omega arith) f))

remembered_last : (levels overrides : List ℕ) (n60 n61 d : ℕ) → 0 < d
    → remembered levels overrides n60 n61 d ≡ valid (get_or levels (d - 1) 0) (get_or overrides (d - 1) 0) ∷ (replicate (invalid_at n60 n61 (get_or levels (d - 1) 0)) invalid ++ remembered levels overrides n60 n61 (d - 1))
unfolding remembered
remembered_last levels overrides n60 n61 zero h = absurd (omega arith)
remembered_last levels overrides n60 n61 (suc d) h = let e : suc d - 1 ≡ d = omega arith in rw e refl

-- what is written behind the remembered pairs does not bear on them
remembered_set : (levels overrides : List ℕ) (n60 n61 k x y d : ℕ) → d ≤ k
    → remembered (set levels k x) (set overrides k y) n60 n61 d ≡ remembered levels overrides n60 n61 d
unfolding remembered
remembered_set levels overrides n60 n61 k x y zero h = refl
remembered_set levels overrides n60 n61 k x y (suc d) h =
    rw (get_or-set_other levels k d x 0 (omega arith), get_or-set_other overrides k d y 0 (omega arith), remembered_set levels overrides n60 n61 k x y d (omega arith))

-- counts that agree below a level agree on all that is remembered there
remembered_counts : {levels : List ℕ} {l d : ℕ} (overrides : List ℕ) (n60 n61 m60 m61 : ℕ) → Falls levels l d
    → ((k : ℕ) → k < l → invalid_at n60 n61 k ≡ invalid_at m60 m61 k)
    → remembered levels overrides n60 n61 d ≡ remembered levels overrides m60 m61 d
unfolding remembered
remembered_counts overrides n60 n61 m60 m61 none same = refl
remembered_counts {levels} overrides n60 n61 m60 m61 (more {d = d} b f) same =
    rw (same (get_or levels d 0) b, remembered_counts overrides n60 n61 m60 m61 f (λ k h. same k (omega arith)))

-- X1

abbrev begun : (base : ℕ) → ∥ SoundFields (replicate highest_explicit 0) (replicate highest_explicit 0) 0 base 0 0 ∥₁ → Machine
begun base s = record {
  levels = replicate highest_explicit 0;
  overrides = replicate highest_explicit 0;
  depth = 0;
  level = base;
  over = neutral;
  invalid60 = 0;
  invalid61 = 0;
  sound = s;
}

pub begun_sound : {base : ℕ} → base ≤ 1 → ∥ SoundFields (replicate highest_explicit 0) (replicate highest_explicit 0) 0 base 0 0 ∥₁
begun_sound h = ∣ record {
  levels = refl;
  overrides = refl;
  depth = zero-le;
  level = omega arith;
  falls = none;
  only61 = inl refl;
  only60 = inl refl;
} ∣₁

pub begun_stands : (base : ℕ) (s : _) → base ≤ 1 → Stands (begun base s) (X1 base) 0
unfolding X1 remembered
begun_stands base s h =
    let low : base < next_to_highest = omega arith in
    record { state = rw (invalid_at_below 0 0 low) refl; counted = zero-le }

-- a valid code: the pair is remembered

pub room : (m : Machine) {new : ℕ} → m.level < new → new ≤ highest_explicit → m.depth < highest_explicit
room m up fits = omega (arith, falls_depth (sound_of m).falls)

module _ (m : Machine) (new : ℕ) (up : m.level < new) (fits : new ≤ highest_explicit) where
  abbrev levels_opened : List ℕ
  levels_opened = set m.levels m.depth m.level

  abbrev overrides_opened : List ℕ
  overrides_opened = set m.overrides m.depth m.over

  level_kept : get_or levels_opened m.depth 0 ≡ m.level
  level_kept = get_or-set_same m.levels m.depth m.level 0 (omega (arith, room m up fits, (sound_of m).levels))

  override_kept : get_or overrides_opened m.depth 0 ≡ m.over
  override_kept = get_or-set_same m.overrides m.depth m.over 0 (omega (arith, room m up fits, (sound_of m).overrides))

  opened_only60 : Only60 m.invalid60 new (get_or levels_opened (m.depth + 1 - 1) 0)
  opened_only60 = go (le_or_lt next_to_highest m.level)
    where
      go : (next_to_highest ≤ m.level) ⊎ (m.level < next_to_highest) → Only60 m.invalid60 new (get_or levels_opened (m.depth + 1 - 1) 0)
      go (inl h) =
          let e : m.depth + 1 - 1 ≡ m.depth = omega arith in
          let l : m.level ≡ next_to_highest = omega arith in
          inr (inr (omega arith, rw e (level_kept ∙ l)))
      go (inr h) = inl (none_at_60 m h)

  opened_falls : Falls levels_opened new (m.depth + 1)
  opened_falls =
      rw (add-one m.depth)
      (more {level = new} {d = m.depth} (rw level_kept up) (rw level_kept (falls_set m.depth m.level (omega arith) (sound_of m).falls)))

  pub opened_sound : (os : List ℕ) → length os ≡ highest_explicit → ∥ SoundFields levels_opened os (m.depth + 1) new m.invalid60 m.invalid61 ∥₁
  opened_sound os e =
      ∣ record {
        levels = length-set m.levels m.depth m.level ∙ (sound_of m).levels;
        overrides = e;
        depth = omega (arith, room m up fits);
        level = fits;
        falls = opened_falls;
        only61 = inl (none_at_61 m (omega arith));
        only60 = opened_only60;
      } ∣₁

  module _ (over : ℕ) (s : ∥ SoundFields levels_opened overrides_opened (m.depth + 1) new m.invalid60 m.invalid61 ∥₁) where
    abbrev opened : Machine
    opened = record {
      levels = levels_opened;
      overrides = overrides_opened;
      depth = m.depth + 1;
      level = new;
      over = over;
      invalid60 = m.invalid60;
      invalid61 = m.invalid61;
      sound = s;
    }

    opened_unmatched : (meaning opened).unmatched ≡ valid m.level m.over ∷ (meaning m).unmatched
    unfolding remembered
    opened_unmatched =
        rw (none_above m new up fits, add-one m.depth, level_kept, override_kept, remembered_set m.levels m.overrides m.invalid60 m.invalid61 m.depth m.level m.over m.depth (omega arith))

    pub opened_stands : Stands opened (after (meaning m) (opens_valid new over)) (counts m)
    unfolding after
    opened_stands =
        record {
          state = ap (λ (u : List Entry). record { level = new; override = over; unmatched = u }) opened_unmatched;
          counted = omega arith;
        }

-- a valid code matched: the pair is undone

module _ (m : Machine) (z : invalid_here m ≡ 0) (some : 0 < m.depth) where
  abbrev below : ℕ
  below = get_or m.levels (m.depth - 1) 0

  down : (below < m.level) × Falls m.levels below (m.depth - 1)
  down = falls_last m.levels m.level m.depth some (sound_of m).falls

  closed_none61 : m.invalid61 ≡ 0
  closed_none61 = go (sound_of m).only61
    where
      go : Only61 m.invalid61 m.level → m.invalid61 ≡ 0
      go (inl e) = e
      go (inr e) = sym (invalid_at_61 _ _ e) ∙ z

  closed_only60 : Only60 m.invalid60 below (get_or m.levels (m.depth - 1 - 1) 0)
  closed_only60 = go (sound_of m).only60
    where
      go : Only60 m.invalid60 m.level below → Only60 m.invalid60 below (get_or m.levels (m.depth - 1 - 1) 0)
      go (inl e) = inl e
      go (inr (inl e)) = inl (sym (invalid_at_60 _ _ e) ∙ z)
      go (inr (inr e)) = inr (inl e.1)

  closed_sound : ∥ SoundFields m.levels m.overrides (m.depth - 1) below m.invalid60 m.invalid61 ∥₁
  closed_sound =
      ∣ record {
        levels = (sound_of m).levels;
        overrides = (sound_of m).overrides;
        depth = omega (arith, (sound_of m).depth);
        level = omega (arith, (sound_of m).level, down.0);
        falls = down.1;
        only61 = inl closed_none61;
        only60 = closed_only60;
      } ∣₁

module _ (m : Machine) (back : Pair) (h : Shown m (ClosesValid back)) where
  pub restored_sound : ∥ SoundFields m.levels m.overrides (m.depth - 1) back.level m.invalid60 m.invalid61 ∥₁
  restored_sound = rw h.2 (closed_sound m h.0 h.1)

  abbrev restored : ∥ SoundFields m.levels m.overrides (m.depth - 1) back.level m.invalid60 m.invalid61 ∥₁ → Machine
  restored s = record {
    levels = m.levels;
    overrides = m.overrides;
    depth = m.depth - 1;
    level = back.level;
    over = back.over;
    invalid60 = m.invalid60;
    invalid61 = m.invalid61;
    sound = s;
  }

  pub restored_stands : (s : _) → Stands (restored s) (after (meaning m) (closes_valid back.level back.over)) (counts m)
  unfolding after
  restored_stands s =
      let rest : remembered_by m ≡ valid back.level back.over ∷ (replicate (invalid_at m.invalid60 m.invalid61 back.level) invalid ++ remembered m.levels m.overrides m.invalid60 m.invalid61 (m.depth - 1)) =
      rw (h.2, h.3) (remembered_last m.levels m.overrides m.invalid60 m.invalid61 m.depth h.1) in
      record { state = rw (h.0, rest); counted = omega arith }

-- an invalid code, made or matched: one count is changed

abbrev with_counts : (m : Machine) (n60 n61 : ℕ) → ∥ SoundFields m.levels m.overrides m.depth m.level n60 n61 ∥₁ → Machine
with_counts m n60 n61 s = record {
  levels = m.levels;
  overrides = m.overrides;
  depth = m.depth;
  level = m.level;
  over = m.over;
  invalid60 = n60;
  invalid61 = n61;
  sound = s;
}

module _ (m : Machine) where
  recounted_sound : {n60 n61 : ℕ} → Only61 n61 m.level → Only60 n60 m.level (get_or m.levels (m.depth - 1) 0)
      → ∥ SoundFields m.levels m.overrides m.depth m.level n60 n61 ∥₁
  recounted_sound only61 only60 =
      let s = sound_of m in
      ∣ record {
        levels = s.levels;
        overrides = s.overrides;
        depth = s.depth;
        level = s.level;
        falls = s.falls;
        only61 = only61;
        only60 = only60;
      } ∣₁

  recounted : (n n60 n61 : ℕ) (s : _) → invalid_at n60 n61 m.level ≡ n
      → ((k : ℕ) → k < m.level → invalid_at n60 n61 k ≡ invalid_at m.invalid60 m.invalid61 k)
      → n60 + n61 + invalid_here m ≡ counts m + n → Recounted m n (with_counts m n60 n61 s)
  recounted n n60 n61 s e same count =
      record { state = rw (e, remembered_counts m.overrides n60 n61 m.invalid60 m.invalid61 (sound_of m).falls same); counted = count }

  pub sound_61 : (n : ℕ) → m.level ≡ highest_explicit → ∥ SoundFields m.levels m.overrides m.depth m.level m.invalid60 n ∥₁
  sound_61 n e = recounted_sound (inr e) (sound_of m).only60

  pub recounted_61 : (n : ℕ) (s : _) → m.level ≡ highest_explicit → Recounted m n (with_counts m m.invalid60 n s)
  recounted_61 n s e =
      recounted n m.invalid60 n s (invalid_at_61 m.invalid60 n e) (λ k h. below_61 m.invalid60 n m.invalid61 k (omega arith))
      (omega (arith, invalid_at_61 m.invalid60 m.invalid61 e))

  at_60 : next_to_highest ≤ m.level → (m.level ≡ highest_explicit → ⊥) → m.level ≡ next_to_highest
  at_60 h e = omega (arith, (sound_of m).level)

  pub sound_60 : (n : ℕ) → next_to_highest ≤ m.level → (m.level ≡ highest_explicit → ⊥) → ∥ SoundFields m.levels m.overrides m.depth m.level n m.invalid61 ∥₁
  sound_60 n h e = recounted_sound (sound_of m).only61 (inr (inl (at_60 h e)))

  pub recounted_60 : (n : ℕ) (s : _) → next_to_highest ≤ m.level → (m.level ≡ highest_explicit → ⊥) → Recounted m n (with_counts m n m.invalid61 s)
  recounted_60 n s h f =
      let e : m.level ≡ next_to_highest = at_60 h f in
      recounted n n m.invalid61 s (invalid_at_60 n m.invalid61 e) (λ k g. below_60 n m.invalid61 m.invalid60 k (omega arith))
      (omega (arith, invalid_at_60 m.invalid60 m.invalid61 e))

pub one_more : (m r : Machine) → Recounted m (invalid_here m + 1) r → Stands r (after (meaning m) opens_invalid) (counts m + 1)
unfolding after
one_more m r c =
    record { state = c.state ∙ (rw (add-one (invalid_here m))); counted = omega arith }

tail_invalid : (k : ℕ) (rest : List Entry) → 0 < k → replicate (k - 1) invalid ++ rest ≡ tail (replicate k invalid ++ rest)
tail_invalid zero rest h = absurd (omega arith)
tail_invalid (suc k) rest h = let e : suc k - 1 ≡ k = omega arith in rw e refl

pub one_less : (m r : Machine) → 0 < invalid_here m → Recounted m (invalid_here m - 1) r
    → Stands r (after (meaning m) closes_invalid) (counts m)
unfolding after
one_less m r h c =
    record {
      state = c.state ∙ ap (λ (u : List Entry). record { level = m.level; override = m.over; unmatched = u }) (tail_invalid (invalid_here m) (remembered_by m) h);
      counted = omega arith;
    }

-- what PDF matches

closing_invalid : (k : ℕ) (rest : List Entry) → 0 < k → closing (replicate k invalid ++ rest) ≡ closes_invalid
unfolding closing
closing_invalid zero rest h = absurd (omega arith)
closing_invalid (suc k) rest h = refl

module _ (m : Machine) where
  pub closing_a_mark : 0 < invalid_here m → Judged m (closing (meaning m).unmatched) ClosesInvalid
  closing_a_mark h = record { says = sym (closing_invalid (invalid_here m) (remembered_by m) h); shown = h }

  pub closing_nothing : invalid_here m ≡ 0 → m.depth ≡ 0 → Judged m (closing (meaning m).unmatched) ClosesNothing
  unfolding closing remembered
  closing_nothing z e = record { says = rw (z, e); shown = tt }

  pub closing_a_pair : invalid_here m ≡ 0 → 0 < m.depth
      → Judged m (closing (meaning m).unmatched) (ClosesValid (record { level = get_or m.levels (m.depth - 1) 0; over = get_or m.overrides (m.depth - 1) 0 }))
  unfolding closing
  closing_a_pair z h =
      record {
        says = rw (z, remembered_last m.levels m.overrides m.invalid60 m.invalid61 m.depth h);
        shown = (z, h, refl, refl);
      }

-- what a code asks for

odd_next : (l : ℕ) → l + 1 + l % 2 ≡ least_greater_odd l
unfolding least_greater_odd
odd_next l = grind (arith, nat_tests)

even_next : (l : ℕ) → l + 2 - l % 2 ≡ least_greater_even l
unfolding least_greater_even
even_next l = grind (arith, nat_tests)

pub asked_odd : (c l : ℕ) → RLE ≤ c → c ≤ RLO → l + 1 + l % 2 ≡ level_asked c l
unfolding level_asked
asked_odd c l low high = grind (arith, nat_tests, odd_next)

pub asked_even : (c l : ℕ) → (c ≡ RLE → ⊥) → (c ≡ RLO → ⊥) → l + 2 - l % 2 ≡ level_asked c l
unfolding level_asked
asked_even c l e f = grind (arith, nat_tests, even_next)

module _ (m : Machine) (c : ℕ) where
  asked_above : m.level < level_asked c m.level
  unfolding level_asked least_greater_odd least_greater_even
  asked_above = grind (arith, nat_tests)

  asked_near : level_asked c m.level ≤ m.level + 2
  unfolding level_asked least_greater_odd least_greater_even
  asked_near = grind (arith, nat_tests)

  pub opening_valid : (new : Pair) → new.level ≡ level_asked c m.level → new.over ≡ override_asked c → new.level ≤ highest_explicit
      → Judged m (opening (level_asked c m.level) (override_asked c)) (OpensValid new)
  unfolding opening
  opening_valid new e f h =
      record { says = rw (← e, ← f, le-leb new.level highest_explicit h); shown = (rw e asked_above, h) }

  pub opening_invalid : highest_explicit < level_asked c m.level → Judged m (opening (level_asked c m.level) (override_asked c)) OpensInvalid
  unfolding opening
  opening_invalid h =
      record { says = rw (lt-leb (level_asked c m.level) highest_explicit h); shown = omega (arith, asked_near) }

-- the verdict on a class

verdict_is : (s : State) (c : ℕ) → verdict s c ≡ (if is_opening c then opening (level_asked c s.level) (override_asked c) else if eqb c PDF then closing s.unmatched else plain)
unfolding verdict X2 X3 X4 X5 X7 is_opening level_asked override_asked
verdict_is s c = grind (arith, nat_tests)

pub verdict_opens : (s : State) (c : ℕ) → is_opening c ≡ true → verdict s c ≡ opening (level_asked c s.level) (override_asked c)
verdict_opens s c e = verdict_is s c ∙ rw e

pub verdict_closes : (s : State) (c : ℕ) → is_opening c ≡ false → c ≡ PDF → verdict s c ≡ closing s.unmatched
verdict_closes s c e p = verdict_is s c ∙ rw (e, eq-eqb c PDF p)

pub verdict_plain : (s : State) (c : ℕ) → is_opening c ≡ false → (c ≡ PDF → ⊥) → verdict s c ≡ plain
verdict_plain s c e p = verdict_is s c ∙ rw (e, ne_eqb c PDF p)

-- a verdict followed is a step taken

pub followed : (m : Machine) (c : ℕ) {r : Machine} {v w : Verdict} {n : ℕ} → v ≡ w → Judged m (verdict (meaning m) c) v
    → Stands r (after (meaning m) (verdict_of w)) n → n ≤ counts m + 1 → Stands r (step (meaning m) c) (counts m + 1)
unfolding step
followed m c e j t h =
    record { state = t.state ∙ ap (after (meaning m)) (ap verdict_of (sym e) ∙ j.says); counted = omega arith }

pub unmoved : (m : Machine) (c : ℕ) {v : Verdict} → (v ≡ ClosesNothing) ⊎ (v ≡ Plain) → Judged m (verdict (meaning m) c) v
    → Stands m (step (meaning m) c) (counts m + 1)
unfolding after
unmoved m c {v} is j = go is
  where
    stays : Stands m (meaning m) (counts m)
    stays = record { state = refl; counted = omega arith }

    go : (v ≡ ClosesNothing) ⊎ (v ≡ Plain) → Stands m (step (meaning m) c) (counts m + 1)
    go (inl e) = followed m c e j stays (omega arith)
    go (inr e) = followed m c e j stays (omega arith)

-- what closes the returns that have no answer of their own
pub ruleset steps = (tests, asked_odd, asked_even, sound_of, opening_invalid, closing_a_mark, closing_nothing, closing_a_pair, verdict_opens, verdict_closes, verdict_plain, one_more, one_less)
