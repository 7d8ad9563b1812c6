-- W5 to W7 as one pass from stretch to stretch of ET: what holds at the loop's head as a record, and its laws over
-- plain lists: begun, an ET left for later, a stretch filled, over a type, done. W7 carries the same strong type on before
-- W6 and after it.
-- Assumes nothing.
use Prim.Native.Nat.{ℕ, zero, suc, ◌+◌, ◌-◌, ◌≤◌, ◌<◌}
use native.Mathlib.Omega.{arith}
use mathlib.Core.Bool.{true, false}
use mathlib.Core.Path.{◌≡◌, refl, sym, ap, ◌∙◌}
use mathlib.Core.List.{List, [], ◌∷◌, ◌++◌, append-nil, append_assoc}
use borrow.Author.Tests.{eqb-true}
use borrow.Rule.Slice.PartMut.{mid_of, put_mid, same_len_mid, mid_len, drop_put}
use lib.Dec.{eqb}
use lib.ListN.{length, get_or, take, drop, set, replicate, length-set, length-replicate, drop_of_length-le}
use lib.Seq.{take_all, get_or-drop, drop-drop}
use Rattle.rules.specs.Classes.{EN, ES, ET, CS}
use Rattle.laws.specs.Choice.{head_or}
use Rattle.laws.specs.Stretches.{after_stretch, stretches, span}
use Rattle.rules.specs.Weak.{W5, W6, W7, change_W5, change_W6, change_W7, is_side, strong_W7, is_terminator}
use Rattle.laws.proofs.Lists.{take_set_next, drop_next, drop_set_next, take_put_end}
use Rattle.std.proofs.lemmas.List.{get_or_past}
use Rattle.laws.proofs.Passes.{span_further, span_past, after_span, head_drop, stretches_nil, stretches_over, filled, by_test}
use Rattle.weak_steps.specs.declared.Table.{Table}
use Rattle.weak_steps.specs.Tables.{late_steps, becomes, follows}
use Rattle.weak_steps.proofs.TableLaws.{late_change, late_carry}
use Rattle.weak.proofs.WeakLaws.{W5_same}

W6_W7_cons : (strong t : ℕ) (ts : List ℕ) → W7 strong (W6 (t ∷ ts)) ≡ change_W7 strong (change_W6 t) ∷ W7 (strong_W7 strong (change_W6 t)) (W6 ts)
unfolding W6 W7
W6_W7_cons strong t ts = refl

W6_W7_nil : (strong : ℕ) → W7 strong (W6 []) ≡ []
unfolding W6 W7
W6_W7_nil strong = refl

-- ES, ET, CS and ON are no R and no L
strong_before_W6 : (strong t : ℕ) → strong_W7 strong (change_W6 t) ≡ strong_W7 strong t
unfolding strong_W7 is_side change_W6
strong_before_W6 strong t =
    by_test (eqb t ES)
    (λ es. rw (eqb-true t ES es))
    (λ es. rw es
    (by_test (eqb t ET)
    (λ et. rw (eqb-true t ET et))
    (λ et. rw et
    (by_test (eqb t CS) (λ cs. rw (eqb-true t CS cs)) (λ cs. rw cs)))))

-- neither does EN or ET, what W5 leaves of a stretch, carry anything on
strong_over_stretch : (strong before next : ℕ) → strong_W7 strong (change_W6 (change_W5 before next ET)) ≡ strong
unfolding strong_W7 is_side change_W6 change_W5
strong_over_stretch strong before next =
    by_test (eqb before EN)
    (λ first. rw first)
    (λ first. rw first (by_test (eqb next EN) (λ second. rw second) (λ second. rw second)))

-- one type many times: W6 and W7 make the same of each, where it carries nothing on
W6_W7_same : (strong t n : ℕ) (ts : List ℕ) → strong_W7 strong (change_W6 t) ≡ strong → W7 strong (W6 (replicate n t ++ ts)) ≡ replicate n (change_W7 strong (change_W6 t)) ++ W7 strong (W6 ts)
W6_W7_same strong t zero ts keeps = refl
W6_W7_same strong t (suc n) ts keeps =
    W6_W7_cons strong t (replicate n t ++ ts)
    ∙ ap (λ (s : ℕ). change_W7 strong (change_W6 t) ∷ W7 s (W6 (replicate n t ++ ts))) keeps
    ∙ ap (λ (r : List ℕ). change_W7 strong (change_W6 t) ∷ r) (W6_W7_same strong t n ts keeps)

-- what the three rules make of what is left, by the type before it and the nearest strong type before it
unfoldable pub late : ℕ → ℕ → ℕ → List ℕ → List ℕ
late eor before strong ts = W7 strong (W6 (stretches is_terminator change_W5 before eor ts))

late_is : (sor eor : ℕ) (ts : List ℕ) → late eor sor sor ts ≡ W7 sor (W6 (W5 sor eor ts))
unfolding late W5
late_is sor eor ts = refl

late_nil : (eor before strong : ℕ) → late eor before strong [] ≡ []
unfolding late
late_nil eor before strong =
    ap (λ (r : List ℕ). W7 strong (W6 r)) (stretches_nil is_terminator change_W5 eor before) ∙ W6_W7_nil strong

late_over : (eor before strong : ℕ) (xs : List ℕ) (i : ℕ) → i < length xs → is_terminator (get_or xs i 0) ≡ false → late eor before strong (drop i xs) ≡ change_W7 strong (change_W6 (get_or xs i 0)) ∷ late eor (get_or xs i 0) (strong_W7 strong (get_or xs i 0)) (drop (i + 1) xs)
unfolding late
late_over eor before strong xs i below other =
    let t : ℕ = get_or xs i 0 in
    let rest : List ℕ = stretches is_terminator change_W5 t eor (drop (i + 1) xs) in
    ap (λ (r : List ℕ). W7 strong (W6 (stretches is_terminator change_W5 before eor r))) (drop_next xs i below)
    ∙ ap (λ (r : List ℕ). W7 strong (W6 r)) (stretches_over is_terminator change_W5 eor before t (drop (i + 1) xs) other)
    ∙ W6_W7_cons strong t rest
    ∙ ap (λ (s : ℕ). change_W7 strong (change_W6 t) ∷ W7 s (W6 rest)) (strong_before_W6 strong t)

late_stretch : (eor before strong : ℕ) (xs : List ℕ) (i e next : ℕ) → i ≤ e → e ≡ i + span is_terminator (drop i xs) → next ≡ get_or xs e eor → late eor before strong (drop i xs) ≡ replicate (e - i) (change_W7 strong (change_W6 (change_W5 before next ET))) ++ late eor before strong (drop e xs)
unfolding late
late_stretch eor before strong xs i e next order ends is-next =
    let v : ℕ = change_W5 before next ET in
    let size : span is_terminator (drop i xs) ≡ e - i = omega arith in
    let there : i + (e - i) ≡ e = omega arith in
    let after : after_stretch is_terminator eor (drop i xs) ≡ next = after_span is_terminator eor (drop i xs) ∙ get_or-drop i xs (span is_terminator (drop i xs)) eor ∙ ap (λ (n : ℕ). get_or xs n eor) (sym ends) ∙ sym is-next in
    ap (λ (r : List ℕ). W7 strong (W6 r))
    (filled is_terminator change_W5 eor before v (drop i xs) (λ t is. ap (λ (n : ℕ). change_W5 before n t) after ∙ W5_same before next t is)
    ∙ ap (λ (n : ℕ). replicate n v ++ stretches is_terminator change_W5 before eor (drop n (drop i xs))) size
    ∙ ap (λ (r : List ℕ). replicate (e - i) v ++ stretches is_terminator change_W5 before eor r) (drop-drop (e - i) i xs ∙ ap (λ (n : ℕ). drop n xs) there))
    ∙ W6_W7_same strong v (e - i) (stretches is_terminator change_W5 before eor (drop e xs)) (strong_over_stretch strong before next)

-- what is written up to `from`, then what the three make of what is left, is what they make of all; from there to i stands ET
pub record Late (sor eor : ℕ) (xs₀ xs : List ℕ) (before strong from i : ℕ) : Type 0 where
  pub order : from ≤ i
  pub within : i ≤ length xs₀
  pub long : length xs ≡ length xs₀
  pub fits : strong < 256
  pub waits : i + span is_terminator (drop i xs) ≡ from + span is_terminator (drop from xs)
  pub joined : take from xs ++ late eor before strong (drop from xs) ≡ late eor sor sor xs₀

module _ {sor eor : ℕ} where
  pub late_begun : (xs : List ℕ) → sor < 256 → Late sor eor xs xs sor sor 0 0
  late_begun xs h = record { order = omega arith; within = omega arith; long = refl; fits = h; waits = refl; joined = refl }

  -- where no stretch is waiting, a type that is no ET is written by itself, and is the one before what follows
  pub late_next : {xs₀ xs : List ℕ} {before strong i : ℕ} → Late sor eor xs₀ xs before strong i i → {table : Table} {t v strong' : ℕ} → table ≡ late_steps → t < 256 → strong' < 256 → i < length xs → get_or xs i 0 ≡ t → is_terminator t ≡ false → v ≡ becomes table strong t → strong' ≡ follows table strong t → Late sor eor xs₀ (set xs i v) t strong' (i + 1) (i + 1)
  late_next {xs₀} {xs} {before} {strong} {i} now {table} {t} {v} {strong'} tabled type-fits strong-fits below here other wrote carries =
      let fails : is_terminator (get_or xs i 0) ≡ false = ap is_terminator here ∙ other in
      record {
        order = omega arith;
        within = omega (arith, now.long);
        long = length-set xs i v ∙ now.long;
        fits = strong-fits;
        waits = refl;
        joined =
            ap (λ (r : List ℕ). take (i + 1) (set xs i v) ++ late eor t strong' r) (drop_set_next xs i v)
            ∙ take_set_next xs i v (late eor t strong' (drop (i + 1) xs)) below
            ∙ ap (λ (r : List ℕ). take i xs ++ r) (rw (late_change strong t tabled type-fits wrote, late_carry strong t tabled now.fits carries, ← here) (sym (late_over eor before strong xs i below fails)))
            ∙ now.joined;
      }

  pub late_done : {xs₀ xs : List ℕ} {before strong from i : ℕ} → Late sor eor xs₀ xs before strong from i → length xs ≤ from → xs ≡ W7 sor (W6 (W5 sor eor xs₀))
  late_done {xs₀} {xs} {before} {strong} {from} {i} now past =
      sym (append-nil xs)
      ∙ (rw (take_all from xs past, drop_of_length-le xs past, late_nil eor before strong) at now.joined)
      ∙ late_is sor eor xs₀

  module _ {xs₀ xs : List ℕ} {before strong from i : ℕ} (now : Late sor eor xs₀ xs before strong from i) where
    -- an ET waits for what stands behind its stretch
    pub late_waits : i < length xs → is_terminator (get_or xs i 0) ≡ true → Late sor eor xs₀ xs before strong from (i + 1)
    late_waits below holds =
        let on : i + 1 + span is_terminator (drop (i + 1) xs) ≡ from + span is_terminator (drop from xs) = sym (span_further is_terminator xs i below holds) ∙ now.waits in
        let order : from ≤ i + 1 = omega (arith, now.order) in
        let within : i + 1 ≤ length xs₀ = omega (arith, now.long) in
        record { order = order; within = within; long = now.long; fits = now.fits; waits = on; joined = now.joined }

    -- a stretch that ends at i is filled by what the three rules make of it
    module _ {table : Table} {ys : List ℕ} {next new v : ℕ} (tabled : table ≡ late_steps) (new-fits : new < 256) (ends : i + span is_terminator (drop i xs) ≡ i) (is-next : next ≡ get_or xs i eor) (is-new : new ≡ change_W5 before next ET) (wrote : v ≡ becomes table strong new) (fill : ys ≡ replicate (length (mid_of from (i - from) xs)) v) where
      room : i ≤ length xs
      room = omega (arith, now.within, now.long)

      the_fill : ys ≡ replicate (i - from) v
      the_fill = fill ∙ ap (λ (n : ℕ). replicate n v) (mid_len from i xs room)

      length_fill : length ys ≡ i - from
      length_fill = ap length the_fill ∙ length-replicate (i - from) v

      the_stretch : late eor before strong (drop from xs) ≡ ys ++ late eor before strong (drop i xs)
      the_stretch =
          late_stretch eor before strong xs from i next now.order (sym ends ∙ now.waits) is-next
          ∙ ap (λ (r : List ℕ). r ++ late eor before strong (drop i xs)) (ap (replicate (i - from)) (sym (late_change strong new tabled new-fits wrote ∙ ap (λ (t : ℕ). change_W7 strong (change_W6 t)) is-new)) ∙ sym the_fill)

      filled_late : Late sor eor xs₀ (put_mid from (i - from) xs ys) before strong i i
      filled_late =
          record {
            order = omega arith;
            within = now.within;
            long = same_len_mid from (i - from) xs ys (length_fill ∙ sym (mid_len from i xs room)) ∙ now.long;
            fits = now.fits;
            waits = refl;
            joined =
                ap (λ (r : List ℕ). r ++ late eor before strong (drop i (put_mid from (i - from) xs ys))) (take_put_end xs ys from i now.order room length_fill)
                ∙ ap (λ (r : List ℕ). (take from xs ++ ys) ++ late eor before strong r) (drop_put from i xs ys now.order room length_fill)
                ∙ append_assoc (take from xs) ys (late eor before strong (drop i xs))
                ∙ ap (λ (r : List ℕ). take from xs ++ r) (sym the_stretch)
                ∙ now.joined;
          }

      -- and what stands behind it is still there
      pub late_filled : Late sor eor xs₀ (put_mid from (i - from) xs ys) before strong i i × (get_or (put_mid from (i - from) xs ys) i 0 ≡ get_or xs i 0)
      late_filled =
          (filled_late, sym (head_drop 0 (put_mid from (i - from) xs ys) i) ∙ ap (head_or 0) (drop_put from i xs ys now.order room length_fill) ∙ head_drop 0 xs i)

    -- a stretch that ends with the run
    pub late_ended : {table : Table} {ys : List ℕ} {new v : ℕ} → table ≡ late_steps → new < 256 → length xs ≤ i → new ≡ change_W5 before eor ET → v ≡ becomes table strong new → ys ≡ replicate (length (mid_of from (length xs - from) xs)) v → put_mid from (length xs - from) xs ys ≡ W7 sor (W6 (W5 sor eor xs₀))
    late_ended {table} {ys} {new} {v} tabled new-fits past is-new wrote fill =
        let all : length xs ≡ i = omega (arith, now.within, now.long) in
        let last : Late sor eor xs₀ (put_mid from (i - from) xs ys) before strong i i = (late_filled tabled new-fits (span_past is_terminator xs i past) (sym (get_or_past xs i eor past)) is-new wrote (rw all at fill)).0 in
        rw all (late_done last (omega (arith, last.long, now.long)))
