-- The separators that close a paragraph are at its base level: after the explicit phase by X8, and after Resolve by N, which
-- gives them the direction of the base. Assumes nothing.
use Rattle.std.specs.Prelude.{if◌then◌else◌}
use Prim.Native.Nat.{ℕ, zero, suc, ◌+◌, ◌≤◌, max, zero-le, suc-le-suc}
use native.Mathlib.Nat.{suc-add}
use native.Mathlib.Numerals.{one-add}
use native.Mathlib.Omega.{arith}
use mathlib.Core.Path.{◌≡◌, refl, sym, ap, ◌∙◌}
use mathlib.Core.Bool.{true, false, not}
use mathlib.Core.List.{List, [], ◌∷◌, ◌++◌, map, tail, append-nil}
use borrow.Author.Tests.{eqb-true, eq-eqb, not-false}
use lib.Dec.{eqb}
use lib.ListN.{length, take, drop, replicate, length-map, length-drop, length-replicate, drop_of_length-le}
use lib.Seq.{take_all, take-nil, take-length, drop-nil, drop-drop, drop-append-add, length-take-le}
use Rattle.laws.specs.Any.{any_of}
use Rattle.laws.specs.Choice.{is_odd, head_or}
use Rattle.laws.specs.Stretches.{after_stretch, stretches}
use Rattle.laws.proofs.Any.{none_first}
use Rattle.laws.proofs.Every.{Every}
use Rattle.laws.proofs.Passes.{by_test, length_stretches}
use Rattle.rules.specs.Classes.{R, L, B, CR, is_paragraph_end, is_removed, is_opening, is_neutral}
use Rattle.rules.specs.Explicit.{State, X1, step, level_here, type_here, explicit_levels, explicit_types, kept, put_back}
use Rattle.rules.specs.Runs.{one_longer, run_lengths, boundary_type}
use Rattle.rules.specs.Weak.{W1, W2, W3, W4, W5, W6, W7, change_W1, change_W2, change_W3, change_W4, change_W5, change_W6, change_W7, is_terminator, weak}
use Rattle.rules.specs.Neutral.{N1, N2, direction, change_N1, level_direction, change_N2}
use Rattle.rules.specs.Implicit.{I1, I2, implicit_level}
use Rattle.rules.specs.Resolve.{resolve_run, resolve_runs, resolve_kept, resolved_levels}
use Rattle.rules.proofs.PairLaws.{of_ends}

-- ---- what is asked of a paragraph end here
record End (c : ℕ) : Type 0 where
  ends : is_paragraph_end c ≡ true
  neutral : is_neutral c ≡ true
  stays : is_removed c ≡ false

all_ends : (cs : List ℕ) → any_of (λ c. not (is_paragraph_end c)) cs ≡ false → Every End cs
unfolding is_neutral is_removed is_opening is_paragraph_end
all_ends [] all = tt
all_ends (c ∷ cs) all =
    let first = none_first (λ c. not (is_paragraph_end c)) c cs all in
    let each = of_ends End (record { ends = refl; neutral = refl; stays = refl }) (record { ends = refl; neutral = refl; stays = refl }) c in
    (each (not-false (is_paragraph_end c) first.0), all_ends cs first.1)

-- ---- W leaves every paragraph end what it is
data Keeps : List ℕ → List ℕ → Type 0 where
  none : Keeps [] []
  more : {t u : ℕ} {ts us : List ℕ} → (is_paragraph_end t ≡ true → u ≡ t) → Keeps ts us → Keeps (t ∷ ts) (u ∷ us)

keeps_itself : (ts : List ℕ) → Keeps ts ts
keeps_itself [] = none
keeps_itself (t ∷ ts) = more (λ end. refl) (keeps_itself ts)

keeps_length : {ts us : List ℕ} → Keeps ts us → length us ≡ length ts
keeps_length none = refl
keeps_length (more one others) = rw (keeps_length others)

keeps_ends : {ts us : List ℕ} (n : ℕ) → Keeps ts us → Every End (drop n ts) → drop n us ≡ drop n ts
keeps_ends n none all = refl
keeps_ends zero (more one others) all = rw (one all.0.ends, keeps_ends zero others all.1)
keeps_ends (suc n) (more one others) all = keeps_ends n others all

-- a pass from type to type that leaves B and CR, whatever it carries and whatever follows
pass_keeps : (pass : ℕ → List ℕ → List ℕ) {change : ℕ → ℕ → List ℕ → ℕ} {carry : ℕ → ℕ → ℕ} → ((s : ℕ) → pass s [] ≡ []) → ((s t : ℕ) (ts : List ℕ) → pass s (t ∷ ts) ≡ change s t ts ∷ pass (carry s t) ts) → ((s : ℕ) (ts : List ℕ) → (change s B ts ≡ B) × (change s CR ts ≡ CR)) → (s : ℕ) {ts us : List ℕ} → Keeps ts us → Keeps ts (pass s us)
pass_keeps pass nil cons leaves s none = rw (nil s) none
pass_keeps pass {change} {carry} nil cons leaves s (more {t} {u} {ts} {us} one others) =
    let stays : is_paragraph_end t ≡ true → change s u us ≡ t = λ end. ap (λ (t : ℕ). change s t us) (one end) ∙ of_ends (λ t. change s t us ≡ t) (leaves s us).0 (leaves s us).1 t end in
    rw (cons s u us) (more stays (pass_keeps pass nil cons leaves (carry s u) others))

weak_keeps : (sor eor : ℕ) (ts : List ℕ) → Keeps ts (weak sor eor ts)
unfolding weak W1 W2 W3 W4 W5 W6 W7 change_W1 change_W2 change_W3 change_W4 change_W6 change_W7 stretches is_terminator
weak_keeps sor eor ts =
    pass_keeps W7 (λ s. refl) (λ s t ts. refl) (λ s ts. (refl, refl)) sor
    (pass_keeps (λ s. W6) {carry = λ s t. s} (λ s. refl) (λ s t ts. refl) (λ s ts. (refl, refl)) sor
    (pass_keeps (λ s. W5 s eor) {change = λ s t ts. if is_terminator t then change_W5 s (after_stretch is_terminator eor ts) t else t} {carry = λ s t. if is_terminator t then s else t} (λ s. refl) (λ s t ts. by_test (is_terminator t) (λ e. rw e) (λ e. rw e)) (λ s ts. (refl, refl)) sor
    (pass_keeps (λ s. W4 s eor) (λ s. refl) (λ s t ts. refl) (λ s ts. (refl, refl)) sor
    (pass_keeps (λ s. W3) {carry = λ s t. s} (λ s. refl) (λ s t ts. refl) (λ s ts. (refl, refl)) sor
    (pass_keeps W2 (λ s. refl) (λ s t ts. refl) (λ s ts. (refl, refl)) sor
    (pass_keeps W1 (λ s. refl) (λ s t ts. refl) (λ s ts. (refl, refl)) sor (keeps_itself ts)))))))

-- ---- N and I give those at the end of a run its level: behind them stands the end type, the direction of that level
after_ends : (eor : ℕ) (ts : List ℕ) → Every End ts → after_stretch is_neutral eor ts ≡ eor
unfolding after_stretch
after_ends eor [] all = refl
after_ends eor (t ∷ ts) all = rw all.0.neutral (after_ends eor ts all.1)

module _ (level : ℕ) where
  -- N1 where it applies gives the direction of the level, as N2 does elsewhere
  end_level : (before t : ℕ) → is_neutral t ≡ true → implicit_level level (change_N2 level (change_N1 before (level_direction level) t)) ≡ level
  unfolding implicit_level I1 I2 change_N2 change_N1 level_direction direction is_neutral is_paragraph_end
  end_level before t neutral =
      by_test (is_odd level)
      (λ odd. by_test (eqb (direction before) R) (λ same. let is : direction before ≡ R = eqb-true (direction before) R same in rw (odd, is)) (λ other. rw (odd, other, neutral)))
      (λ even. by_test (eqb (direction before) L) (λ same. let is : direction before ≡ L = eqb-true (direction before) L same in rw (even, is)) (λ other. rw (even, other, neutral)))

  N_ends : (n before : ℕ) (ts : List ℕ) → Every End (drop n ts) → drop n (map (implicit_level level) (N2 level (N1 before (level_direction level) ts))) ≡ replicate (length (drop n ts)) level
  unfolding N1 N2 stretches
  N_ends n before [] all = rw drop-nil
  N_ends zero before (t ∷ ts) all =
      rw (all.0.neutral, after_ends (level_direction level) ts all.1, end_level before t all.0.neutral, N_ends zero before ts all.1)
  N_ends (suc n) before (t ∷ ts) all =
      by_test (is_neutral t) (λ e. rw e (N_ends n before ts all)) (λ e. rw e (N_ends n t ts all))

  run_length : (sor eor : ℕ) (ts : List ℕ) → length (resolve_run level sor eor ts) ≡ length ts
  unfolding resolve_run N1 N2
  run_length sor eor ts = rw (length-map, length-map, length_stretches) (keeps_length (weak_keeps sor eor ts))

  run_ends : (sor n : ℕ) (ts : List ℕ) → Every End (drop n ts) → drop n (resolve_run level sor (boundary_type level level) ts) ≡ replicate (length (drop n ts)) level
  unfolding resolve_run boundary_type level_direction
  run_ends sor n ts all =
      let same : max level level ≡ level = omega arith in
      let types = weak sor (level_direction level) ts in
      let stay : drop n types ≡ drop n ts = keeps_ends n (weak_keeps sor (level_direction level) ts) all in
      rw (same, sym stay) (N_ends n sor types (rw (sym stay) at all))

-- ---- X10: they all stand in the last run, which is at the base level
module _ (base : ℕ) where
  -- a place, the lengths of runs and their levels, where the last run has every place from the given one on
  data Closed : ℕ → List ℕ → List ℕ → Type 0 where
    last : {n m l : ℕ} {ls : List ℕ} → l ≡ base → length (l ∷ ls) ≤ m → Closed n (m ∷ []) (l ∷ ls)
    before : {n m : ℕ} {ns ls : List ℕ} → m ≤ length ls → Closed n ns (drop m ls) → Closed (m + n) (m ∷ ns) ls

  one_run : (k : ℕ) → run_lengths (replicate (suc k) base) ≡ suc k ∷ []
  unfolding run_lengths one_longer
  one_run zero = refl
  one_run (suc k) = rw (eq-eqb base base refl, one_run k)

  longer : {n l m : ℕ} {ns ls : List ℕ} → l ≡ m → Closed n ns (m ∷ ls) → Closed (suc n) (one_longer ns) (l ∷ m ∷ ls)
  unfolding one_longer
  longer same (last is long) = last (same ∙ is) (suc-le-suc long)
  longer same (before {n} {m} within others) = rw (sym (suc-add m n)) (before (suc-le-suc within) others)

  lengths_closed : (n k : ℕ) (ls : List ℕ) → drop n ls ≡ replicate (suc k) base → Closed n (run_lengths ls) ls
  unfolding run_lengths
  lengths_closed zero k ls e = let long : length (replicate (suc k) base) ≤ suc k = omega (arith, length-replicate k base) in rw (e, one_run k) (last refl long)
  lengths_closed (suc n) k [] e = absurd (omega (arith, ap length e))
  lengths_closed (suc n) k (l ∷ []) e = absurd (omega (arith, ap length (sym (drop-nil n) ∙ e)))
  lengths_closed (suc n) k (l ∷ m ∷ ls) e =
      let rest : Closed n (run_lengths (m ∷ ls)) (m ∷ ls) = lengths_closed n k (m ∷ ls) e in
      by_test (eqb l m)
      (λ same. rw same (longer (eqb-true l m same) rest))
      (λ other. rw (other, sym (one-add n)) (before (suc-le-suc zero-le) rest))

  runs_ends : {n : ℕ} {ns ls : List ℕ} → Closed n ns ls → (level : ℕ) (ts : List ℕ) → length ts ≡ length ls → Every End (drop n ts) → drop n (resolve_runs base level ls ts ns) ≡ replicate (length (drop n ts)) base
  unfolding resolve_runs
  runs_ends (last {n} {m} {l} {ls} is long) level ts same all =
      rw (drop_of_length-le (l ∷ ls) {i = m} long, take_all m ts (omega arith), append-nil, is) (run_ends base (boundary_type level base) n ts all)
  runs_ends (before {n} {m} {ns} {ls} within others) level ts same all =
      let here = head_or base ls in
      let eor = boundary_type here (head_or base (drop m ls)) in
      let run = resolve_run here (boundary_type level here) eor (take m ts) in
      let rest = resolve_runs base here (drop m ls) (drop m ts) ns in
      let long : length run ≡ m = run_length here (boundary_type level here) eor (take m ts) ∙ length-take-le m ts (omega arith) in
      let past : drop (m + n) (run ++ rest) ≡ drop n rest = ap (λ (k : ℕ). drop (k + n) (run ++ rest)) (sym long) ∙ drop-append-add run rest n in
      let same_rest : length (drop m ts) ≡ length (drop m ls) = rw (length-drop m ts, length-drop m ls, same) in
      past ∙ rw (sym (drop-drop n m ts)) (runs_ends others here (drop m ts) same_rest (rw (sym (drop-drop n m ts)) at all))

-- ---- X8: they are at the base level after the explicit phase, in whatever state it began, and what they were
pub explicit_at_base : (base : ℕ) (s : State) (cs ends : List ℕ) → any_of (λ c. not (is_paragraph_end c)) ends ≡ false → drop (length cs) (explicit_levels base s (cs ++ ends)) ≡ replicate (length ends) base
unfolding explicit_levels level_here
explicit_at_base base s [] [] all = refl
explicit_at_base base s [] (c ∷ ends) all =
    let end = (all_ends (c ∷ ends) all).0 in
    let rest = explicit_at_base base (step s c) [] ends (none_first _ c ends all).1 in
    rw (end.stays, end.ends, rest)
explicit_at_base base s (c ∷ cs) ends all = explicit_at_base base (step s c) cs ends all

types_stay : (s : State) (cs ends : List ℕ) → Every End ends → drop (length cs) (explicit_types s (cs ++ ends)) ≡ ends
unfolding explicit_types type_here
types_stay s [] [] all = refl
types_stay s [] (c ∷ ends) all = rw (all.0.ends, types_stay (step s c) [] ends all.1)
types_stay s (c ∷ cs) ends all = types_stay (step s c) cs ends all

-- ---- X9: none of them is removed, and so each is put back
kept_ends : (cs ends xs : List ℕ) → Every End ends → drop (length (kept cs cs)) (kept (cs ++ ends) xs) ≡ take (length ends) (drop (length cs) xs)
unfolding kept
kept_ends [] [] xs all = refl
kept_ends [] (c ∷ ends) [] all = refl
kept_ends [] (c ∷ ends) (x ∷ xs) all = rw (all.0.stays, kept_ends [] ends xs all.1)
kept_ends (c ∷ cs) ends [] all = drop-nil (length (kept (c ∷ cs) (c ∷ cs))) ∙ sym (take-nil (length ends))
kept_ends (c ∷ cs) ends (x ∷ xs) all =
    let rest = kept_ends cs ends xs all in
    by_test (is_removed c) (λ e. rw e rest) (λ e. rw e rest)

drop_tail : (n : ℕ) (xs : List ℕ) → drop n (tail xs) ≡ drop (suc n) xs
drop_tail n [] = drop-nil n
drop_tail n (x ∷ xs) = refl

back_drop : (cs ends xs : List ℕ) → drop (length cs) (put_back (cs ++ ends) xs) ≡ put_back ends (drop (length (kept cs cs)) xs)
unfolding put_back kept
back_drop [] ends xs = refl
back_drop (c ∷ cs) ends xs =
    by_test (is_removed c)
    (λ e. rw e (back_drop cs ends xs))
    (λ e. rw (e, sym (drop_tail (length (kept cs cs)) xs)) (back_drop cs ends (tail xs)))

back_ends : (level : ℕ) (ends : List ℕ) → Every End ends → put_back ends (replicate (length ends) level) ≡ replicate (length ends) level
unfolding put_back
back_ends level [] all = refl
back_ends level (c ∷ ends) all = rw (all.0.stays, back_ends level ends all.1)

-- the separators that close a paragraph are at its base level after Resolve too: N gives them the direction of the base
pub closing_at_base : (base : ℕ) (cs ends : List ℕ) → any_of (λ c. not (is_paragraph_end c)) ends ≡ false → drop (length cs) (resolved_levels base (cs ++ ends)) ≡ replicate (length ends) base
unfolding resolved_levels resolve_kept put_back
closing_at_base base cs [] all = back_drop cs [] _
closing_at_base base cs (c ∷ ends) all =
    let each = all_ends (c ∷ ends) all in
    let whole = cs ++ (c ∷ ends) in
    let n = length (kept cs cs) in
    let levels = kept whole (explicit_levels base (X1 base) whole) in
    let types = kept whole (explicit_types (X1 base) whole) in
    let at_base : drop n levels ≡ replicate (suc (length ends)) base = kept_ends cs (c ∷ ends) _ each ∙ rw (explicit_at_base base (X1 base) cs (c ∷ ends) all) (take_all (suc (length ends)) (replicate (suc (length ends)) base) (omega (arith, length-replicate (length ends) base))) in
    let stay : drop n types ≡ c ∷ ends = kept_ends cs (c ∷ ends) _ each ∙ rw (types_stay (X1 base) cs (c ∷ ends) each) (take-length (c ∷ ends)) in
    let long : length types ≡ length levels = omega (arith, length-drop n levels, length-drop n types, ap length at_base, ap length stay, length-replicate (length ends) base) in
    let resolved = runs_ends base (lengths_closed base n (length ends) levels at_base) base types long (rw stay each) in
    back_drop cs (c ∷ ends) _ ∙ rw (resolved, stay) (back_ends base (c ∷ ends) each)
