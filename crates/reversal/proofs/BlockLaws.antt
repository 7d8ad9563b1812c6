-- Whole blocks of levels that one pass goes over at once: their lowest or highest level tells of each of them.
-- Assumes nothing.
use Rattle.std.proofs.Common.{◌≡◌, ℕ, suc, ◌+◌, ◌-◌, ◌≤◌, ◌<◌, Bool, true, false, List, [], ◌∷◌, ◌++◌, length, drop, refl, sym, ap, ◌∙◌, arith, if◌then◌else◌}
use lib.Dec.{leb}
use lib.ListN.{take-append-drop}
use borrow.Author.Tests.{le-leb, lt-ltb}
use borrow.Rule.Slice.PartMut.{mid_of, mid_len, Post-is}
use Rattle.std.specs.List.{AllWithin, HoldsAt}
use Rattle.std.proofs.lemmas.Iterator.{index_from_first}
use Rattle.std.specs.Prelude.{Option}
use Rattle.std.specs.Option.{unwrap_or, MatchOption}
use Rattle.rules.specs.Line.{highest}
use Rattle.laws.specs.Stretches.{span}
use Rattle.level_range.specs.Levels.{at_levels, lowest}
use Rattle.reversal.specs.Passes.{below, Skipped}

pub none_below : (level none : ℕ) (ls : List ℕ) → level ≤ lowest none ls → span (leb level) ls ≡ length ls
unfolding span lowest
none_below level none [] h = refl
none_below level none (l ∷ ls) h = let holds : leb level l ≡ true = le-leb level l (omega arith) in simp holds (ap suc (none_below level none ls (omega arith)))

pub all_below : (level : ℕ) (ls : List ℕ) → highest (at_levels ls) < level → span (below level) ls ≡ length ls
unfolding span highest
all_below level [] h = refl
all_below level (l ∷ ls) h = let holds : below level l ≡ true = lt-ltb l level (omega arith) in simp holds (ap suc (all_below level ls (omega arith)))

-- of a part in which each passes the test, so many come first, and then those of whatever follows
all_if : (b : Bool) (m n k r : ℕ) → (if b then suc m else 0) ≡ suc n → (m ≡ n → k ≡ n + r) → (if b then suc k else 0) ≡ suc n + r
all_if true m n k r e h = let on : k ≡ n + r = h (omega arith) in omega arith
all_if false m n k r e h = absurd (omega arith)

span_all : (test : ℕ → Bool) (part rest : List ℕ) → span test part ≡ length part → span test (part ++ rest) ≡ length part + span test rest
unfolding span
span_all test [] rest e = omega arith
span_all test (l ∷ ls) rest e = all_if (test l) (span test ls) (length ls) (span test (ls ++ rest)) (span test rest) e (span_all test ls rest)

-- the search by blocks: begun, and one block further
pub skip_begun : (test : ℕ → Bool) (xs : List ℕ) → Skipped test xs 0 0
skip_begun test xs = record { onward = omega arith; within = omega arith; same_end = refl }

pub skip_next : (test : ℕ → Bool) (xs : List ℕ) (i e : ℕ) → i ≤ e → e ≤ length xs → span test (mid_of i (e - i) xs) ≡ length (mid_of i (e - i) xs) → Skipped test xs 0 i → Skipped test xs 0 e
skip_next test xs i e h w p now =
    let size : length (mid_of i (e - i) xs) ≡ e - i = mid_len i e xs w in
    let parted : span test (drop i xs) ≡ length (mid_of i (e - i) xs) + span test (drop e xs) =
    ap (span test) (sym (take-append-drop (e - i) (drop i xs))) ∙ span_all test _ (drop (e - i) (drop i xs)) p
    ∙ ap (λ (l : List ℕ). length (mid_of i (e - i) xs) + span test l) (Post-is i e xs h) in
    record { onward = omega arith; within = w; same_end = omega (arith, now.same_end) }

-- the rest, up to the first that does not pass
pub span_searched : (test : ℕ → Bool) (xs rest : List ℕ) (near : ℕ) (r : Option ℕ) → Skipped test xs 0 near → rest ≡ drop near xs → MatchOption r (AllWithin (λ x. test x ≡ true) rest 0 (length rest)) (λ i. (i < length rest) × HoldsAt (λ x. test x ≡ false) rest i × AllWithin (λ x. test x ≡ true) rest 0 i) → near + unwrap_or r (length rest) ≡ span test xs
unfolding span
span_searched test xs rest near r now is first =
    let there : span test rest ≡ unwrap_or r (length rest) =
    index_from_first (span test) (λ x. test x ≡ false) (λ x. test x ≡ true) refl (λ x xs e. rw e) (λ x xs e. rw e (omega arith)) rest r first in
    omega (arith, now.same_end, ap (span test) is)
