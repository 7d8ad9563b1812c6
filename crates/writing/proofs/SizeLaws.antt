-- How long the texts are at most, for whoever has to have room for them. Assumes nothing.
use Prim.Native.Nat.{ℕ, zero, suc, ◌+◌, ◌*◌, ◌^◌, ◌/◌, ◌%◌, ◌≤◌, ◌<◌, suc-le-suc}
use native.Mathlib.Nat.{suc-mul, pow-suc, le_of_suc-le-suc}
use native.Mathlib.Omega.{arith}
use mathlib.Core.Path.{◌≡◌}
use mathlib.Core.Bool.{true, false}
use mathlib.Core.List.{List, [], ◌∷◌, ◌++◌}
use lib.Dec.{eqb, ltb}
use lib.ListN.{length, get_or, length-append}
use borrow.Author.Tests.{ltb-true, ltb-false}
use Rattle.rules.specs.Classes.{is_removed}
use Rattle.rules.specs.Explicit.{removed_level}
use Rattle.rules.specs.Refusals.{highest_resolved, sound, refuse, is_bad_level, first_bad_level}
use Rattle.laws.proofs.Passes.{by_test}
use Rattle.words.specs.Words.{space, line_feed}
use Rattle.writing.specs.Text.{digit, number_text, level_text, spaced, base_name, levels_name, order_name, refused_name, base_row, levels_row, order_row, refused_row}
use Rattle.writing.proofs.NumberLaws.{one_digit, more_digits}

-- ---- a number below a power of ten has no more digits than the power says
pub number_size : (k n : ℕ) → n < 10 ^ suc k → length (number_text n) ≤ suc k
number_size zero n h = rw (one_digit n h) (omega arith)
number_size (suc k) n h =
    by_test (ltb n 10)
    (λ e. rw (one_digit n (ltb-true n 10 e)) (omega arith))
    (λ e. let small : n < 10 ^ suc k * 10 = rw pow-suc at h in
    let rest : length (number_text (n / 10)) ≤ suc k = number_size k (n / 10) (omega arith) in
    rw (more_digits n (ltb-false n 10 e)) (omega (arith, length-append (number_text (n / 10)) (digit (n % 10) ∷ []))))

-- ---- a level that Order does not refuse has two characters at most
level_size : (c l : ℕ) → is_bad_level c l ≡ false → length (level_text l) ≤ 2
unfolding is_bad_level level_text
level_size c l e =
    by_test (eqb l removed_level)
    (λ d. rw d (omega arith))
    (λ d. by_test (is_removed c)
    (λ r. let z : true ≡ false = rw (r, d) at e in let n : ◌≡◌ {A = ℕ} 0 1 = cc in absurd (omega arith))
    (λ r. let t : ltb highest_resolved l ≡ false = rw r at e in
    let h : l ≤ highest_resolved = ltb-false highest_resolved l t in
    rw d (number_size 1 l (omega arith))))

none_bad : (at c l : ℕ) (cs ls : List ℕ) → first_bad_level at (c ∷ cs) (l ∷ ls) ≡ sound → (is_bad_level c l ≡ false) × (first_bad_level (suc at) cs ls ≡ sound)
unfolding first_bad_level
none_bad at c l cs ls s =
    by_test (is_bad_level c l)
    (λ b. let z : refuse 7 at ≡ sound = rw b at s in let n : ◌≡◌ {A = ℕ} 0 1 = cc in absurd (omega arith))
    (λ b. (b, rw b at s))

levels_size : (at : ℕ) (cs ls : List ℕ) → length ls ≡ length cs → first_bad_level at cs ls ≡ sound → (i : ℕ) → i < length ls → length (level_text (get_or ls i 0)) ≤ 2
levels_size at cs [] e s i h = absurd (omega arith)
levels_size at [] (l ∷ ls) e s i h = absurd (omega arith)
levels_size at (c ∷ cs) (l ∷ ls) e s zero h = level_size c l (none_bad at c l cs ls s).0
levels_size at (c ∷ cs) (l ∷ ls) e s (suc i) h =
    levels_size (suc at) cs ls (omega arith) (none_bad at c l cs ls s).1 i (le_of_suc-le-suc h)

-- ---- rows
spaced_size : (text : ℕ → List ℕ) (k : ℕ) (xs : List ℕ) → ((i : ℕ) → i < length xs → length (text (get_or xs i 0)) ≤ k) → length (spaced text xs) ≤ length xs * suc k
unfolding spaced
spaced_size text k [] fits = omega arith
spaced_size text k (x ∷ xs) fits =
    let first : length (text x) ≤ k = fits 0 (omega arith) in
    let rest : length (spaced text xs) ≤ length xs * suc k = spaced_size text k xs (λ i h. fits (suc i) (suc-le-suc h)) in
    rw suc-mul (omega (arith, length-append (space ∷ text x) (spaced text xs)))

row_size : (name : List ℕ) (text : ℕ → List ℕ) (k : ℕ) (xs : List ℕ) → ((i : ℕ) → i < length xs → length (text (get_or xs i 0)) ≤ k) → length (name ++ spaced text xs ++ (line_feed ∷ [])) ≤ length name + length xs * suc k + 1
row_size name text k xs fits =
    let values : length (spaced text xs) ≤ length xs * suc k = spaced_size text k xs fits in
    omega (arith, length-append (name ++ spaced text xs) (line_feed ∷ []), length-append name (spaced text xs))

pub base_row_size : (base : ℕ) → base ≤ 1 → length (base_row base) ≤ 7
unfolding base_row
base_row_size base h = omega (arith, row_size base_name number_text 1 (base ∷ []) (λ i g. fits i g))
  where
    fits : (i : ℕ) → i < 1 → length (number_text (get_or (base ∷ []) i 0)) ≤ 1
    fits zero g = number_size 0 base (omega arith)
    fits (suc i) g = absurd (omega arith)

-- lent the levels that Resolve wrote for the classes, one for each
pub levels_row_size : (cs ls : List ℕ) → length ls ≡ length cs → first_bad_level 0 cs ls ≡ sound → length (levels_row ls) ≤ 7 + 3 * length ls
unfolding levels_row
levels_row_size cs ls e s = omega (arith, row_size levels_name level_text 2 ls (levels_size 0 cs ls e s))

pub order_row_size : (ps : List ℕ) → ((i : ℕ) → i < length ps → get_or ps i 0 < 10000) → length (order_row ps) ≤ 6 + 5 * length ps
unfolding order_row
order_row_size ps low = omega (arith, row_size order_name number_text 4 ps (λ i h. let p : get_or ps i 0 < 10000 = low i h in number_size 3 (get_or ps i 0) (omega arith)))

pub refused_row_size : (number place : ℕ) → number ≤ 10 → place < 10000 → length (refused_row number place) ≤ 20
unfolding refused_row
refused_row_size number place h g = omega (arith, row_size refused_name number_text 4 (number ∷ place ∷ []) (λ i l. fits i l))
  where
    fits : (i : ℕ) → i < 2 → length (number_text (get_or (number ∷ place ∷ []) i 0)) ≤ 4
    fits zero l = number_size 3 number (omega arith)
    fits (suc zero) l = number_size 3 place (omega arith)
    fits (suc (suc i)) l = absurd (omega arith)
