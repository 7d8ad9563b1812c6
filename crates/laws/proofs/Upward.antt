-- Numbers from one on, `up_from`: each of them, and the list parted or one longer. Assumes nothing.
use Prim.Native.Nat.{ℕ, zero, suc, ◌+◌, ◌-◌, ◌≤◌, ◌<◌}
use native.Mathlib.Omega.{arith}
use mathlib.Core.Path.{◌≡◌, refl, ap, ◌∙◌}
use mathlib.Core.List.{List, [], ◌∷◌, ◌++◌}
use lib.ListN.{length, get_or}
use Rattle.laws.specs.Choice.{up_from}
use Rattle.laws.proofs.Every.{Every}

pub every_up : (P : ℕ → Type 0) (at count : ℕ) → ((x : ℕ) → at ≤ x → x < at + count → P x) → Every P (up_from at count)
unfolding up_from
every_up P at zero each = tt
every_up P at (suc count) each = (each at (omega arith) (omega arith), every_up P (suc at) count (λ x low high. each x (omega arith) (omega arith)))

up_parted : (at a b : ℕ) → up_from at (a + b) ≡ up_from at a ++ up_from (at + a) b
unfolding up_from
up_parted at zero b =
    let n : 0 + b ≡ b = omega arith in
    let here : at ≡ at + 0 = omega arith in
    (λ j. up_from (here j) (n j))
up_parted at (suc a) b =
    let n : suc a + b ≡ suc (a + b) = omega arith in
    let there : suc at + a ≡ at + suc a = omega arith in
    ap (up_from at) n ∙ ap (λ (l : List ℕ). at ∷ l) (up_parted (suc at) a b ∙ ap (λ (m : ℕ). up_from (suc at) a ++ up_from m b) there)

up_here : (at end : ℕ) → at < end → up_from at (end - at) ≡ at ∷ up_from (at + 1) (end - (at + 1))
unfolding up_from
up_here at end h =
    let n : end - at ≡ suc (end - (at + 1)) = omega arith in
    let next : suc at ≡ at + 1 = omega arith in
    ap (up_from at) n ∙ ap (λ (m : ℕ). at ∷ up_from m (end - (at + 1))) next

pub up_from_lem : (start i end : ℕ) → start ≤ i → i < end → up_from start (end - start) ≡ up_from start (i - start) ++ (i ∷ up_from (i + 1) (end - (i + 1)))
up_from_lem start i end low high =
    let n : end - start ≡ (i - start) + (end - i) = omega arith in
    let there : start + (i - start) ≡ i = omega arith in
    ap (up_from start) n ∙ up_parted start (i - start) (end - i)
    ∙ ap (λ (m : ℕ). up_from start (i - start) ++ up_from m (end - i)) there
    ∙ ap (λ (l : List ℕ). up_from start (i - start) ++ l) (up_here i end high)

pub up_none : (at : ℕ) → up_from at (at - at) ≡ []
unfolding up_from
up_none at = let n : at - at ≡ 0 = omega arith in ap (up_from at) n

pub up_next : (start i : ℕ) → start ≤ i → up_from start (i + 1 - start) ≡ up_from start (i - start) ++ (i ∷ [])
up_next start i low =
    up_from_lem start i (i + 1) low (omega arith)
    ∙ ap (λ (l : List ℕ). up_from start (i - start) ++ (i ∷ l)) (up_none (i + 1))

pub length_up : (at count : ℕ) → length (up_from at count) ≡ count
unfolding up_from
length_up at zero = refl
length_up at (suc count) = ap suc (length_up (suc at) count)

pub get_or_up : (at count i : ℕ) → i < count → get_or (up_from at count) i 0 ≡ at + i
unfolding up_from
get_or_up at zero i h = absurd (omega arith)
get_or_up at (suc count) zero h = omega arith
get_or_up at (suc count) (suc i) h =
    let next : get_or (up_from (suc at) count) i 0 ≡ suc at + i = get_or_up (suc at) count i (omega arith) in omega arith
