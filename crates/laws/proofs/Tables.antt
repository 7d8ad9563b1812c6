-- What is read off a table is what its rule makes of the number, for every number, where the rule makes no difference
-- from the last place on. Assumes nothing.
use Prim.Native.Nat.{ℕ, zero, suc, ◌+◌, ◌*◌, ◌≤◌, ◌<◌, min}
use native.Mathlib.Nat.{not-suc-le-zero, le_of_suc-le-suc, min-eq_left, min-eq_right, zero-mul, suc-mul}
use native.Mathlib.Omega.{arith}
use mathlib.Core.Logic.{◌⊎◌, inl, inr}
use mathlib.Core.Path.{◌≡◌, refl, sym, ap, ◌∙◌}
use mathlib.Core.List.{List, [], ◌∷◌, ◌++◌, map}
use lib.ListN.{length, get_or, length-map, get_or-append}
use lib.Seq.{get_or-append-add}
use Rattle.laws.specs.Choice.{up_from}
use Rattle.laws.specs.Tables.{row_of, table_of}
use Rattle.laws.proofs.Lists.{le_or_lt}

length_up : (from count : ℕ) → length (up_from from count) ≡ count
unfolding up_from
length_up from zero = refl
length_up from (suc count) = ap suc (length_up (suc from) count)

length_row : (width : ℕ) (rule : ℕ → ℕ) → length (row_of width rule) ≡ width
unfolding row_of
length_row width rule = length-map (up_from 0 width) rule ∙ length_up 0 width

from_entry : (rule : ℕ → ℕ) (from count i : ℕ) → i < count → get_or (map rule (up_from from count)) i 0 ≡ rule (from + i)
unfolding up_from
from_entry rule from zero i h = absurd (not-suc-le-zero h)
from_entry rule from (suc count) zero h = let here : from ≡ from + 0 = omega arith in ap rule here
from_entry rule from (suc count) (suc i) h =
    let there : suc from + i ≡ from + suc i = omega arith in
    from_entry rule (suc from) count i (le_of_suc-le-suc h) ∙ ap rule there

row_entry : (width : ℕ) (rule : ℕ → ℕ) (i : ℕ) → i < width → get_or (row_of width rule) i 0 ≡ rule i
unfolding row_of
row_entry width rule i h = let here : 0 + i ≡ i = omega arith in from_entry rule 0 width i h ∙ ap rule here

-- the rule of a row; there is none behind the last
abbrev pub rule_at : List (ℕ → ℕ) → ℕ → ℕ → ℕ
rule_at rules row = get_or rules row (λ t. 0)

pub table_entry : (width : ℕ) (rules : List (ℕ → ℕ)) (row i : ℕ) → i < width → get_or (table_of width rules) (row * width + i) 0 ≡ rule_at rules row i
unfolding table_of
table_entry width [] row i h = refl
table_entry width (rule ∷ rules) zero i h =
    let here : 0 * width + i ≡ i = ap (λ (n : ℕ). n + i) (zero-mul width) ∙ omega arith in
    ap (λ (n : ℕ). get_or (row_of width rule ++ table_of width rules) n 0) here
    ∙ get_or-append (row_of width rule) (table_of width rules) 0 i (omega (arith, length_row width rule))
    ∙ row_entry width rule i h
table_entry width (rule ∷ rules) (suc row) i h =
    let there : suc row * width + i ≡ length (row_of width rule) + (row * width + i) = omega (arith, suc-mul row width, length_row width rule) in
    ap (λ (n : ℕ). get_or (row_of width rule ++ table_of width rules) n 0) there
    ∙ get_or-append-add (row_of width rule) (table_of width rules) (row * width + i) 0
    ∙ table_entry width rules row i h

-- a rule that makes no difference between the numbers from the last place on
abbrev pub Flat : ℕ → (ℕ → ℕ) → Type 0
Flat last rule = (t : ℕ) → last ≤ t → rule t ≡ rule last

-- the entry of a number: at its own place, or at the last
pub at_place : (width last : ℕ) (rules : List (ℕ → ℕ)) (row t : ℕ) → last < width → Flat last (rule_at rules row) → get_or (table_of width rules) (row * width + min t last) 0 ≡ rule_at rules row t
at_place width last rules row t room flat = by (le_or_lt t last)
  where
    by : (t ≤ last) ⊎ (last < t) → get_or (table_of width rules) (row * width + min t last) 0 ≡ rule_at rules row t
    by (inl h) = rw (min-eq_left h) (table_entry width rules row t (omega arith))
    by (inr h) = let all : last ≤ t = omega arith in rw (min-eq_right all) (table_entry width rules row last room ∙ sym (flat t all))
