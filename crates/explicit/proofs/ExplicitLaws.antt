-- The explicit phase by its definitions alone: its equations, its lengths, and that no level of a kept position passes 61.
-- Assumes nothing.
use Rattle.std.specs.Prelude.{if◌then◌else◌}
use Prim.Native.Nat.{ℕ, zero, suc, ◌≤◌, zero-le, suc-le-suc}
use native.Mathlib.Omega.{arith}
use mathlib.Core.Path.{◌≡◌, refl, ap}
use mathlib.Core.Bool.{Bool, true, false}
use mathlib.Core.List.{List, [], ◌∷◌, tail}
use borrow.Author.Tests.{leb-true}
use lib.Dec.{eqb, leb}
use lib.ListN.{length, get_or}
use Rattle.rules.specs.Classes.{L, R, LRE, LRO, RLE, RLO, PDF, is_removed, is_paragraph_end}
use Rattle.rules.specs.Explicit.{State, Entry, valid, invalid, Verdict, opens_valid, opens_invalid, closes_valid, closes_invalid, closes_nothing, plain, neutral, X1, least_greater_odd, least_greater_even, opening, closing, X2, X3, X4, X5, X7, verdict, after, step, X6_level, level_here, type_here, explicit_levels, explicit_types, kept, highest_explicit}

-- equations

pub levels_none : (base : ℕ) (s : State) → explicit_levels base s [] ≡ []
unfolding explicit_levels
levels_none base s = refl

pub levels_more : (base : ℕ) (s : State) (c : ℕ) (cs : List ℕ)
    → explicit_levels base s (c ∷ cs) ≡ level_here base s c ∷ explicit_levels base (step s c) cs
unfolding explicit_levels
levels_more base s c cs = refl

pub types_more : (s : State) (c : ℕ) (cs : List ℕ) → explicit_types s (c ∷ cs) ≡ type_here s c ∷ explicit_types (step s c) cs
unfolding explicit_types
types_more s c cs = refl

pub kept_none : (xs : List ℕ) → kept [] xs ≡ []
unfolding kept
kept_none xs = refl

pub kept_removed : (c : ℕ) (cs : List ℕ) (x : ℕ) (xs : List ℕ) → is_removed c ≡ true → kept (c ∷ cs) (x ∷ xs) ≡ kept cs xs
unfolding kept
kept_removed c cs x xs e = rw e

pub kept_kept : (c : ℕ) (cs : List ℕ) (x : ℕ) (xs : List ℕ) → is_removed c ≡ false → kept (c ∷ cs) (x ∷ xs) ≡ x ∷ kept cs xs
unfolding kept
kept_kept c cs x xs e = rw e

-- lengths

pub length_levels : (base : ℕ) (s : State) (cs : List ℕ) → length (explicit_levels base s cs) ≡ length cs
unfolding explicit_levels
length_levels base s [] = refl
length_levels base s (c ∷ cs) = ap suc (length_levels base (step s c) cs)

pub length_types : (s : State) (cs : List ℕ) → length (explicit_types s cs) ≡ length cs
unfolding explicit_types
length_types s [] = refl
length_types s (c ∷ cs) = ap suc (length_types (step s c) cs)

if_length : (b : Bool) (x : ℕ) (xs : List ℕ) {n : ℕ} → length xs ≤ n → length (if b then xs else x ∷ xs) ≤ suc n
if_length true x xs h = omega arith
if_length false x xs h = suc-le-suc h

pub length_kept : (cs xs : List ℕ) → length (kept cs xs) ≤ length cs
unfolding kept
length_kept [] xs = zero-le
length_kept (c ∷ cs) [] = zero-le
length_kept (c ∷ cs) (x ∷ xs) = if_length (is_removed c) x (kept cs xs) (length_kept cs xs)

if_same : (b : Bool) (x y : ℕ) (xs ys : List ℕ) → length xs ≡ length ys
    → length (if b then xs else x ∷ xs) ≡ length (if b then ys else y ∷ ys)
if_same true x y xs ys e = e
if_same false x y xs ys e = ap suc e

-- as many are kept of any two lists with an element for each position
pub length_kept_same : (cs xs ys : List ℕ) → length xs ≡ length cs → length ys ≡ length cs → length (kept cs xs) ≡ length (kept cs ys)
unfolding kept
length_kept_same [] xs ys e f = refl
length_kept_same (c ∷ cs) [] ys e f = absurd (omega arith)
length_kept_same (c ∷ cs) (x ∷ xs) [] e f = absurd (omega arith)
length_kept_same (c ∷ cs) (x ∷ xs) (y ∷ ys) e f =
    if_same (is_removed c) x y (kept cs xs) (kept cs ys) (length_kept_same cs xs ys (omega arith) (omega arith))

pub length_kept_types : (base : ℕ) (cs : List ℕ)
    → length (kept cs (explicit_types (X1 base) cs)) ≡ length (kept cs (explicit_levels base (X1 base) cs))
length_kept_types base cs =
    length_kept_same cs (explicit_types (X1 base) cs) (explicit_levels base (X1 base) cs) (length_types (X1 base) cs) (length_levels base (X1 base) cs)

-- no level passes 61: neither the present one nor one that is remembered

pub data LowEntries : List Entry → Type 0 where
  none : LowEntries []
  pair : {l o : ℕ} {es : List Entry} → l ≤ highest_explicit → LowEntries es → LowEntries (valid l o ∷ es)
  mark : {es : List Entry} → LowEntries es → LowEntries (invalid ∷ es)

pub record Low (s : State) : Type 0 where
  pub level : s.level ≤ highest_explicit
  pub entries : LowEntries s.unmatched

-- a verdict that leads to no higher level
abbrev Lawful : Verdict → Type 0
Lawful (opens_valid l o) = l ≤ highest_explicit
Lawful opens_invalid = Unit
Lawful (closes_valid l o) = l ≤ highest_explicit
Lawful closes_invalid = Unit
Lawful closes_nothing = Unit
Lawful plain = Unit

low_tail : (es : List Entry) → LowEntries es → LowEntries (tail es)
low_tail [] none = none
low_tail (valid l o ∷ es) (pair h f) = f
low_tail (invalid ∷ es) (mark f) = f

closing_lawful : (es : List Entry) → LowEntries es → Lawful (closing es)
unfolding closing
closing_lawful [] none = tt
closing_lawful (valid l o ∷ es) (pair h f) = h
closing_lawful (invalid ∷ es) (mark f) = tt

opening_lawful : (l o : ℕ) → Lawful (opening l o)
unfolding opening
opening_lawful l o = go (leb l highest_explicit) refl
  where
    go : (b : Bool) → leb l highest_explicit ≡ b → Lawful (if b then opens_valid l o else opens_invalid)
    go true e = leb-true l highest_explicit e
    go false e = tt

if_lawful : (b : Bool) (v w : Verdict) → Lawful v → Lawful w → Lawful (if b then v else w)
if_lawful true v w p q = p
if_lawful false v w p q = q

verdict_lawful : (s : State) (c : ℕ) → Low s → Lawful (verdict s c)
unfolding verdict X2 X3 X4 X5 X7
verdict_lawful s c h =
    if_lawful (eqb c RLE) _ _ (opening_lawful (least_greater_odd s.level) neutral)
    (if_lawful (eqb c LRE) _ _ (opening_lawful (least_greater_even s.level) neutral)
    (if_lawful (eqb c RLO) _ _ (opening_lawful (least_greater_odd s.level) R)
    (if_lawful (eqb c LRO) _ _ (opening_lawful (least_greater_even s.level) L)
    (if_lawful (eqb c PDF) _ _ (closing_lawful s.unmatched h.entries) tt))))

after_low : (s : State) (v : Verdict) → Low s → Lawful v → Low (after s v)
unfolding after
after_low s (opens_valid l o) h k = record { level = k; entries = pair h.level h.entries }
after_low s opens_invalid h k = record { level = h.level; entries = mark h.entries }
after_low s (closes_valid l o) h k = record { level = k; entries = low_tail s.unmatched h.entries }
after_low s closes_invalid h k = record { level = h.level; entries = low_tail s.unmatched h.entries }
after_low s closes_nothing h k = h
after_low s plain h k = h

pub step_low : (s : State) (c : ℕ) → Low s → Low (step s c)
unfolding step
step_low s c h = after_low s (verdict s c) h (verdict_lawful s c h)

pub start_low : (base : ℕ) → base ≤ 1 → Low (X1 base)
unfolding X1
start_low base h = record { level = omega arith; entries = none }

if_low : (b : Bool) {x y : ℕ} → x ≤ highest_explicit → y ≤ highest_explicit → (if b then x else y) ≤ highest_explicit
if_low true h k = h
if_low false h k = k

here_low : (base : ℕ) (s : State) (c : ℕ) → base ≤ highest_explicit → Low s → is_removed c ≡ false → level_here base s c ≤ highest_explicit
unfolding level_here X6_level
here_low base s c b h e = rw e (if_low (is_paragraph_end c) b h.level)

pub kept_levels_low : (base : ℕ) (s : State) (cs : List ℕ) → base ≤ highest_explicit → Low s → (i : ℕ)
    → get_or (kept cs (explicit_levels base s cs)) i 0 ≤ highest_explicit
unfolding kept explicit_levels
kept_levels_low base s [] b h i = zero-le
kept_levels_low base s (c ∷ cs) b h i = go (is_removed c) refl (kept_levels_low base (step s c) cs b (step_low s c h)) i
  where
    go : (r : Bool) → is_removed c ≡ r → ((j : ℕ) → get_or (kept cs (explicit_levels base (step s c) cs)) j 0 ≤ highest_explicit) → (j : ℕ)
        → get_or (if r then kept cs (explicit_levels base (step s c) cs) else level_here base s c ∷ kept cs (explicit_levels base (step s c) cs)) j 0 ≤ highest_explicit
    go true e rest j = rest j
    go false e rest zero = here_low base s c b h e
    go false e rest (suc j) = rest j

-- what the phase writes on kept positions is at most 61
pub kept_low : (base : ℕ) (cs : List ℕ) → base ≤ 1 → (i : ℕ) → get_or (kept cs (explicit_levels base (X1 base) cs)) i 0 ≤ highest_explicit
kept_low base cs h = kept_levels_low base (X1 base) cs (omega arith) (start_low base h)
