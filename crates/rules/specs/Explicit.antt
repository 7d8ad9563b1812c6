-- Explicit levels and directions: rules X1 to X9, as a machine that takes one class at a time.
use Rattle.std.specs.Prelude.{ℕ, ◌+◌, eqb, leb, if◌then◌else◌}
use mathlib.Core.List.{List, [], ◌∷◌, tail}
use Rattle.laws.specs.Choice.{is_odd, head_or}
use Rattle.rules.specs.Classes.{L, R, LRE, LRO, RLE, RLO, PDF, ON, is_removed, is_paragraph_end}

-- the highest level that a code may take
abbrev pub highest_explicit : ℕ
highest_explicit = 61

-- what a level buffer holds at a removed position
abbrev pub removed_level : ℕ
removed_level = 255

-- an override is the class that takes the place of others, L or R; neutral, that of no class, is written ON
abbrev pub neutral : ℕ
neutral = ON

-- a code that is not matched yet: of a valid one the level and override before it are remembered
pub data Entry : Type 0 where
  valid : ℕ → ℕ → Entry
  invalid : Entry

-- where the machine stands: the level, the override, and the codes not matched yet, the nearest first
pub record State : Type 0 where
  pub level : ℕ
  pub override : ℕ
  pub unmatched : List Entry

-- X1: begin at the base level with no override
unfoldable pub X1 : ℕ → State
X1 base = record { level = base; override = neutral; unmatched = [] }

-- the least greater odd level, and the least greater even one
unfoldable pub least_greater_odd : ℕ → ℕ
least_greater_odd l = if is_odd l then l + 2 else l + 1

unfoldable pub least_greater_even : ℕ → ℕ
least_greater_even l = if is_odd l then l + 1 else l + 2

-- what a class does in a state
pub data Verdict : Type 0 where
  -- to which level and override
  opens_valid : ℕ → ℕ → Verdict
  opens_invalid : Verdict
  -- back to which level and override
  closes_valid : ℕ → ℕ → Verdict
  closes_invalid : Verdict
  closes_nothing : Verdict
  plain : Verdict

-- what a code opens: it is valid where the level that it asks for is at most 61
unfoldable pub opening : ℕ → ℕ → Verdict
opening new override = if leb new highest_explicit then opens_valid new override else opens_invalid

-- what a PDF closes: the nearest code not yet matched, valid or not
unfoldable pub closing : List Entry → Verdict
closing [] = closes_nothing
closing (valid l o ∷ es) = closes_valid l o
closing (invalid ∷ es) = closes_invalid

-- X2: RLE asks for the least greater odd level, with no override
unfoldable pub X2 : State → Verdict
X2 s = opening (least_greater_odd s.level) neutral

-- X3: LRE asks for the least greater even level, with no override
unfoldable pub X3 : State → Verdict
X3 s = opening (least_greater_even s.level) neutral

-- X4: RLO asks for the least greater odd level, with the override R
unfoldable pub X4 : State → Verdict
X4 s = opening (least_greater_odd s.level) R

-- X5: LRO asks for the least greater even level, with the override L
unfoldable pub X5 : State → Verdict
X5 s = opening (least_greater_even s.level) L

-- X7: PDF closes the nearest code not yet matched
unfoldable pub X7 : State → Verdict
X7 s = closing s.unmatched

-- every other class is plain: it leaves the state as it is, B and CR too: behind them stands nothing but the B of a CR
unfoldable pub verdict : State → ℕ → Verdict
verdict s c =
    if eqb c RLE then X2 s else
    if eqb c LRE then X3 s else
    if eqb c RLO then X4 s else
    if eqb c LRO then X5 s else
    if eqb c PDF then X7 s else plain

-- the state that a verdict leads to
unfoldable pub after : State → Verdict → State
after s (opens_valid new o) = record { level = new; override = o; unmatched = valid s.level s.override ∷ s.unmatched }
after s opens_invalid = record { level = s.level; override = s.override; unmatched = invalid ∷ s.unmatched }
after s (closes_valid l o) = record { level = l; override = o; unmatched = tail s.unmatched }
after s closes_invalid = record { level = s.level; override = s.override; unmatched = tail s.unmatched }
after s closes_nothing = s
after s plain = s

-- the machine takes one class and gives its next state
unfoldable pub step : State → ℕ → State
step s c = after s (verdict s c)

-- X6: a position takes the current level, and under an override its direction
unfoldable pub X6_level : State → ℕ
X6_level s = s.level

unfoldable pub X6_type : State → ℕ → ℕ
X6_type s c = if eqb s.override neutral then c else s.override

-- X8: a paragraph separator is not in any embedding: it takes the base level and stays what it is.
-- X9: a removed position has no level, which is written 255
unfoldable pub level_here : ℕ → State → ℕ → ℕ
level_here base s c = if is_removed c then removed_level else if is_paragraph_end c then base else X6_level s

unfoldable pub type_here : State → ℕ → ℕ
type_here s c = if is_paragraph_end c then c else X6_type s c

-- the phase is that machine, step for step
unfoldable pub explicit_levels : ℕ → State → List ℕ → List ℕ
explicit_levels base s [] = []
explicit_levels base s (c ∷ cs) = level_here base s c ∷ explicit_levels base (step s c) cs

unfoldable pub explicit_types : State → List ℕ → List ℕ
explicit_types s [] = []
explicit_types s (c ∷ cs) = type_here s c ∷ explicit_types (step s c) cs

-- X9: of a list with an element for each position, those of the kept positions
unfoldable pub kept : List ℕ → List ℕ → List ℕ
kept [] xs = []
kept (c ∷ cs) [] = []
kept (c ∷ cs) (x ∷ xs) = if is_removed c then kept cs xs else x ∷ kept cs xs

-- the way back: the elements at the kept positions in turn, and 255 at the removed ones. There are always as many
-- elements as kept positions
unfoldable pub put_back : List ℕ → List ℕ → List ℕ
put_back [] xs = []
put_back (c ∷ cs) xs =
    if is_removed c then removed_level ∷ put_back cs xs else head_or removed_level xs ∷ put_back cs (tail xs)
