-- Worked drawing orders: examples of source document 001, a pair of marks that source document 002 orders, and texts that
-- show what a flag does and does not do. rules/proofs/ExampleLaws.antt proves each of them.
use Rattle.std.specs.Prelude.{ℕ, List, [], ◌∷◌}

pub record Example : Type 0 where
  pub classes : List ℕ
  pub flags : List ℕ
  pub order : List ℕ

abbrev example : List ℕ → List ℕ → List ℕ → Example
example classes flags order = record { classes = classes; flags = flags; order = order }

-- a base letter, or the combining grapheme joiner: class zero. The Arabic marks that are named, by class
abbrev letter : ℕ
letter = 0

abbrev joiner : ℕ
joiner = 0

abbrev damma : ℕ
damma = 31

abbrev kasra : ℕ
kasra = 32

abbrev shadda : ℕ
shadda = 33

abbrev sukun : ℕ
sukun = 34

abbrev mark_below : ℕ
mark_below = 220

abbrev mark_above : ℕ
mark_above = 230

abbrev pub examples : List Example
examples =
    -- section 2: damma and shadda, either way; shadda is nearer to the letter
    example (letter ∷ damma ∷ shadda ∷ []) (0 ∷ 0 ∷ 0 ∷ []) (0 ∷ 2 ∷ 1 ∷ []) ∷
    example (letter ∷ shadda ∷ damma ∷ []) (0 ∷ 0 ∷ 0 ∷ []) (0 ∷ 1 ∷ 2 ∷ []) ∷
    -- example 1: hamza above is nearer than damma
    example (letter ∷ damma ∷ mark_above ∷ []) (0 ∷ 0 ∷ 1 ∷ []) (0 ∷ 2 ∷ 1 ∷ []) ∷
    -- example 2b: small high seen is nearer than sukun, unless the joiner stands between
    example (letter ∷ sukun ∷ mark_above ∷ []) (0 ∷ 0 ∷ 1 ∷ []) (0 ∷ 2 ∷ 1 ∷ []) ∷
    example (letter ∷ sukun ∷ joiner ∷ mark_above ∷ []) (0 ∷ 0 ∷ 0 ∷ 1 ∷ []) (0 ∷ 1 ∷ 2 ∷ 3 ∷ []) ∷
    -- example 3: small high yeh is nearer than shadda
    example (letter ∷ shadda ∷ mark_above ∷ []) (0 ∷ 0 ∷ 1 ∷ []) (0 ∷ 2 ∷ 1 ∷ []) ∷
    -- example 6a: small low noon with fatha is nearer than kasra
    example (letter ∷ kasra ∷ mark_below ∷ []) (0 ∷ 0 ∷ 1 ∷ []) (0 ∷ 2 ∷ 1 ∷ []) ∷
    -- example 9: small low noon with kasra has no flag
    example (letter ∷ mark_above ∷ joiner ∷ kasra ∷ []) (0 ∷ 0 ∷ 0 ∷ 0 ∷ []) (0 ∷ 1 ∷ 2 ∷ 3 ∷ []) ∷
    -- source document 002, below its table 3-2: a, diaeresis, underdot
    example (letter ∷ mark_above ∷ mark_below ∷ []) (0 ∷ 0 ∷ 0 ∷ []) (0 ∷ 2 ∷ 1 ∷ []) ∷
    -- a flag on another class, and a flag behind a mark of its class that has none: no effect
    example (letter ∷ damma ∷ sukun ∷ mark_above ∷ mark_above ∷ []) (0 ∷ 0 ∷ 1 ∷ 0 ∷ 1 ∷ []) (0 ∷ 1 ∷ 2 ∷ 3 ∷ 4 ∷ []) ∷
    -- a stretch with no letter before it
    example (damma ∷ shadda ∷ letter ∷ []) (0 ∷ 0 ∷ 0 ∷ []) (1 ∷ 0 ∷ 2 ∷ []) ∷
    -- every step, and a 220 with no flag
    example (letter ∷ damma ∷ mark_above ∷ shadda ∷ mark_below ∷ mark_below ∷ []) (0 ∷ 0 ∷ 1 ∷ 0 ∷ 7 ∷ 0 ∷ []) (0 ∷ 4 ∷ 2 ∷ 3 ∷ 1 ∷ 5 ∷ []) ∷
    []
