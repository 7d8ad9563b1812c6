-- What the printing program writes: numbers, and rows of a name and numbers; and what putting a text into a lent buffer does.
use Rattle.std.specs.Prelude.{ℕ, zero, suc, ◌+◌, ◌/◌, ◌%◌, min, ◌≡◌, List, [], ◌∷◌, ◌++◌, eqb, ltb, length, set, if◌then◌else◌}
use Rattle.rules.specs.Explicit.{removed_level}
use Rattle.words.specs.Words.{space, line_feed}

-- ASCII: the dash, and a number below ten as a digit
abbrev pub dash : ℕ
dash = 45

abbrev pub digit : ℕ → ℕ
digit n = 48 + n

-- a number in decimal with no zero before it, the first digit first; `left` is how many digits there may be
unfoldable pub decimal : ℕ → ℕ → List ℕ
decimal zero n = []
decimal (suc left) n = if ltb n 10 then digit n ∷ [] else decimal left (n / 10) ++ (digit (n % 10) ∷ [])

-- no number has more digits than one above itself
unfoldable pub number_text : ℕ → List ℕ
number_text n = decimal (suc n) n

-- a level, a dash where the position is removed
unfoldable pub level_text : ℕ → List ℕ
level_text level = if eqb level removed_level then dash ∷ [] else number_text level

-- each value behind a space
unfoldable pub spaced : (ℕ → List ℕ) → List ℕ → List ℕ
spaced text [] = []
spaced text (x ∷ xs) = (space ∷ text x) ++ spaced text xs

-- a row: its name, the values, and the line feed
abbrev row : List ℕ → (ℕ → List ℕ) → List ℕ → List ℕ
row name text values = name ++ spaced text values ++ (line_feed ∷ [])

-- the words `base`, `levels`, `order` and `refused`
abbrev pub base_name : List ℕ
base_name = 98 ∷ 97 ∷ 115 ∷ 101 ∷ []

abbrev pub levels_name : List ℕ
levels_name = 108 ∷ 101 ∷ 118 ∷ 101 ∷ 108 ∷ 115 ∷ []

abbrev pub order_name : List ℕ
order_name = 111 ∷ 114 ∷ 100 ∷ 101 ∷ 114 ∷ []

abbrev pub refused_name : List ℕ
refused_name = 114 ∷ 101 ∷ 102 ∷ 117 ∷ 115 ∷ 101 ∷ 100 ∷ []

unfoldable pub base_row : ℕ → List ℕ
base_row base = row base_name number_text (base ∷ [])

unfoldable pub levels_row : List ℕ → List ℕ
levels_row levels = row levels_name level_text levels

unfoldable pub order_row : List ℕ → List ℕ
order_row order = row order_name number_text order

unfoldable pub refused_row : ℕ → ℕ → List ℕ
refused_row number place = row refused_name number_text (number ∷ place ∷ [])

-- a buffer with a text put into it from a place on, as far as the buffer goes
unfoldable pub put_text : ℕ → List ℕ → List ℕ → List ℕ
put_text at [] buffer = buffer
put_text at (b ∷ bs) buffer = put_text (suc at) bs (set buffer at b)

-- what a function that puts a text promises: the buffer, and the place behind the text, at most the buffer's end
pub record Puts (text before : List ℕ) (at : ℕ) (after : List ℕ) (end : ℕ) : Type 0 where
  pub buffer : after ≡ put_text at text before
  pub behind : end ≡ min (at + length text) (length before)
