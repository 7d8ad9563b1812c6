-- The tables of src/lib.rt: that their numbers are what these rows make of the rules is computed. And how a table is read.
use Rattle.std.specs.Prelude.{ℕ, ◌+◌, ◌*◌, min, Bool, not, List, [], ◌∷◌, eqb, get_or, if◌then◌else◌}
use Rattle.std.specs.Int.Bits.{bit_and, bit_or}
use Rattle.laws.specs.Tables.{table_of}
use Rattle.rules.specs.Classes.{L, R, AL, last_place, row_width, is_strong}
use Rattle.weak_steps.specs.declared.Table.{Table}
use Rattle.rules.specs.Weak.{change_W2, change_W3, change_W6, change_W7, is_side}

-- two entries for a type: 255 where what was stays and 0 where it changes; and what it changes to, 0 where it stays
abbrev pub keeps : (ℕ → Bool) → ℕ → ℕ
keeps changes t = if changes t then 0 else 255

abbrev pub gives : (ℕ → Bool) → (ℕ → ℕ) → ℕ → ℕ
gives changes new t = if changes t then new t else 0

-- whether a rule changes a type
abbrev pub alters : (ℕ → ℕ) → ℕ → Bool
alters rule t = not (eqb (rule t) t)

-- the rows of a pass: what its rules make of a type behind any other strong type and behind the one that makes a
-- difference, and which types are strong
abbrev pub rows : (ℕ → ℕ) → (ℕ → ℕ) → (ℕ → Bool) → List (ℕ → ℕ)
rows other behind strong =
    keeps (alters other) ∷ keeps (alters behind)
    ∷ gives (alters other) other ∷ gives (alters behind) behind
    ∷ keeps strong ∷ gives strong (λ t. t) ∷ []

-- W2 and W3, where AL makes a difference; L stands for any other strong type
unfoldable pub early : List ℕ
early = table_of row_width (rows (λ t. change_W3 (change_W2 L t)) (λ t. change_W3 (change_W2 AL t)) is_strong)

-- W6 and W7, where L makes a difference; R stands for any other
unfoldable pub late : List ℕ
late = table_of row_width (rows (λ t. change_W7 R (change_W6 t)) (λ t. change_W7 L (change_W6 t)) is_side)

-- ---- reading
-- a type's entry in one of the rows
abbrev pub entry : List ℕ → ℕ → ℕ → ℕ
entry table row t = get_or table (row * row_width + min t last_place) 0

-- what two entries leave of a number: all of it or nothing, and then what it changes to
abbrev pub masked : ℕ → ℕ → ℕ → ℕ
masked old keep new = bit_or (bit_and old keep) new

-- what a type becomes behind a strong type, by the rows of that one or of any other than the one wanted
unfoldable pub changed : List ℕ → ℕ → ℕ → ℕ → ℕ
changed table wanted strong t =
    let row : ℕ = if eqb strong wanted then 1 else 0 in
    masked t (entry table row t) (entry table (2 + row) t)

-- the strong type for what follows a type
unfoldable pub carried : List ℕ → ℕ → ℕ → ℕ
carried table strong t = masked strong (entry table 4 t) (entry table 5 t)

-- ---- the struct: the table of a pass with the strong type that it asks for
abbrev pub becomes : Table → ℕ → ℕ → ℕ
becomes table strong t = changed table.entries table.wanted strong t

abbrev pub follows : Table → ℕ → ℕ → ℕ
follows table strong t = carried table.entries strong t

abbrev pub early_steps : Table
early_steps = record { wanted = AL; entries = early }

abbrev pub late_steps : Table
late_steps = record { wanted = L; entries = late }
