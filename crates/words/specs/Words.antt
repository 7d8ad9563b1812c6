-- How the printing program reads its input: lines, the words of a line, and what each word names.
use Rattle.std.specs.Prelude.{ℕ, ◌+◌, Bool, true, false, ◌&&◌, List, [], ◌∷◌, map, eqb, length, get_or, drop, if◌then◌else◌}

-- the bytes that end a line and stand between words
abbrev pub line_feed : ℕ
line_feed = 10

abbrev pub space : ℕ
space = 32

-- a byte put before the first part
abbrev pub to_first : ℕ → List (List ℕ) → List (List ℕ)
to_first b [] = (b ∷ []) ∷ []
to_first b (part ∷ parts) = (b ∷ part) ∷ parts

-- the parts that stand between separators; an empty part is a part, and a text with no separator is one part
unfoldable pub parts_at : ℕ → List ℕ → List (List ℕ)
parts_at separator [] = [] ∷ []
parts_at separator (b ∷ bs) =
    if eqb b separator then [] ∷ parts_at separator bs else to_first b (parts_at separator bs)

-- the first part, and the parts after it
abbrev pub first_part : List (List ℕ) → List ℕ
first_part [] = []
first_part (part ∷ parts) = part

abbrev pub later_parts : List (List ℕ) → List (List ℕ)
later_parts [] = []
later_parts (part ∷ parts) = parts

-- where the part ends that begins at a place: at the next separator or at the end of the bytes. Past the end it is empty
unfoldable pub part_end : ℕ → List ℕ → ℕ → ℕ
part_end separator bytes from = from + length (first_part (parts_at separator (drop from bytes)))

-- a line feed at the very end begins no further line: the last part is a line unless it is empty
abbrev pub unless_empty : List ℕ → List (List ℕ)
unless_empty [] = []
unless_empty (b ∷ bs) = (b ∷ bs) ∷ []

unfoldable pub without_empty_last : List (List ℕ) → List (List ℕ)
without_empty_last [] = []
without_empty_last (part ∷ []) = unless_empty part
without_empty_last (part ∷ next ∷ parts) = part ∷ without_empty_last (next ∷ parts)

unfoldable pub lines_of : List ℕ → List (List ℕ)
lines_of input = without_empty_last (parts_at line_feed input)

-- two words are the same, byte for byte
unfoldable pub same_word : List ℕ → List ℕ → Bool
same_word [] [] = true
same_word [] (y ∷ ys) = false
same_word (x ∷ xs) [] = false
same_word (x ∷ xs) (y ∷ ys) = eqb x y && same_word xs ys

-- the place of a word in a list of names, counted on from a number, or what stands for none of them
unfoldable pub place_among : ℕ → List (List ℕ) → ℕ → List ℕ → ℕ
place_among place [] none word = none
place_among place (name ∷ names) none word = if same_word word name then place else place_among (place + 1) names none word

-- the names of the classes in ASCII, in house order
abbrev pub class_names : List (List ℕ)
class_names =
    (76 ∷ []) ∷  -- L
    (76 ∷ 82 ∷ 69 ∷ []) ∷  -- LRE
    (76 ∷ 82 ∷ 79 ∷ []) ∷  -- LRO
    (82 ∷ []) ∷  -- R
    (65 ∷ 76 ∷ []) ∷  -- AL
    (82 ∷ 76 ∷ 69 ∷ []) ∷  -- RLE
    (82 ∷ 76 ∷ 79 ∷ []) ∷  -- RLO
    (80 ∷ 68 ∷ 70 ∷ []) ∷  -- PDF
    (69 ∷ 78 ∷ []) ∷  -- EN
    (69 ∷ 83 ∷ []) ∷  -- ES
    (69 ∷ 84 ∷ []) ∷  -- ET
    (65 ∷ 78 ∷ []) ∷  -- AN
    (67 ∷ 83 ∷ []) ∷  -- CS
    (78 ∷ 83 ∷ 77 ∷ []) ∷  -- NSM
    (66 ∷ 78 ∷ []) ∷  -- BN
    (66 ∷ []) ∷  -- B
    (83 ∷ []) ∷  -- S
    (87 ∷ 83 ∷ []) ∷  -- WS
    (79 ∷ 78 ∷ []) ∷  -- ON
    (67 ∷ 82 ∷ []) ∷  -- CR
    []

-- an unknown name counts as class 255
abbrev pub unknown_name : ℕ
unknown_name = 255

-- a word names the class at whose place it stands
unfoldable pub class_named : List ℕ → ℕ
class_named word = place_among 0 class_names unknown_name word

-- the first words in ASCII, and what each asks: a request, and the default that goes with it. 2 means 20, and any other
-- word is request 3
abbrev pub first_words : List (List ℕ)
first_words =
    (48 ∷ []) ∷  -- 0
    (49 ∷ []) ∷  -- 1
    (50 ∷ []) ∷  -- 2
    (50 ∷ 48 ∷ []) ∷  -- 20
    (50 ∷ 49 ∷ []) ∷  -- 21
    []

abbrev pub requests_asked : List ℕ
requests_asked = 0 ∷ 1 ∷ 2 ∷ 2 ∷ 2 ∷ []

abbrev pub fallbacks_asked : List ℕ
fallbacks_asked = 0 ∷ 0 ∷ 0 ∷ 0 ∷ 1 ∷ []

-- the place of a first word, behind the last one where it is none of them
unfoldable pub first_word_place : List ℕ → ℕ
first_word_place word = place_among 0 first_words 5 word

unfoldable pub request_named : List ℕ → ℕ
request_named word = get_or requests_asked (first_word_place word) 3

unfoldable pub fallback_named : List ℕ → ℕ
fallback_named word = get_or fallbacks_asked (first_word_place word) 0

-- a line: its first word asks a request and a default, each further word is a class. An empty line has no classes
unfoldable pub request_of : List ℕ → ℕ
request_of line = request_named (first_part (parts_at space line))

unfoldable pub fallback_of : List ℕ → ℕ
fallback_of line = fallback_named (first_part (parts_at space line))

unfoldable pub classes_of : List ℕ → List ℕ
classes_of line = map class_named (later_parts (parts_at space line))
