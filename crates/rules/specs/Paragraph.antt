-- Paragraphs and the base level: rules P1 to P3.
use Rattle.std.specs.Prelude.{ℕ, Option, None, Some, Bool, false, ◌||◌, ◌&&◌, List, [], ◌∷◌, eqb, if◌then◌else◌}
use Rattle.rules.specs.Classes.{R, AL, B, CR, is_paragraph_end, is_strong}

-- a class, given what stands after it: whether it is a CR and a B follows it directly
unfoldable pub is_pair : ℕ → List ℕ → Bool
is_pair c [] = false
is_pair c (next ∷ cs) = eqb c CR && eqb next B

-- P1: the first paragraph ends after the first B; or after a CR and its B; or after a CR that no B follows. It keeps what
-- ends it. With none of these it ends with the text
unfoldable pub P1 : List ℕ → List ℕ
P1 [] = []
P1 (c ∷ cs) = if is_pair c cs then c ∷ B ∷ [] else if is_paragraph_end c then c ∷ [] else c ∷ P1 cs

-- P2: the first strong class of the paragraph, wherever it is nested
unfoldable pub P2 : List ℕ → Option ℕ
P2 [] = None
P2 (c ∷ cs) = if is_strong c then Some c else P2 cs

-- P3: level 1 where that is R or AL, and 0 where it is L. Where there is none, the text decides nothing
unfoldable pub P3 : Option ℕ → Option ℕ
P3 None = None
P3 (Some c) = Some (if eqb c R || eqb c AL then 1 else 0)

-- what the text says of its base level: 0, 1, or none found
unfoldable pub base_by_text : List ℕ → Option ℕ
base_by_text cs = P3 (P2 cs)

abbrev pub or_else : Option ℕ → ℕ → ℕ
or_else None fallback = fallback
or_else (Some level) fallback = level

-- a base request is the level 0 or 1 itself, or 2: by text, or else by the default, here called fallback
unfoldable pub base_of : ℕ → ℕ → List ℕ → ℕ
base_of request fallback cs = if eqb request 2 then or_else (base_by_text cs) fallback else request
