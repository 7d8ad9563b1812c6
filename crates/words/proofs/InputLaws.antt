-- The lines of an input, one after the other. A loop that takes the bytes up to the part's end as a line while there are
-- bytes left, and goes on behind that end, takes exactly the lines of the input.
-- Assumes nothing.
use Prim.Native.Nat.{ℕ, ◌+◌, ◌-◌, ◌≤◌, ◌<◌}
use native.Mathlib.Omega.{arith}
use mathlib.Core.Path.{◌≡◌, refl, sym, ap, ◌∙◌}
use mathlib.Core.Logic.{◌⊎◌, inl, inr}
use mathlib.Core.List.{List, [], ◌∷◌}
use lib.ListN.{length, take, drop, length-take, length-drop, drop_of_length-le}
use Rattle.laws.proofs.Lists.{le_or_lt}
use Rattle.words.specs.Words.{line_feed, parts_at, part_end, without_empty_last, lines_of}
use Rattle.words.proofs.PartLaws.{parts_behind, parts_next, behind_next, behind_end}

pub lines_nil : lines_of [] ≡ []
unfolding lines_of without_empty_last parts_at
lines_nil = refl

-- no line begins where no byte is left
pub lines_end : (input : List ℕ) (i : ℕ) → length input ≤ i → lines_of (drop i input) ≡ []
lines_end input i past = ap lines_of (drop_of_length-le input past) ∙ lines_nil

-- a part with parts behind it is a line, and so is a last one that is not empty
line_on : (part : List ℕ) {next : List ℕ} {parts further : List (List ℕ)} → parts ≡ next ∷ further → without_empty_last (part ∷ parts) ≡ part ∷ without_empty_last parts
unfolding without_empty_last
line_on part e = rw e

line_last : (part : List ℕ) → 0 < length part → without_empty_last (part ∷ []) ≡ part ∷ []
unfolding without_empty_last
line_last [] h = absurd (omega arith)
line_last (b ∷ bs) h = refl

module _ (input : List ℕ) (i e : ℕ) (within : i < length input) (at-end : e ≡ part_end line_feed input i) where
  abbrev line : List ℕ
  line = take (e - i) (drop i input)

  taken : lines_of (drop i input) ≡ without_empty_last (line ∷ parts_behind line_feed (drop e input))
  unfolding lines_of
  taken = ap without_empty_last (parts_next line_feed input i e at-end)

  followed : e < length input → lines_of (drop i input) ≡ line ∷ lines_of (drop (e + 1) input)
  unfolding lines_of
  followed h =
      taken ∙ ap (λ (ps : List (List ℕ)). without_empty_last (line ∷ ps)) (behind_next line_feed input e h)
      ∙ line_on line (parts_next line_feed input (e + 1) (part_end line_feed input (e + 1)) refl)

  alone : length input ≤ e → lines_of (drop i input) ≡ line ∷ lines_of (drop (e + 1) input)
  alone h =
      let some : 0 < length line = omega (arith, length-take (e - i) (drop i input), length-drop i input) in
      taken ∙ ap (λ (ps : List (List ℕ)). without_empty_last (line ∷ ps)) (behind_end line_feed input e h) ∙ line_last line some
      ∙ ap (λ (ls : List (List ℕ)). line ∷ ls) (sym (lines_end input (e + 1) (omega arith)))

  pub lines_next : lines_of (drop i input) ≡ take (e - i) (drop i input) ∷ lines_of (drop (e + 1) input)
  lines_next = by (le_or_lt (length input) e)
    where
      by : (length input ≤ e) ⊎ (e < length input) → lines_of (drop i input) ≡ line ∷ lines_of (drop (e + 1) input)
      by (inl h) = alone h
      by (inr h) = followed h
