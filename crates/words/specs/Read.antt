-- What reading a line's classes leaves: as many of them as the lent buffer holds, in its first places, and how many.
use Rattle.std.specs.Prelude.{ℕ, ◌≡◌, List, length, take}
use Rattle.laws.specs.Parts.{over}
use Rattle.words.specs.Words.{classes_of}

pub record ClassesRead (line entry : List ℕ) (r : ℕ) (exit : List ℕ) : Type 0 where
  pub count : r ≡ length (take (length entry) (classes_of line))
  pub classes : exit ≡ over (take (length entry) (classes_of line)) entry
