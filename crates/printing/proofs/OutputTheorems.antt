-- What the program's loop over lines writes: from each place on, this line's output and then what comes behind it. So a
-- loop that begins at the first byte, prints the line up to its end and goes on behind that end writes the whole output.
-- Assumes nothing.
use Prim.Native.Nat.{ℕ, ◌+◌, ◌-◌, ◌≤◌, ◌<◌}
use mathlib.Core.Path.{◌≡◌, refl, ap}
use mathlib.Core.List.{List, [], ◌++◌}
use lib.ListN.{length, take, drop}
use Rattle.words.specs.Words.{line_feed, part_end, lines_of}
use Rattle.words.proofs.InputLaws.{lines_next, lines_end}
use Rattle.printing.specs.Printing.{line_text, text_of_all, most_input, output_of}

pub output_begun : (input : List ℕ) → output_of input ≡ text_of_all (lines_of (drop 0 (take most_input input)))
unfolding output_of
output_begun input = refl

pub output_next : (input : List ℕ) (from end : ℕ) → from < length input → end ≡ part_end line_feed input from → text_of_all (lines_of (drop from input)) ≡ line_text (take (end - from) (drop from input)) ++ text_of_all (lines_of (drop (end + 1) input))
unfolding text_of_all
output_next input from end within e = ap text_of_all (lines_next input from end within e)

pub output_ended : (input : List ℕ) (from : ℕ) → length input ≤ from → text_of_all (lines_of (drop from input)) ≡ []
unfolding text_of_all
output_ended input from past = ap text_of_all (lines_end input from past)
