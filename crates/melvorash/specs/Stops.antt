-- What Cut answers where its walk stops.
use Rattle.std.specs.Prelude.{ℕ, ◌+◌, List, eqb, get_or, drop, if◌then◌else◌}
use Rattle.rules.specs.Classes.{is_unknown}
use Rattle.rules.specs.Paragraph.{is_pair}
use Rattle.rules.specs.Refusals.{longest_paragraph}
use Rattle.rules.specs.Jobs.{Answer, accepted, refused}

-- at a class that is none it refuses; a separator ends the paragraph, and a CR takes the B along that follows it, unless
-- that is one position too many
unfoldable pub stop_at : List ℕ → ℕ → Answer ℕ
stop_at cs i =
    if is_unknown (get_or cs i 0) then refused 2 i else
    if is_pair (get_or cs i 0) (drop (i + 1) cs) then (if eqb (i + 1) longest_paragraph then refused 3 0 else accepted (i + 2)) else
    accepted (i + 1)
