-- What is a fault of a class by itself, before what closes the paragraph: what is asked of all positions at once.
use Rattle.std.specs.Prelude.{ℕ, ◌+◌, ◌-◌, Bool, ◌||◌, List, length, get_or, drop, if◌then◌else◌}
use Rattle.rules.specs.Classes.{is_unknown, is_paragraph_end}
use Rattle.rules.specs.Paragraph.{is_pair}

unfoldable pub is_fault : ℕ → Bool
is_fault c = is_unknown c || is_paragraph_end c

-- where what closes a paragraph begins: at the CR of a last pair, or else at the last position
unfoldable pub closing_at : List ℕ → ℕ
closing_at cs =
    let last : ℕ = length cs - 1 in
    if is_pair (get_or cs (last - 1) 0) (drop (last - 1 + 1) cs) then last - 1 else last
