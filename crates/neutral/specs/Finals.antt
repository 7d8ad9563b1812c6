-- The level that a run's levels give to a type.
use Rattle.std.specs.Prelude.{ℕ, eqb, if◌then◌else◌}
use Rattle.rules.specs.Classes.{L, R, EN, AN}
use Rattle.neutral.specs.declared.Finals.{Finals}

unfoldable pub final_level : Finals → ℕ → ℕ
final_level finals t =
    if eqb t L then finals.l else
    if eqb t R then finals.r else
    if eqb t EN then finals.en else
    if eqb t AN then finals.an else finals.own
