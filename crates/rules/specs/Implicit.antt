-- Implicit levels: rules I1 and I2.
use Rattle.std.specs.Prelude.{ℕ, ◌+◌, ◌||◌, eqb, if◌then◌else◌}
use Rattle.laws.specs.Choice.{is_odd}
use Rattle.rules.specs.Classes.{L, R, EN, AN}

-- I1: at an even level R goes up by 1, EN and AN by 2
unfoldable pub I1 : ℕ → ℕ → ℕ
I1 level t = if eqb t R then level + 1 else if eqb t EN || eqb t AN then level + 2 else level

-- I2: at an odd level L, EN and AN go up by 1
unfoldable pub I2 : ℕ → ℕ → ℕ
I2 level t = if eqb t L || eqb t EN || eqb t AN then level + 1 else level

unfoldable pub implicit_level : ℕ → ℕ → ℕ
implicit_level level t = if is_odd level then I2 level t else I1 level t
