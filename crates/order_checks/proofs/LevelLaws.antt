-- The laws of the lent levels: what is bad, one step of the walk to the first, and that there is no first where there is
-- none. Assumes nothing.
use Rattle.std.specs.Prelude.{if◌then◌else◌}
use Prim.Native.Nat.{ℕ, suc, ◌+◌, ◌≤◌, ◌<◌}
use native.Mathlib.Numerals.{add-one}
use native.Mathlib.Omega.{arith}
use mathlib.Core.Path.{◌≡◌, refl}
use mathlib.Core.Bool.{true, false, not}
use mathlib.Core.List.{List, [], ◌∷◌}
use lib.Dec.{eqb, ltb}
use lib.ListN.{length, get_or, drop, drop_of_length-le}
use Rattle.laws.specs.Any.{any_pair}
use Rattle.laws.proofs.Any.{no_pair_first}
use Rattle.laws.proofs.Lists.{drop_next}
use Rattle.rules.specs.Classes.{is_removed}
use Rattle.rules.specs.Explicit.{removed_level}
use Rattle.rules.specs.Refusals.{highest_resolved, Check, sound, refuse, is_bad_level, first_bad_level}

-- ---- the test, and the walk
pub bad_removed : (c l : ℕ) → is_removed c ≡ true → not (eqb l removed_level) ≡ is_bad_level c l
unfolding is_bad_level
bad_removed c l r = rw r

pub bad_kept : (c l : ℕ) → is_removed c ≡ false → ltb highest_resolved l ≡ is_bad_level c l
unfolding is_bad_level
bad_kept c l r = rw r

level_step : (at c l : ℕ) (cs ls : List ℕ) → first_bad_level at (c ∷ cs) (l ∷ ls) ≡ (if is_bad_level c l then refuse 7 at else first_bad_level (suc at) cs ls)
unfolding first_bad_level
level_step at c l cs ls = refl

module _ (cs ls : List ℕ) (i : ℕ) (whole : Check) (h : i < length cs) (room : length cs ≤ length ls) where
  levels_next : first_bad_level i (drop i cs) (drop i ls) ≡ (if is_bad_level (get_or cs i 0) (get_or ls i 0) then refuse 7 i else first_bad_level (i + 1) (drop (i + 1) cs) (drop (i + 1) ls))
  levels_next =
      let g : i < length ls = omega arith in
      rw (drop_next cs i h, drop_next ls i g, level_step, add-one)

  pub levels_step : is_bad_level (get_or cs i 0) (get_or ls i 0) ≡ false → first_bad_level i (drop i cs) (drop i ls) ≡ whole → first_bad_level (i + 1) (drop (i + 1) cs) (drop (i + 1) ls) ≡ whole
  levels_step s e = rw (levels_next, s) at e

  pub levels_found : is_bad_level (get_or cs i 0) (get_or ls i 0) ≡ true → first_bad_level i (drop i cs) (drop i ls) ≡ whole → refuse 7 i ≡ whole
  levels_found s e = rw (levels_next, s) at e

pub levels_done : (cs ls : List ℕ) (i : ℕ) (whole : Check) → length cs ≤ i → first_bad_level i (drop i cs) (drop i ls) ≡ whole → sound ≡ whole
unfolding first_bad_level
levels_done cs ls i whole h e = rw (drop_of_length-le cs h) at e

-- ---- no bad level
pub none_bad : (at : ℕ) (cs ls : List ℕ) → any_pair is_bad_level cs ls ≡ false → first_bad_level at cs ls ≡ sound
unfolding first_bad_level
none_bad at [] ls none = refl
none_bad at (c ∷ cs) [] none = refl
none_bad at (c ∷ cs) (l ∷ ls) none =
    let first : (is_bad_level c l ≡ false) × (any_pair is_bad_level cs ls ≡ false) = no_pair_first is_bad_level c l cs ls none in
    rw first.0 (none_bad (suc at) cs ls first.1)
