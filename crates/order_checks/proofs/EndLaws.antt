-- The laws of the ends: one step of the look along them, and the ways through their check. Assumes nothing.
use Rattle.std.specs.Prelude.{if◌then◌else◌}
use Prim.Native.Nat.{ℕ, ◌+◌, ◌≤◌, ◌<◌}
use native.Mathlib.Omega.{arith}
use mathlib.Core.Path.{◌≡◌, refl}
use mathlib.Core.Bool.{Bool, true, false}
use mathlib.Core.List.{List, [], ◌∷◌}
use borrow.Author.Tests.{lt-ltb, le-ltb}
use lib.Dec.{eqb, ltb}
use lib.ListN.{length, get_or, drop, drop_of_length-le}
use Rattle.laws.proofs.Lists.{drop_next}
use Rattle.rules.specs.Refusals.{refuse, sound, ends_rise_to, check_ends}
use Rattle.checks.proofs.CountLaws.{some_is}

-- ---- the ends
ends_step : (before end : ℕ) (ends : List ℕ) (last : ℕ) → ends_rise_to before (end ∷ ends) last ≡ (if ltb before end then ends_rise_to end ends last else false)
unfolding ends_rise_to
ends_step before end ends last = refl

module _ (ends : List ℕ) (last before i : ℕ) (whole : Bool) (h : i < length ends) (e : ends_rise_to before (drop i ends) last ≡ whole) where
  pub ends_rising : before < get_or ends i 0 → ends_rise_to (get_or ends i 0) (drop (i + 1) ends) last ≡ whole
  ends_rising g = rw (drop_next ends i h, ends_step, lt-ltb before (get_or ends i 0) g) at e

  pub ends_stuck : get_or ends i 0 ≤ before → false ≡ whole
  ends_stuck g = rw (drop_next ends i h, ends_step, le-ltb before (get_or ends i 0) g) at e

pub ends_done : (ends : List ℕ) (last before i : ℕ) (whole : Bool) → length ends ≤ i → ends_rise_to before (drop i ends) last ≡ whole → eqb before last ≡ whole
unfolding ends_rise_to
ends_done ends last before i whole h e = rw (drop_of_length-le ends h) at e

-- ---- the three ways through the check of the ends
pub ends_none : (cs ends : List ℕ) → length ends ≡ 0 → check_ends cs ends ≡ refuse 10 0
unfolding check_ends
ends_none cs [] h = refl
ends_none cs (x ∷ xs) h = absurd (omega arith)

pub ends_wrong : (cs ends : List ℕ) → (length ends ≡ 0 → ⊥) → ends_rise_to 0 ends (length cs) ≡ false → check_ends cs ends ≡ refuse 10 0
unfolding check_ends
ends_wrong cs ends h e = rw (some_is ends h, e)

pub ends_right : (cs ends : List ℕ) → (length ends ≡ 0 → ⊥) → ends_rise_to 0 ends (length cs) ≡ true → check_ends cs ends ≡ sound
unfolding check_ends
ends_right cs ends h e = rw (some_is ends h, e)

pub ruleset ends_laws = (ends_none, ends_wrong, ends_right)
