-- The laws of P2, the search step by step, and of the default in the library's own word. Assumes nothing.
use Rattle.std.specs.Prelude.{Option, None, Some, if◌then◌else◌, unwrap_or}
use Prim.Native.Nat.{ℕ, ◌+◌, ◌≤◌, ◌<◌}
use mathlib.Core.Path.{◌≡◌, refl}
use mathlib.Core.Bool.{true, false}
use mathlib.Core.List.{List, ◌∷◌}
use lib.ListN.{length, get_or, drop, drop_of_length-le}
use Rattle.rules.specs.Classes.{is_strong}
use Rattle.rules.specs.Paragraph.{P2, or_else}
use Rattle.laws.proofs.Lists.{drop_next}
use Rattle.laws.proofs.Tests.{tests}

search_step : (c : ℕ) (cs : List ℕ) → P2 (c ∷ cs) ≡ (if is_strong c then Some c else P2 cs)
unfolding P2
search_step c cs = refl

module _ (cs : List ℕ) (i : ℕ) (whole : Option ℕ) (e : P2 (drop i cs) ≡ whole) where
  pub search_found : i < length cs → is_strong (get_or cs i 0) ≡ true → Some (get_or cs i 0) ≡ whole
  search_found h s = rw (drop_next cs i h, search_step, s) at e

  pub search_on : i < length cs → is_strong (get_or cs i 0) ≡ false → P2 (drop (i + 1) cs) ≡ whole
  search_on h s = rw (drop_next cs i h, search_step, s) at e

  pub search_none : length cs ≤ i → None ≡ whole
  unfolding P2
  search_none h = rw (drop_of_length-le cs h) at e

pub default_or : (found : Option ℕ) (fallback : ℕ) → unwrap_or found fallback ≡ or_else found fallback
default_or None fallback = refl
default_or (Some level) fallback = refl

-- what closes the returns of this crate that are chains of tests
pub ruleset base_laws = (tests, default_or)
