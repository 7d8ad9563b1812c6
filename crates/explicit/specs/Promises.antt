-- What gathering promises.
use Rattle.std.specs.Prelude.{ℕ, ◌≡◌, List, length}
use Rattle.rules.specs.Explicit.{X1, explicit_levels, explicit_types, kept}
use Rattle.laws.specs.Parts.{over}

-- the levels and types of the kept positions stand packed at the front of two buffers, the rest of which is as it was
pub record Gathered (base : ℕ) (cs levels₀ types₀ levels₁ types₁ : List ℕ) (n : ℕ) : Type 0 where
  pub count : n ≡ length (kept cs (explicit_levels base (X1 base) cs))
  pub levels : levels₁ ≡ over (kept cs (explicit_levels base (X1 base) cs)) levels₀
  pub types : types₁ ≡ over (kept cs (explicit_types (X1 base) cs)) types₀
