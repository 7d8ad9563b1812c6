-- Any two outcomes that the promise of base_by_text allows are equal. Assumes nothing.
use Rattle.std.specs.Prelude.{ℕ, ◌≡◌, Option}
use Rattle.laws.proofs.Determined.{determined}

pub decided_determined : {wanted : Option ℕ} (c d : Option ℕ) → c ≡ wanted → d ≡ wanted → c ≡ d
decided_determined c d p q = determined p q
