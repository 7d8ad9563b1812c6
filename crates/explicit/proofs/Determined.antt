-- Any two outcomes that gathering's promise allows are equal. Assumes nothing.
use Prim.Native.Nat.{ℕ}
use mathlib.Core.Path.{◌≡◌}
use mathlib.Core.List.{List}
use Rattle.laws.proofs.Determined.{determined}
use Rattle.explicit.specs.Promises.{Gathered}

pub gather_determined : {base : ℕ} {cs levels types ls ts ls' ts' : List ℕ} {n m : ℕ} → Gathered base cs levels types ls ts n → Gathered base cs levels types ls' ts' m → (n ≡ m) × (ls ≡ ls') × (ts ≡ ts')
gather_determined p q = (determined p.count q.count, determined p.levels q.levels, determined p.types q.types)
