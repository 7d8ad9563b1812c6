-- Any two outcomes that the promises of reading classes and of a first word allow are equal. The other promises of this crate
-- are of the form `r ≡ f input`, which `determined` settles as it stands. Assumes nothing.
use Prim.Native.Nat.{ℕ}
use mathlib.Core.Path.{◌≡◌}
use mathlib.Core.List.{List}
use Rattle.laws.proofs.Determined.{determined}
use Rattle.words.specs.Read.{ClassesRead}
use Rattle.words.specs.declared.names.Asked.{Asked}

pub read_classes_determined : {line before : List ℕ} {r s : ℕ} {x y : List ℕ} → ClassesRead line before r x → ClassesRead line before s y → (r ≡ s) × (x ≡ y)
read_classes_determined p q = (determined p.count q.count, determined p.classes q.classes)

-- a request and a default have no more than the two fields
pub asked_determined : {request fallback : ℕ} {a b : Asked} → (a.request ≡ request) × (a.fallback ≡ fallback) → (b.request ≡ request) × (b.fallback ≡ fallback) → a ≡ b
asked_determined p q = λ j. record { request = determined p.0 q.0 j; fallback = determined p.1 q.1 j }
