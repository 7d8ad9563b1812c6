-- Any two outcomes that an order's promise allows are equal. Assumes nothing.
use Prim.Native.Nat.{ℕ}
use mathlib.Core.Path.{◌≡◌}
use mathlib.Core.List.{List}
use Rattle.laws.proofs.Determined.{determined}
use Rattle.line.specs.Ordered.{Ordered}
use Rattle.line.specs.declared.Placed.{Placed}

pub ordered_determined : {wanted : List ℕ} {turned : ℕ} {entry : List ℕ} {r s : Placed} {x y : List ℕ} → Ordered wanted turned entry r x → Ordered wanted turned entry s y → (r ≡ s) × (x ≡ y)
ordered_determined p q = ((λ j. record { count = determined p.placed q.placed j; reversed = determined p.reversed q.reversed j }), determined p.order q.order)
