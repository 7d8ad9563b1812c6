-- Any two outcomes that the promise of printing a line allows are equal. Assumes nothing.
use Prim.Native.Nat.{ℕ}
use mathlib.Core.Path.{◌≡◌}
use mathlib.Core.List.{List}
use Rattle.laws.proofs.Determined.{determined}
use Rattle.printing.specs.Printing.{Prints}

pub print_line_determined : {line before : List ℕ} {r s : ℕ} {x y : List ℕ} → Prints line before r x → Prints line before s y → (r ≡ s) × (x ≡ y)
print_line_determined p q = (determined p.counted q.counted, determined p.buffer q.buffer)
