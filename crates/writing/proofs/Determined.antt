-- Any two outcomes that a promise to put a text allows are equal: one lemma for every text, and each public function's
-- instance, about the text that its `ensures` names. So are two outputs after one such writing. Assumes nothing.
use Prim.Native.Nat.{ℕ}
use mathlib.Core.Path.{◌≡◌}
use mathlib.Core.List.{List}
use Rattle.laws.proofs.Determined.{determined}
use Rattle.writing.specs.Text.{number_text, base_row, levels_row, order_row, refused_row, Puts}
use Rattle.writing.specs.declared.Output.{Output}
use Rattle.writing.specs.Writes.{Writes}

module _ {before x y : List ℕ} {at r s : ℕ} where
  pub puts_determined : (text : List ℕ) → Puts text before at x r → Puts text before at y s → (x ≡ y) × (r ≡ s)
  puts_determined text p q = (determined p.buffer q.buffer, determined p.behind q.behind)

  pub number_determined : (n : ℕ) → Puts (number_text n) before at x r → Puts (number_text n) before at y s → (x ≡ y) × (r ≡ s)
  number_determined n = puts_determined (number_text n)

  pub base_row_determined : (base : ℕ) → Puts (base_row base) before at x r → Puts (base_row base) before at y s → (x ≡ y) × (r ≡ s)
  base_row_determined base = puts_determined (base_row base)

  pub levels_row_determined : (levels : List ℕ) → Puts (levels_row levels) before at x r → Puts (levels_row levels) before at y s → (x ≡ y) × (r ≡ s)
  levels_row_determined levels = puts_determined (levels_row levels)

  pub order_row_determined : (order : List ℕ) → Puts (order_row order) before at x r → Puts (order_row order) before at y s → (x ≡ y) × (r ≡ s)
  order_row_determined order = puts_determined (order_row order)

  pub refused_row_determined : (number place : ℕ) → Puts (refused_row number place) before at x r → Puts (refused_row number place) before at y s → (x ≡ y) × (r ≡ s)
  refused_row_determined number place = puts_determined (refused_row number place)

pub writes_determined : {before x y : Output} (text : List ℕ) → Writes text before x → Writes text before y → (x.out.now ≡ y.out.now) × (x.at ≡ y.at)
writes_determined text p q = puts_determined text p.puts q.puts
