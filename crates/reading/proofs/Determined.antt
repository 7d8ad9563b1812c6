-- What `reading::read_start` promises on success, of an input whose bytes are known, leaves one outcome: how many bytes were
-- read, the bytes at the buffer's start, and what is left of the input. Assumes nothing.
use Rattle.std.proofs.Common.{◌≡◌, ℕ, List, Option, Some, Ok, take, drop, length, sym, ap, ◌∙◌}
use Rattle.std.specs.Io.{ReadsAtMost}

module _ (E : Type 0) (bytes : List ℕ) (room : ℕ) where
  pub read_determined : (n m : ℕ) (xs ys : List ℕ) (left other : Option (List ℕ)) → ReadsAtMost {E = E} (Ok n) xs → ReadsAtMost {E = E} (Ok m) ys → take n xs ≡ take room bytes → take m ys ≡ take room bytes → left ≡ Some (drop room bytes) → other ≡ Some (drop room bytes) → (n ≡ m) × (take n xs ≡ take m ys) × (left ≡ other)
  read_determined n m xs ys left other p q a b l o =
      (p.1 ∙ ap length a ∙ sym (q.1 ∙ ap length b), a ∙ sym b, l ∙ sym o)
