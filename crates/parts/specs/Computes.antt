-- What a closure computes of a byte, by its own contract: each result that it may give is that of a test.
use Rattle.std.specs.Prelude.{◌≡◌, ℕ, ◌<◌, Bool}

abbrev pub Computes : (ℕ → Bool → Type 0) → (ℕ → Bool) → Type 0
Computes gives test = (t : ℕ) (b : Bool) → t < 256 → gives t b → b ≡ test t
