-- `parts::any` meets its contract: what is found so far, or is in what is left, is in the list. Assumes nothing.
use Rattle.std.proofs.Common.{◌≡◌, ℕ, Bool, ◌||◌, drop}
use Rattle.laws.specs.Any.{any_of}
use Rattle.parts.specs.Computes.{Computes}
use Rattle.parts.proofs.any.Given as goal

abbrev pub invariant-loop-byte : goal.invariant-loop-byte
invariant-loop-byte g l =
    (test : ℕ → Bool) → Computes (goal.F-post g l.passes) test → (l.found || any_of test (drop l.byte-index l.bytes)) ≡ any_of test l.bytes
