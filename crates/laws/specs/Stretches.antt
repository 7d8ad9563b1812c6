-- Longest stretches of numbers that pass a test.
use Rattle.std.specs.Prelude.{ℕ, suc, Bool, List, [], ◌∷◌, if◌then◌else◌}

-- how many that pass the test come first
unfoldable pub span : (ℕ → Bool) → List ℕ → ℕ
span test [] = 0
span test (t ∷ ts) = if test t then suc (span test ts) else 0

-- what stands after those that come first
unfoldable pub after_stretch : (ℕ → Bool) → ℕ → List ℕ → ℕ
after_stretch test end [] = end
after_stretch test end (t ∷ ts) = if test t then after_stretch test end ts else t

-- each number of a stretch is changed by what stands before and after the whole stretch
unfoldable pub stretches : (ℕ → Bool) → (ℕ → ℕ → ℕ → ℕ) → ℕ → ℕ → List ℕ → List ℕ
stretches test change before end [] = []
stretches test change before end (t ∷ ts) =
    if test t then change before (after_stretch test end ts) t ∷ stretches test change before end ts
    else t ∷ stretches test change t end ts
