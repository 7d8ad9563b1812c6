-- Whether anything in a list passes a test.
use Rattle.std.specs.Prelude.{ℕ, Bool, false, ◌||◌, List, [], ◌∷◌}

unfoldable pub any_of : (ℕ → Bool) → List ℕ → Bool
any_of test [] = false
any_of test (x ∷ xs) = test x || any_of test xs

-- the same over two lists, place by place, up to where either ends
unfoldable pub any_pair : (ℕ → ℕ → Bool) → List ℕ → List ℕ → Bool
any_pair test [] ys = false
any_pair test (x ∷ xs) [] = false
any_pair test (x ∷ xs) (y ∷ ys) = test x y || any_pair test xs ys
