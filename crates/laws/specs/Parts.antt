-- Parts of a list, and a list written over the front of another.
use Rattle.std.specs.Prelude.{ℕ, ◌-◌, List, ◌++◌, length, take, drop}

-- the part of a list from one place up to, not including, another
unfoldable pub part : ℕ → ℕ → List ℕ → List ℕ
part from to xs = take (to - from) (drop from xs)

-- a buffer whose first places are written, and all after them as it was
abbrev pub over : List ℕ → List ℕ → List ℕ
over written buffer = written ++ drop (length written) buffer
