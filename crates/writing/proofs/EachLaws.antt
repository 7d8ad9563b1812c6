-- A loop that puts a text for each value of a list: what holds at the loop's head, and begun, one value further, done.
-- Assumes nothing.
use Prim.Native.Nat.{ℕ, ◌+◌, ◌≤◌, ◌<◌}
use native.Mathlib.Omega.{arith}
use mathlib.Core.Path.{◌≡◌, refl, sym, ap, ◌∙◌}
use mathlib.Core.List.{List, [], ◌∷◌, ◌++◌, append-nil, append_assoc}
use lib.ListN.{length, get_or, take}
use lib.Seq.{take_all}
use Rattle.laws.proofs.Lists.{take_next}
use Rattle.words.specs.Words.{space}
use Rattle.writing.specs.Text.{spaced}
use Rattle.writing.specs.declared.Output.{Output}
use Rattle.writing.specs.Writes.{Writes}
use Rattle.writing.proofs.TextLaws.{writes_then, writes_same}

-- the texts of the values, one behind the other
unfoldable pub each : (ℕ → List ℕ) → List ℕ → List ℕ
each text [] = []
each text (x ∷ xs) = text x ++ each text xs

each_append : (text : ℕ → List ℕ) (xs ys : List ℕ) → each text (xs ++ ys) ≡ each text xs ++ each text ys
unfolding each
each_append text [] ys = refl
each_append text (x ∷ xs) ys =
    ap (λ (r : List ℕ). text x ++ r) (each_append text xs ys) ∙ sym (append_assoc (text x) (each text xs) (each text ys))

pub each_one : (text : ℕ → List ℕ) (x : ℕ) → each text (x ∷ []) ≡ text x
unfolding each
each_one text x = append-nil (text x)

-- a row's values are such texts, and so is any text, byte by byte
pub spaced_each : (text : ℕ → List ℕ) (xs : List ℕ) → spaced text xs ≡ each (λ x. space ∷ text x) xs
unfolding spaced each
spaced_each text [] = refl
spaced_each text (x ∷ xs) = ap (λ (r : List ℕ). (space ∷ text x) ++ r) (spaced_each text xs)

pub bytes_each : (bytes : List ℕ) → each (λ b. b ∷ []) bytes ≡ bytes
unfolding each
bytes_each [] = refl
bytes_each (b ∷ bs) = ap (λ (r : List ℕ). b ∷ r) (bytes_each bs)

-- the values of a row that has one or two
pub spaced_one : (text : ℕ → List ℕ) (x : ℕ) → space ∷ text x ≡ spaced text (x ∷ [])
unfolding spaced
spaced_one text x = sym (append-nil (space ∷ text x))

pub spaced_two : (text : ℕ → List ℕ) (x y : ℕ) → (space ∷ text x) ++ (space ∷ text y) ≡ spaced text (x ∷ y ∷ [])
unfolding spaced
spaced_two text x y = ap (λ (r : List ℕ). (space ∷ text x) ++ r) (sym (append-nil (space ∷ text y)))

-- the texts of the first i values are written
pub record EachWritten (text : ℕ → List ℕ) (xs : List ℕ) (before : Output) (i : ℕ) (output : Output) : Type 0 where
  pub within : i ≤ length xs
  pub wrote : Writes (each text (take i xs)) before output

pub each_begun : {text : ℕ → List ℕ} {xs : List ℕ} {before output : Output} → Writes [] before output → EachWritten text xs before 0 output
unfolding each
each_begun p = record { within = omega arith; wrote = p }

module _ {text : ℕ → List ℕ} {xs : List ℕ} {before output : Output} {i : ℕ} where
  pub each_next : {after : Output} → EachWritten text xs before i output → i < length xs → Writes (text (get_or xs i 0)) output after → EachWritten text xs before (i + 1) after
  each_next f h p =
      let e : each text (take i xs) ++ text (get_or xs i 0) ≡ each text (take (i + 1) xs) =
      ap (λ (r : List ℕ). each text (take i xs) ++ r) (sym (each_one text (get_or xs i 0)))
      ∙ sym (each_append text (take i xs) (get_or xs i 0 ∷ [])) ∙ ap (each text) (sym (take_next xs i h)) in
      record { within = omega arith; wrote = writes_same e (writes_then f.wrote p) }

  pub each_done : EachWritten text xs before i output → length xs ≤ i → Writes (each text xs) before output
  each_done f h = writes_same (ap (each text) (take_all i xs h)) f.wrote
