-- The worked drawing orders are those of the rules: computed by insertion, which is R1 to R3 (`canonical`).
-- Assumes nothing.
use Prim.Native.Nat.{ℕ}
use mathlib.Core.Path.{◌≡◌, refl}
use mathlib.Core.List.{List, []}
use Rattle.laws.specs.Choice.{up_from}
use Rattle.rules.specs.Stacking.{taken, remaining, to_beginning, step2a, step2b, step2c, steps, step2, positions, class_of, is_modifier, Draws}
use Rattle.rules.specs.Examples.{Example, examples}
use Rattle.laws.specs.Sorting.{insert, sort}
use Rattle.laws.proofs.Every.{Every, every_then}
use Rattle.rules.proofs.CanonicalLaws.{exchanges, canonical}

-- what the rules give for a text, by insertion
abbrev inserted : Example → List ℕ
inserted e = step2 (class_of e.classes) (is_modifier e.flags) [] (sort (exchanges (class_of e.classes)) (positions e.classes))

by_insertion : (e : Example) → e.order ≡ inserted e → Draws e.classes e.flags e.order
by_insertion e is = record { canonical = _; step1 = canonical (class_of e.classes) (positions e.classes); stacked = is }

pub examples_hold : Every (λ e. Draws e.classes e.flags e.order) examples
unfolding insert sort taken remaining to_beginning step2a step2b step2c steps step2 up_from
examples_hold =
    let computed : Every (λ e. e.order ≡ inserted e) examples = (refl, (refl, (refl, (refl, (refl, (refl, (refl, (refl, (refl, (refl, (refl, (refl, tt)))))))))))) in
    every_then (λ e. e.order ≡ inserted e) (λ e. Draws e.classes e.flags e.order) examples by_insertion computed
