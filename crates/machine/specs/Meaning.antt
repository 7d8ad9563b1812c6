-- The machine's struct as a state of the rules, and its verdicts as theirs.
use Rattle.std.specs.Prelude.{ℕ, zero, suc, List, [], ◌∷◌, ◌++◌, eqb, get_or, replicate, if◌then◌else◌}
use Rattle.rules.specs.Explicit.{State, Entry, valid, invalid, highest_explicit, opens_valid, opens_invalid, closes_valid, closes_invalid, closes_nothing, plain}
use Rattle.rules.specs.Explicit as rules
use Rattle.machine.specs.Fields.{next_to_highest}
use Rattle.machine.specs.declared.Machine.{Machine}
use Rattle.machine.specs.declared.Verdict.{Verdict}
use Rattle.machine.specs.declared.Verdict.TheVariants.{OpensValid, OpensInvalid, ClosesValid, ClosesInvalid, ClosesNothing, Plain}

-- how many invalid codes are unmatched at a level, where n60 are at 60 and n61 at 61: at no other can there be any
unfoldable pub invalid_at : ℕ → ℕ → ℕ → ℕ
invalid_at n60 n61 level =
    if eqb level highest_explicit then n61 else if eqb level next_to_highest then n60 else 0

-- the unmatched codes from the last remembered pair on: each pair, then the invalid codes at the level that it goes back to
unfoldable pub remembered : List ℕ → List ℕ → ℕ → ℕ → ℕ → List Entry
remembered levels overrides n60 n61 zero = []
remembered levels overrides n60 n61 (suc d) =
    valid (get_or levels d 0) (get_or overrides d 0)
    ∷ (replicate (invalid_at n60 n61 (get_or levels d 0)) invalid ++ remembered levels overrides n60 n61 d)

abbrev pub remembered_by : Machine → List Entry
remembered_by m = remembered m.levels m.overrides m.invalid60 m.invalid61 m.depth

abbrev pub invalid_here : Machine → ℕ
invalid_here m = invalid_at m.invalid60 m.invalid61 m.level

-- a state of the machine with so many invalid codes at its present level
abbrev pub state_with : Machine → ℕ → State
state_with m n = record { level = m.level; override = m.over; unmatched = replicate n invalid ++ remembered_by m }

-- the state that the struct holds
abbrev pub meaning : Machine → State
meaning m = state_with m (invalid_here m)

abbrev pub verdict_of : Verdict → rules.Verdict
verdict_of (OpensValid pair) = opens_valid pair.level pair.over
verdict_of OpensInvalid = opens_invalid
verdict_of (ClosesValid pair) = closes_valid pair.level pair.over
verdict_of ClosesInvalid = closes_invalid
verdict_of ClosesNothing = closes_nothing
verdict_of Plain = plain
