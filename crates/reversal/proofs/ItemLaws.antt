-- The passes of the definition move items, each with its level; the code moves positions and reads levels by place.
-- Both give the same: a pass leaves every test on a level not above its own as it was at each place.
-- Assumes nothing.
use Rattle.std.specs.Prelude.{if◌then◌else◌}
use Prim.Native.Nat.{ℕ, zero, suc, ◌%◌, ◌≤◌, ◌<◌, max, min}
use native.Mathlib.Omega.{arith}
use mathlib.Core.Path.{◌≡◌, refl, sym, ap, ◌∙◌}
use mathlib.Core.Logic.{◌⊎◌, inl, inr}
use mathlib.Core.Bool.{Bool, true, false}
use mathlib.Core.List.{List, [], ◌∷◌, ◌++◌, map, append_assoc}
use lib.Dec.{leb}
use lib.ListN.{length}
use borrow.Author.Tests.{leb-true, le-leb, eqb-false}
use Rattle.laws.specs.Choice.{is_odd}
use Rattle.rules.specs.Line.{Item, positions_of, levels_of, L2, pass, passes, highest, lowest_odd}
use Rattle.rules.specs.Reversals.{L2_reverses, slots}
use Rattle.laws.proofs.Lists.{le_or_lt}
use Rattle.rules.proofs.PassLaws.{passes_none}
use Rattle.rules.proofs.ReversalLaws.{reverses_sum, slots_none}
use Rattle.level_range.specs.Levels.{at_levels}
use Rattle.reversal.specs.Passes.{pass_by, passes_by}

-- at which of the levels a pass would turn
abbrev tests : ℕ → List ℕ → List Bool
tests t ls = map (leb t) ls

positions_append : (xs ys : List Item) → positions_of (xs ++ ys) ≡ positions_of xs ++ positions_of ys
positions_append [] ys = refl
positions_append (x ∷ xs) ys = ap (λ (l : List ℕ). x.position ∷ l) (positions_append xs ys)

tests_append : (t : ℕ) (xs ys : List Item) → tests t (levels_of (xs ++ ys)) ≡ tests t (levels_of xs) ++ tests t (levels_of ys)
tests_append t [] ys = refl
tests_append t (x ∷ xs) ys = ap (λ (l : List Bool). leb t x.level ∷ l) (tests_append t xs ys)

-- one step of a pass, on items and on positions
step_if : (b : Bool) (m : ℕ) (x : Item) (stretch xs : List Item) (ls rest : List ℕ) → positions_of (pass m (x ∷ stretch) xs) ++ rest ≡ pass_by m (x.position ∷ positions_of stretch) ls (positions_of xs ++ rest) → positions_of (pass m [] xs) ++ rest ≡ pass_by m [] ls (positions_of xs ++ rest) → positions_of (if b then pass m (x ∷ stretch) xs else stretch ++ (x ∷ pass m [] xs)) ++ rest ≡ (if b then pass_by m (x.position ∷ positions_of stretch) ls (positions_of xs ++ rest) else positions_of stretch ++ (x.position ∷ pass_by m [] ls (positions_of xs ++ rest)))
step_if true m x stretch xs ls rest on off = on
step_if false m x stretch xs ls rest on off =
    ap (λ (l : List ℕ). l ++ rest) (positions_append stretch (x ∷ pass m [] xs))
    ∙ append_assoc (positions_of stretch) (x.position ∷ positions_of (pass m [] xs)) rest
    ∙ ap (λ (l : List ℕ). positions_of stretch ++ (x.position ∷ l)) off

-- a pass over levels that test as the items' own levels do
pass_positions : (m : ℕ) (stretch xs : List Item) (ls rest : List ℕ) → tests m ls ≡ tests m (levels_of xs) → positions_of (pass m stretch xs) ++ rest ≡ pass_by m (positions_of stretch) ls (positions_of xs ++ rest)
unfolding pass pass_by
pass_positions m stretch [] [] rest e = refl
pass_positions m stretch [] (l ∷ ls) rest e = let z : ◌≡◌ {A = ℕ} 0 1 = cc in absurd (omega arith)
pass_positions m stretch (x ∷ xs) [] rest e = let z : ◌≡◌ {A = ℕ} 0 1 = cc in absurd (omega arith)
pass_positions m stretch (x ∷ xs) (l ∷ ls) rest e =
    let here : leb m x.level ≡ leb m l = cc in
    let there : tests m ls ≡ tests m (levels_of xs) = cc in
    step_if (leb m x.level) m x stretch xs ls rest (pass_positions m (x ∷ stretch) xs ls rest there) (pass_positions m [] xs ls rest there)
    ∙ ap (λ (b : Bool). if b then pass_by m (x.position ∷ positions_of stretch) ls (positions_of xs ++ rest) else positions_of stretch ++ (x.position ∷ pass_by m [] ls (positions_of xs ++ rest))) here

-- so many places that pass a test, ahead of others
trues : ℕ → List Bool → List Bool
trues zero bs = bs
trues (suc n) bs = true ∷ trues n bs

trues_next : (n : ℕ) (bs : List Bool) → true ∷ trues n bs ≡ trues n (true ∷ bs)
unfolding trues
trues_next zero bs = refl
trues_next (suc n) bs = ap (λ (l : List Bool). true ∷ l) (trues_next n bs)

trues_append : (n : ℕ) (bs : List Bool) → trues n [] ++ bs ≡ trues n bs
unfolding trues
trues_append zero bs = refl
trues_append (suc n) bs = ap (λ (l : List Bool). true ∷ l) (trues_append n bs)

-- a pass keeps every test on a level not above its own
module _ (t m : ℕ) (h : t ≤ m) where
  kept_if : (b : Bool) (x : Item) (stretch xs : List Item) → leb m x.level ≡ b → tests t (levels_of stretch) ≡ trues (length stretch) [] → (leb t x.level ≡ true → tests t (levels_of (pass m (x ∷ stretch) xs)) ≡ trues (suc (length stretch)) (tests t (levels_of xs))) → tests t (levels_of (pass m [] xs)) ≡ tests t (levels_of xs) → tests t (levels_of (if b then pass m (x ∷ stretch) xs else stretch ++ (x ∷ pass m [] xs))) ≡ trues (length stretch) (leb t x.level ∷ tests t (levels_of xs))
  unfolding trues
  kept_if true x stretch xs e st on off =
      let high : m ≤ x.level = leb-true m x.level e in
      let low : leb t x.level ≡ true = le-leb t x.level (omega arith) in
      on low ∙ trues_next (length stretch) (tests t (levels_of xs)) ∙ ap (λ (b : Bool). trues (length stretch) (b ∷ tests t (levels_of xs))) (sym low)
  kept_if false x stretch xs e st on off =
      tests_append t stretch (x ∷ pass m [] xs) ∙ (λ j. st j ++ (leb t x.level ∷ off j)) ∙ trues_append (length stretch) (leb t x.level ∷ tests t (levels_of xs))

  pass_keeps : (stretch xs : List Item) → tests t (levels_of stretch) ≡ trues (length stretch) [] → tests t (levels_of (pass m stretch xs)) ≡ trues (length stretch) (tests t (levels_of xs))
  unfolding pass trues
  pass_keeps stretch [] st = st
  pass_keeps stretch (x ∷ xs) st =
      kept_if (leb m x.level) x stretch xs refl st
      (λ low. pass_keeps (x ∷ stretch) xs (λ j. low j ∷ st j))
      (pass_keeps [] xs refl)

passes_if : (b : Bool) (level lowest : ℕ) (xs : List Item) (ls rest : List ℕ) → positions_of (passes level lowest (pass (suc level) [] xs)) ++ rest ≡ passes_by level lowest ls (pass_by (suc level) [] ls (positions_of xs ++ rest)) → positions_of (if b then passes level lowest (pass (suc level) [] xs) else xs) ++ rest ≡ (if b then passes_by level lowest ls (pass_by (suc level) [] ls (positions_of xs ++ rest)) else positions_of xs ++ rest)
passes_if true level lowest xs ls rest on = on
passes_if false level lowest xs ls rest on = refl

-- all passes, over levels that test alike
alike_passes : (level lowest : ℕ) (xs : List Item) (ls rest : List ℕ) → ((t : ℕ) → t ≤ level → tests t ls ≡ tests t (levels_of xs)) → positions_of (passes level lowest xs) ++ rest ≡ passes_by level lowest ls (positions_of xs ++ rest)
unfolding passes passes_by trues
alike_passes zero lowest xs ls rest alike = refl
alike_passes (suc level) lowest xs ls rest alike =
    passes_if (leb lowest (suc level)) level lowest xs ls rest
    (alike_passes level lowest (pass (suc level) [] xs) ls rest
    (λ t h. alike t (omega arith) ∙ sym (pass_keeps t (suc level) (omega arith) [] xs refl))
    ∙ ap (passes_by level lowest ls) (pass_positions (suc level) [] xs ls rest (alike (suc level) (omega arith))))

-- the passes of the definition, made on positions with the levels as they were in memory order
pub passes_positions : (level lowest : ℕ) (xs : List Item) (rest : List ℕ) → passes_by level lowest (levels_of xs) (positions_of xs ++ rest) ≡ positions_of (passes level lowest xs) ++ rest
passes_positions level lowest xs rest = sym (alike_passes level lowest xs (levels_of xs) rest (λ t h. refl))

-- the highest and the lowest odd level look at levels alone
pub highest_levels : (xs : List Item) → highest (at_levels (levels_of xs)) ≡ highest xs
unfolding highest
highest_levels [] = refl
highest_levels (x ∷ xs) = ap (max x.level) (highest_levels xs)

pub lowest_odd_levels : (none : ℕ) (xs : List Item) → lowest_odd none (at_levels (levels_of xs)) ≡ lowest_odd none xs
unfolding lowest_odd
lowest_odd_levels none [] = refl
lowest_odd_levels none (x ∷ xs) = ap (λ (n : ℕ). if is_odd x.level then min x.level n else n) (lowest_odd_levels none xs)

-- the highest level is even, or an odd one lies within it
within_if : (b : Bool) (l low top : ℕ) → is_odd l ≡ b → (low ≤ top) ⊎ (top % 2 ≡ 0) → ((if b then min l low else low) ≤ max l top) ⊎ (max l top % 2 ≡ 0)
within_if true l low top e h = inl (omega arith)
within_if false l low top e (inl h) = inl (omega arith)
within_if false l low top e (inr h) = even (le_or_lt l top)
  where
    even : (l ≤ top) ⊎ (top < l) → (low ≤ max l top) ⊎ (max l top % 2 ≡ 0)
    even (inl g) = let m : max l top ≡ top = omega arith in inr (ap (λ (n : ℕ). n % 2) m ∙ h)
    even (inr g) =
        let m : max l top ≡ l = omega arith in
        let n : ¬ (l % 2 ≡ 1) = eqb-false (l % 2) 1 e in
        inr (ap (λ (n : ℕ). n % 2) m ∙ omega arith)

odd_within : (none : ℕ) (xs : List Item) → (lowest_odd none xs ≤ highest xs) ⊎ (highest xs % 2 ≡ 0)
unfolding highest lowest_odd
odd_within none [] = inr refl
odd_within none (x ∷ xs) = within_if (is_odd x.level) x.level (lowest_odd none xs) (highest xs) refl (odd_within none xs)

min_if : (b : Bool) (a l low low' : ℕ) → low' ≡ min a low → (if b then min l low' else low') ≡ min a (if b then min l low else low)
min_if true a l low low' e = omega arith
min_if false a l low low' e = e

low_min : (a none : ℕ) (xs : List Item) → lowest_odd (min a none) xs ≡ min a (lowest_odd none xs)
unfolding lowest_odd
low_min a none [] = refl
low_min a none (x ∷ xs) = min_if (is_odd x.level) a x.level (lowest_odd none xs) (lowest_odd (min a none) xs) (low_min a none xs)

-- among bytes the lowest odd level may be taken as 255 where there is none: the highest is then even, so below it
module _ (xs : List Item) (byte : highest xs < 256) where
  same_passes : (low low' : ℕ) → (low ≡ low') ⊎ ((highest xs < low) × (highest xs < low')) → passes (highest xs) low xs ≡ passes (highest xs) low' xs
  same_passes low low' (inl e) = ap (λ (n : ℕ). passes (highest xs) n xs) e
  same_passes low low' (inr h) = passes_none (highest xs) low xs h.0 ∙ sym (passes_none (highest xs) low' xs h.1)

  same_low : (255 ≤ highest xs) ⊎ (highest xs < 255) → (lowest_odd 255 xs ≤ suc (highest xs)) ⊎ (suc (highest xs) < lowest_odd 255 xs) → (lowest_odd (suc (highest xs)) xs ≤ highest xs) ⊎ (highest xs % 2 ≡ 0) → (lowest_odd 255 xs ≡ lowest_odd (suc (highest xs)) xs) ⊎ ((highest xs < lowest_odd 255 xs) × (highest xs < lowest_odd (suc (highest xs)) xs))
  same_low (inl top) l (inl w) =
      let m : min 255 (suc (highest xs)) ≡ 255 = omega arith in
      let e : lowest_odd 255 xs ≡ min 255 (lowest_odd (suc (highest xs)) xs) = ap (λ (n : ℕ). lowest_odd n xs) (sym m) ∙ low_min 255 (suc (highest xs)) xs in
      inl (omega arith)
  same_low (inl top) l (inr w) = absurd (omega arith)
  same_low (inr top) l w =
      let m : min (suc (highest xs)) 255 ≡ suc (highest xs) = omega arith in
      let e : lowest_odd (suc (highest xs)) xs ≡ min (suc (highest xs)) (lowest_odd 255 xs) = ap (λ (n : ℕ). lowest_odd n xs) (sym m) ∙ low_min (suc (highest xs)) 255 xs in
      either l e
    where
      either : (lowest_odd 255 xs ≤ suc (highest xs)) ⊎ (suc (highest xs) < lowest_odd 255 xs) → lowest_odd (suc (highest xs)) xs ≡ min (suc (highest xs)) (lowest_odd 255 xs) → (lowest_odd 255 xs ≡ lowest_odd (suc (highest xs)) xs) ⊎ ((highest xs < lowest_odd 255 xs) × (highest xs < lowest_odd (suc (highest xs)) xs))
      either (inl h) e = inl (omega arith)
      either (inr h) e = inr (omega arith, omega arith)

  pub low_of_bytes : (lowest_odd 255 xs ≡ lowest_odd (suc (highest xs)) xs) ⊎ ((highest xs < lowest_odd 255 xs) × (highest xs < lowest_odd (suc (highest xs)) xs))
  low_of_bytes = same_low (le_or_lt 255 (highest xs)) (le_or_lt (lowest_odd 255 xs) (suc (highest xs))) (odd_within (suc (highest xs)) xs)

  pub L2_of_bytes : passes (highest xs) (lowest_odd 255 xs) xs ≡ L2 xs
  unfolding L2
  L2_of_bytes = same_passes (lowest_odd 255 xs) (lowest_odd (suc (highest xs)) xs) low_of_bytes

  -- and so it may in the sum that counts what is reversed
  pub reverses_of_bytes : slots (lowest_odd 255 xs) (levels_of xs) ≡ L2_reverses xs
  reverses_of_bytes = go low_of_bytes
    where
      go : (lowest_odd 255 xs ≡ lowest_odd (suc (highest xs)) xs) ⊎ ((highest xs < lowest_odd 255 xs) × (highest xs < lowest_odd (suc (highest xs)) xs)) → slots (lowest_odd 255 xs) (levels_of xs) ≡ L2_reverses xs
      go (inl e) = ap (λ (n : ℕ). slots n (levels_of xs)) e ∙ sym (reverses_sum xs)
      go (inr h) = slots_none (lowest_odd 255 xs) xs h.0 ∙ sym (slots_none (lowest_odd (suc (highest xs)) xs) xs h.1) ∙ sym (reverses_sum xs)
