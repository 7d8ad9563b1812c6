-- What is read off a table is what its rules make of the type. Only classes change, so that all other numbers share
-- an entry. Assumes nothing.
use Rattle.std.specs.Prelude.{if◌then◌else◌}
use Prim.Native.Nat.{ℕ, ◌+◌, ◌*◌, ◌≤◌, ◌<◌, min}
use native.Mathlib.Nat.{le_refl, mod-eq_of_lt}
use native.Mathlib.Omega.{arith}
use mathlib.Core.Bool.{Bool, true, false, not}
use mathlib.Core.Path.{◌≡◌, sym, ap, ap₂, ◌∙◌}
use mathlib.Core.List.{List}
use borrow.Author.Tests.{eq-eqb, ne_eqb, eqb-true}
use lib.Bits.{bit_and, and_zero_r, or_zero_l, or_zero_r, and_mask}
use lib.Dec.{eqb}
use lib.ListN.{get_or}
use Rattle.laws.specs.Tables.{table_of}
use Rattle.rules.specs.Classes.{L, R, AL, EN, ES, ET, CS, last_place, row_width, is_strong}
use Rattle.rules.specs.Weak.{change_W2, strong_W2, change_W3, change_W6, change_W7, is_side, strong_W7}
use Rattle.laws.proofs.Passes.{by_test}
use Rattle.laws.proofs.Tables.{Flat, rule_at, at_place}
use Rattle.weak_steps.specs.declared.Table.{Table}
use Rattle.weak_steps.specs.Tables.{keeps, gives, alters, rows, early, late, masked, entry, changed, carried, becomes, follows, early_steps, late_steps}

-- ---- the places that are read
pub changed_at : (table : List ℕ) (wanted strong t row place : ℕ) → row ≡ (if eqb strong wanted then row_width else 0) → place ≡ min t last_place → masked t (get_or table (row + place) 0) (get_or table (2 * row_width + (row + place)) 0) ≡ changed table wanted strong t
unfolding changed
changed_at table wanted strong t row place is at =
    by_test (eqb strong wanted)
    (λ e.
    let second : row ≡ row_width = is ∙ rw e in
    let near : row + place ≡ 1 * row_width + min t last_place = omega arith in
    let far : 2 * row_width + (row + place) ≡ (2 + 1) * row_width + min t last_place = omega arith in
    rw (e, far, near))
    (λ e.
    let first : row ≡ 0 = is ∙ rw e in
    let near : row + place ≡ 0 * row_width + min t last_place = omega arith in
    let far : 2 * row_width + (row + place) ≡ (2 + 0) * row_width + min t last_place = omega arith in
    rw (e, far, near))

pub carried_at : (table : List ℕ) (strong t place : ℕ) → place ≡ min t last_place → masked strong (get_or table (4 * row_width + place) 0) (get_or table (row_width + (4 * row_width + place)) 0) ≡ carried table strong t
unfolding carried
carried_at table strong t place at =
    let far : row_width + (4 * row_width + place) ≡ 5 * row_width + min t last_place = omega arith in
    rw (far, at)

-- ---- two entries together
mask : (old new : ℕ) (changes : Bool) → old < 256 → masked old (if changes then 0 else 255) (if changes then new else 0) ≡ (if changes then new else old)
mask old new true h = rw (and_zero_r old) (or_zero_l new)
mask old new false h = rw (or_zero_r (bit_and old 255)) (and_mask old 8 ∙ mod-eq_of_lt h)

-- ---- only classes change
abbrev OnlyClasses : (ℕ → Bool) → Type 0
OnlyClasses changes = (t : ℕ) → last_place ≤ t → changes t ≡ false

no_class : (t k : ℕ) → last_place ≤ t → k < last_place → eqb t k ≡ false
no_class t k h g = ne_eqb t k (λ e. let same : t ≡ k = e in omega arith)

keeps_flat : (changes : ℕ → Bool) → OnlyClasses changes → Flat last_place (keeps changes)
keeps_flat changes only t h = rw (only t h, only last_place (le_refl last_place))

gives_flat : (changes : ℕ → Bool) (new : ℕ → ℕ) → OnlyClasses changes → Flat last_place (gives changes new)
gives_flat changes new only t h = rw (only t h, only last_place (le_refl last_place))

-- a rule that leaves all that is no class
abbrev Leaves : (ℕ → ℕ) → Type 0
Leaves rule = (t : ℕ) → last_place ≤ t → rule t ≡ t

leaves_only : (rule : ℕ → ℕ) → Leaves rule → OnlyClasses (alters rule)
leaves_only rule leaves t h = ap not (eq-eqb (rule t) t (leaves t h))

altered : (rule : ℕ → ℕ) (t : ℕ) → (if alters rule t then rule t else t) ≡ rule t
altered rule t = by_test (eqb (rule t) t) (λ e. rw e (sym (eqb-true (rule t) t e))) (λ e. rw e)

-- two entries for a rule
by_entries : (rule : ℕ → ℕ) (t k g : ℕ) → t < 256 → k ≡ keeps (alters rule) t → g ≡ gives (alters rule) rule t → masked t k g ≡ rule t
by_entries rule t k g h e f = ap₂ (masked t) e f ∙ mask t (rule t) (alters rule t) h ∙ altered rule t

-- ---- any table of a pass
module _ (other behind : ℕ → ℕ) (strong : ℕ → Bool) where
  abbrev all : List (ℕ → ℕ)
  all = rows other behind strong

  read : (row t : ℕ) → Flat last_place (rule_at all row) → entry (table_of row_width all) row t ≡ rule_at all row t
  read row t flat = at_place row_width last_place all row t (omega arith) flat

  reads_change : Leaves other → Leaves behind → (wanted s t : ℕ) → t < 256 → changed (table_of row_width all) wanted s t ≡ (if eqb s wanted then behind t else other t)
  unfolding changed
  reads_change leaves-other leaves-behind wanted s t h =
      let o : OnlyClasses (alters other) = leaves_only other leaves-other in
      let b : OnlyClasses (alters behind) = leaves_only behind leaves-behind in
      by_test (eqb s wanted)
      (λ e. rw e (by_entries behind t _ _ h (read 1 t (keeps_flat (alters behind) b)) (read 3 t (gives_flat (alters behind) behind b))))
      (λ e. rw e (by_entries other t _ _ h (read 0 t (keeps_flat (alters other) o)) (read 2 t (gives_flat (alters other) other o))))

  reads_strong : OnlyClasses strong → (s t : ℕ) → s < 256 → carried (table_of row_width all) s t ≡ (if strong t then t else s)
  unfolding carried
  reads_strong only s t h =
      ap₂ (masked s) (read 4 t (keeps_flat strong only)) (read 5 t (gives_flat strong (λ u. u) only)) ∙ mask s t (strong t) h

-- ---- W2, then W3
leaves_W3 : (strong : ℕ) → Leaves (λ t. change_W3 (change_W2 strong t))
unfolding change_W3 change_W2
leaves_W3 strong t h = rw (no_class t EN h (omega arith), no_class t AL h (omega arith))

behind_AL : (strong t : ℕ) → (if eqb strong AL then change_W3 (change_W2 AL t) else change_W3 (change_W2 L t)) ≡ change_W3 (change_W2 strong t)
unfolding change_W2
behind_AL strong t = by_test (eqb strong AL) (λ e. rw e) (λ e. rw e)

only_strong : OnlyClasses is_strong
unfolding is_strong
only_strong t h = rw (no_class t L h (omega arith), no_class t R h (omega arith), no_class t AL h (omega arith))

pub early_change : {table : Table} (strong t : ℕ) {r : ℕ} → table ≡ early_steps → t < 256 → r ≡ becomes table strong t → r ≡ change_W3 (change_W2 strong t)
unfolding early
early_change {table} strong t {r} is h e =
    e ∙ ap (λ (x : Table). becomes x strong t) is
    ∙ reads_change (λ u. change_W3 (change_W2 L u)) (λ u. change_W3 (change_W2 AL u)) is_strong (leaves_W3 L) (leaves_W3 AL) AL strong t h
    ∙ behind_AL strong t

pub early_carry : {table : Table} (strong t : ℕ) {r : ℕ} → table ≡ early_steps → strong < 256 → r ≡ follows table strong t → r ≡ strong_W2 strong t
unfolding early strong_W2
early_carry {table} strong t {r} is h e =
    e ∙ ap (λ (x : Table). follows x strong t) is
    ∙ reads_strong (λ u. change_W3 (change_W2 L u)) (λ u. change_W3 (change_W2 AL u)) is_strong only_strong strong t h

-- ---- W6, then W7
leaves_W7 : (strong : ℕ) → Leaves (λ t. change_W7 strong (change_W6 t))
unfolding change_W7 change_W6
leaves_W7 strong t h = rw (no_class t ES h (omega arith), no_class t ET h (omega arith), no_class t CS h (omega arith), no_class t EN h (omega arith))

behind_L : (strong t : ℕ) → (if eqb strong L then change_W7 L (change_W6 t) else change_W7 R (change_W6 t)) ≡ change_W7 strong (change_W6 t)
unfolding change_W7
behind_L strong t = by_test (eqb strong L) (λ e. rw e) (λ e. rw e)

only_side : OnlyClasses is_side
unfolding is_side
only_side t h = rw (no_class t R h (omega arith), no_class t L h (omega arith))

pub late_change : {table : Table} (strong t : ℕ) {r : ℕ} → table ≡ late_steps → t < 256 → r ≡ becomes table strong t → r ≡ change_W7 strong (change_W6 t)
unfolding late
late_change {table} strong t {r} is h e =
    e ∙ ap (λ (x : Table). becomes x strong t) is
    ∙ reads_change (λ u. change_W7 R (change_W6 u)) (λ u. change_W7 L (change_W6 u)) is_side (leaves_W7 R) (leaves_W7 L) L strong t h
    ∙ behind_L strong t

pub late_carry : {table : Table} (strong t : ℕ) {r : ℕ} → table ≡ late_steps → strong < 256 → r ≡ follows table strong t → r ≡ strong_W7 strong t
unfolding late strong_W7
late_carry {table} strong t {r} is h e =
    e ∙ ap (λ (x : Table). follows x strong t) is
    ∙ reads_strong (λ u. change_W7 R (change_W6 u)) (λ u. change_W7 L (change_W6 u)) is_side only_side strong t h
