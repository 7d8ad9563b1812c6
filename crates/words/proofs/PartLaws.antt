-- The laws of parts, the same for lines and for words: a part is what stands before its end, and after it come the
-- parts behind the separator, none where the bytes ended.
-- Assumes nothing.
use Prim.Native.Nat.{ℕ, suc, ◌+◌, ◌-◌, ◌≤◌, ◌<◌, max}
use native.Mathlib.Omega.{arith}
use mathlib.Core.Path.{◌≡◌, refl, ap, ◌∙◌}
use mathlib.Core.Bool.{true, false}
use mathlib.Core.List.{List, [], ◌∷◌}
use lib.Dec.{eqb}
use lib.ListN.{length, get_or, take, drop, length-take, length-drop, drop_of_length-le}
use lib.Seq.{drop-drop}
use borrow.Author.Tests.{eq-eqb, ne_eqb}
use Rattle.laws.proofs.Lists.{drop_next, by_order}
use Rattle.laws.proofs.Passes.{by_test}
use Rattle.words.specs.Words.{to_first, parts_at, first_part, part_end}

module _ (s : ℕ) where
  pub parts_nil : parts_at s [] ≡ [] ∷ []
  unfolding parts_at
  parts_nil = refl

  pub parts_here : (b : ℕ) (bs : List ℕ) → eqb b s ≡ true → parts_at s (b ∷ bs) ≡ [] ∷ parts_at s bs
  unfolding parts_at
  parts_here b bs e = rw e

  pub parts_on : (b : ℕ) (bs : List ℕ) → eqb b s ≡ false → parts_at s (b ∷ bs) ≡ to_first b (parts_at s bs)
  unfolding parts_at
  parts_on b bs e = rw e

to_first_length : (b : ℕ) (parts : List (List ℕ)) → length (first_part (to_first b parts)) ≡ suc (length (first_part parts))
to_first_length b [] = refl
to_first_length b (part ∷ parts) = refl

-- the parts behind a part that ended: what ended it is a separator, or the end of the bytes
unfoldable pub parts_behind : ℕ → List ℕ → List (List ℕ)
parts_behind s [] = []
parts_behind s (b ∷ bs) = parts_at s bs

behind_nil : (s : ℕ) → parts_behind s [] ≡ []
unfolding parts_behind
behind_nil s = refl

behind_cons : (s b : ℕ) (bs : List ℕ) → parts_behind s (b ∷ bs) ≡ parts_at s bs
unfolding parts_behind
behind_cons s b bs = refl

-- the first part has this length
abbrev first_length : ℕ → List ℕ → ℕ
first_length s bs = length (first_part (parts_at s bs))

module _ (s : ℕ) where
  abbrev Split : List ℕ → Type 0
  Split bs = parts_at s bs ≡ take (first_length s bs) bs ∷ parts_behind s (drop (first_length s bs) bs)

  split_here : (b : ℕ) (bs : List ℕ) → eqb b s ≡ true → Split (b ∷ bs)
  split_here b bs e = rw (parts_here s b bs e, behind_cons s b bs)

  split_on : (b : ℕ) (bs : List ℕ) → eqb b s ≡ false → Split bs → Split (b ∷ bs)
  split_on b bs e ih = rw (parts_on s b bs e, to_first_length b (parts_at s bs)) (ap (to_first b) ih)

  parts_split : (bs : List ℕ) → Split bs
  parts_split [] = rw (parts_nil s, behind_nil s)
  parts_split (b ∷ bs) = by_test (eqb b s) (λ e. split_here b bs e) (λ e. split_on b bs e (parts_split bs))

-- ---- the end of a part, as a search finds it
module _ (s : ℕ) (bs : List ℕ) (i : ℕ) where
  end_here : i < length bs → get_or bs i 0 ≡ s → i ≡ part_end s bs i
  unfolding part_end
  end_here h e = rw (drop_next bs i h, parts_here s (get_or bs i 0) (drop (i + 1) bs) (eq-eqb _ _ e)) (omega arith)

  end_on : i < length bs → (get_or bs i 0 ≡ s → ⊥) → part_end s bs (i + 1) ≡ part_end s bs i
  unfolding part_end
  end_on h e =
      rw (drop_next bs i h, parts_on s (get_or bs i 0) (drop (i + 1) bs) (ne_eqb _ _ e), to_first_length (get_or bs i 0) (parts_at s (drop (i + 1) bs)))
      (omega arith)

  end_past : length bs ≤ i → i ≡ part_end s bs i
  unfolding part_end
  end_past h = rw (drop_of_length-le bs h, parts_nil s) (omega arith)

  -- a part, and the parts behind its end
  pub parts_next : (e : ℕ) → e ≡ part_end s bs i → parts_at s (drop i bs) ≡ take (e - i) (drop i bs) ∷ parts_behind s (drop e bs)
  unfolding part_end
  parts_next e at-end =
      let size : first_length s (drop i bs) ≡ e - i = omega arith in
      let there : i + (e - i) ≡ e = omega arith in
      parts_split s (drop i bs)
      ∙ ap (λ (n : ℕ). take n (drop i bs) ∷ parts_behind s (drop n (drop i bs))) size
      ∙ ap (λ (l : List ℕ). take (e - i) (drop i bs) ∷ parts_behind s l) (drop-drop (e - i) i bs ∙ ap (λ (n : ℕ). drop n bs) there)

  pub end_within : {e : ℕ} → e ≡ part_end s bs i → i ≤ length bs → (i ≤ e) × (e ≤ length bs)
  unfolding part_end
  end_within {e} at-end h =
      let size : first_length s (drop i bs) ≤ length (drop i bs) =
      omega (arith, ap (λ (ps : List (List ℕ)). length (first_part ps)) (parts_split s (drop i bs)) ∙ length-take (first_length s (drop i bs)) (drop i bs)) in
      omega (arith, length-drop i bs)

  pub behind_next : i < length bs → parts_behind s (drop i bs) ≡ parts_at s (drop (i + 1) bs)
  behind_next h = rw (drop_next bs i h, behind_cons)

  pub behind_end : length bs ≤ i → parts_behind s (drop i bs) ≡ []
  behind_end h = rw (drop_of_length-le bs h, behind_nil)

-- ---- a search from a place on: at the separator, one place further, and past the last byte
module _ (s : ℕ) (bs : List ℕ) (from i : ℕ) (on : part_end s bs i ≡ part_end s bs from) where
  pub search_found : i < length bs → get_or bs i 0 ≡ s → i ≡ part_end s bs from
  search_found h e = end_here s bs i h e ∙ on

  pub search_next : i < length bs → (get_or bs i 0 ≡ s → ⊥) → part_end s bs (i + 1) ≡ part_end s bs from
  search_next h e = end_on s bs i h e ∙ on

  pub search_ended : (from ≤ length bs → i ≤ length bs) → length bs ≤ i → max from (length bs) ≡ part_end s bs from
  search_ended ends past = by_order from (length bs) within beyond
    where
      within : from ≤ length bs → max from (length bs) ≡ part_end s bs from
      within h = let there : max from (length bs) ≡ i = omega (arith, ends h) in there ∙ end_past s bs i past ∙ on

      beyond : length bs < from → max from (length bs) ≡ part_end s bs from
      beyond h = let there : max from (length bs) ≡ from = omega arith in there ∙ end_past s bs from (omega arith)

pub ruleset search_laws = (search_found, search_next, search_ended)
