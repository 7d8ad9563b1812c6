-- One position of a walk, of every position or of the kept ones: what is left after it. Assumes nothing.
use Prim.Native.Nat.{ℕ, ◌+◌, ◌≤◌, ◌<◌}
use mathlib.Core.Path.{◌≡◌, sym, ap, ◌∙◌}
use mathlib.Core.Bool.{true, false, ◌||◌}
use mathlib.Core.List.{List, [], ◌∷◌}
use lib.Dec.{eqb}
use lib.ListN.{length, get_or, drop, set, drop_of_length-le}
use Rattle.laws.proofs.Lists.{drop_next}
use Rattle.laws.proofs.Any.{neither}
use Rattle.rules.specs.Classes.{LRE, LRO, RLE, RLO, PDF, BN, is_opening, is_removed}
use Rattle.rules.specs.Explicit.{State, verdict, after, step, kept}
use Rattle.explicit.proofs.ExplicitLaws.{kept_none, kept_removed, kept_kept}
use Rattle.laws.proofs.Filling.{Filled, filled_more}

-- no step of the rules moves at a kept position
pub kept_stays : (s : State) (c : ℕ) → is_removed c ≡ false → s ≡ step s c
unfolding is_removed is_opening step verdict after
kept_stays s c stays =
    let kinds = (neither (eqb c LRE || eqb c LRO || eqb c RLE || eqb c RLO || eqb c PDF) (eqb c BN) stays).0 in
    let codes = neither (eqb c LRE || eqb c LRO || eqb c RLE || eqb c RLO) (eqb c PDF) kinds in
    let opens = neither (eqb c LRE || eqb c LRO || eqb c RLE) (eqb c RLO) codes.0 in
    let embeds = neither (eqb c LRE || eqb c LRO) (eqb c RLE) opens.0 in
    let first = neither (eqb c LRE) (eqb c LRO) embeds.0 in
    rw (embeds.1, first.0, opens.1, first.1, codes.1)

-- a phase that gives each position something by the state before it
module _ (phase : State → List ℕ → List ℕ) (here : State → ℕ → ℕ) (more : (s : State) (c : ℕ) (cs : List ℕ) → phase s (c ∷ cs) ≡ here s c ∷ phase (step s c) cs) where
  pub phase_at : (s : State) (cs : List ℕ) (i : ℕ) → i < length cs
      → phase s (drop i cs) ≡ here s (get_or cs i 0) ∷ phase (step s (get_or cs i 0)) (drop (i + 1) cs)
  phase_at s cs i h = ap (phase s) (drop_next cs i h) ∙ more s (get_or cs i 0) (drop (i + 1) cs)

  kept_split : (s : State) (cs : List ℕ) (i : ℕ) → i < length cs
      → kept (drop i cs) (phase s (drop i cs)) ≡ kept (get_or cs i 0 ∷ drop (i + 1) cs) (here s (get_or cs i 0) ∷ phase (step s (get_or cs i 0)) (drop (i + 1) cs))
  kept_split s cs i h = ap (λ (ds : List ℕ). kept ds (phase s ds)) (drop_next cs i h) ∙ ap (kept (get_or cs i 0 ∷ drop (i + 1) cs)) (more s (get_or cs i 0) (drop (i + 1) cs))

  module _ {whole before out : List ℕ} {k i : ℕ} {t : State} (s : State) (cs : List ℕ) (h : i < length cs) (e : t ≡ step s (get_or cs i 0)) where
    -- a position written
    pub phase_written : {v : ℕ} → k < length before → v ≡ here s (get_or cs i 0) → Filled whole before out k (phase s (drop i cs))
        → Filled whole before (set out k v) (k + 1) (phase t (drop (i + 1) cs))
    phase_written room f w =
        rw e (filled_more (phase_at s cs i h ∙ ap (λ (x : ℕ). x ∷ phase (step s (get_or cs i 0)) (drop (i + 1) cs)) (sym f)) room w)

    -- a kept position written
    pub kept_written : {v : ℕ} → is_removed (get_or cs i 0) ≡ false → k < length before → v ≡ here s (get_or cs i 0)
        → Filled whole before out k (kept (drop i cs) (phase s (drop i cs)))
        → Filled whole before (set out k v) (k + 1) (kept (drop (i + 1) cs) (phase t (drop (i + 1) cs)))
    kept_written stays room f w =
        rw e
        (filled_more
        (kept_split s cs i h ∙ kept_kept _ _ _ _ stays
        ∙ ap (λ (x : ℕ). x ∷ kept (drop (i + 1) cs) (phase (step s (get_or cs i 0)) (drop (i + 1) cs))) (sym f))
        room w)

    -- a removed position passed
    pub kept_passed : is_removed (get_or cs i 0) ≡ true → Filled whole before out k (kept (drop i cs) (phase s (drop i cs)))
        → Filled whole before out k (kept (drop (i + 1) cs) (phase t (drop (i + 1) cs)))
    kept_passed goes w =
        let same : kept (drop i cs) (phase s (drop i cs)) ≡ kept (drop (i + 1) cs) (phase (step s (get_or cs i 0)) (drop (i + 1) cs)) =
        kept_split s cs i h ∙ kept_removed _ _ _ _ goes in
        rw (e, ← same) w

-- nothing is left at the end
pub phase_ended : (phase : List ℕ → List ℕ) → phase [] ≡ [] → (cs : List ℕ) {i : ℕ} → length cs ≤ i → phase (drop i cs) ≡ []
phase_ended phase none cs h = ap phase (drop_of_length-le cs h) ∙ none

pub kept_ended : (phase : List ℕ → List ℕ) (cs : List ℕ) {i : ℕ} → length cs ≤ i → kept (drop i cs) (phase (drop i cs)) ≡ []
kept_ended phase cs h = phase_ended (λ (ds : List ℕ). kept ds (phase ds)) (kept_none (phase [])) cs h
