-- Demand 3 settles the order: two orders that display the same line are equal.
-- Assumes nothing.
use Prim.Native.Nat.{ℕ, zero, suc, ◌≤◌, ◌<◌}
use native.Mathlib.Omega.{arith}
use mathlib.Core.Path.{◌≡◌, refl, sym, ap, subst, subst₂, ◌∙◌}
use mathlib.Core.Bool.{false}
use mathlib.Core.Logic.{◌↔◌}
use mathlib.Core.List.{List, [], ◌∷◌}
use lib.ListN.{length, get_or}
use Rattle.laws.specs.Choice.{is_odd}
use Rattle.rules.specs.Line.{line_levels, line_order}
use Rattle.pairwise.specs.Demand3.{OnLine, least_between, Displayed}
use Rattle.laws.proofs.Lists.{by_order}
use Rattle.pairwise.proofs.Places.{At}
use Rattle.pairwise.proofs.Theorem.{demand3}

-- a case split on two numbers
by_three : {A : Type 0} (a b : ℕ) → (a < b → A) → (a ≡ b → A) → (b < a → A) → A
by_three a b below same above = by_order (suc a) b below (λ at_least_lem. by_order (suc b) a above (λ at_most. same (omega arith)))

-- an order holds a position
abbrev Holds : List ℕ → ℕ → Type 0
Holds order z = (p : ℕ) × (At order z p)

-- it holds each at one place
abbrev Single : List ℕ → Type 0
Single order = (z p q : ℕ) → At order z p → At order z q → p ≡ q

-- two orders of the same positions, each held once, no two of them one way round in the one and the other way in the other
record Alike (ps qs : List ℕ) : Type 0 where
  single : Single ps
  single' : Single qs
  there : (z : ℕ) → Holds ps z → Holds qs z
  back : (z : ℕ) → Holds qs z → Holds ps z
  agree : (x y p q p' q' : ℕ) → At ps x p → At ps y q → At qs x p' → At qs y q' → p < q → p' < q'

nothing : (z : ℕ) → Holds [] z → ⊥
nothing z (p, (within, e)) = omega arith

first : (x : ℕ) (ps : List ℕ) → At (x ∷ ps) x 0
first x ps = (omega arith, refl)

further : (x z : ℕ) (ps : List ℕ) (p : ℕ) → At ps z p → At (x ∷ ps) z (suc p)
further x z ps p at_p = (omega arith, at_p.1)

-- the first of both is the same
same_first : (x y : ℕ) (ps qs : List ℕ) → Alike (x ∷ ps) (y ∷ qs) → x ≡ y
same_first x y ps qs a = go (a.there x (0, first x ps)) (a.back y (0, first y qs))
  where
    go : Holds (y ∷ qs) x → Holds (x ∷ ps) y → x ≡ y
    go (zero, at_p) hy = sym at_p.1
    go (suc p, at_p) (zero, at-q) = at-q.1
    go (suc p, at_p) (suc q, at-q) = absurd (omega (arith, a.agree x y 0 (suc q) (suc p) 0 (first x ps) at-q at_p (first y qs) (omega arith)))

-- what stands behind the first is alike again
single_behind : (x : ℕ) (ps : List ℕ) → Single (x ∷ ps) → Single ps
single_behind x ps single z p q at_p at-q = omega (arith, single z (suc p) (suc q) (further x z ps p at_p) (further x z ps q at-q))

held_behind : (x : ℕ) (ps qs : List ℕ) → Single (x ∷ ps) → ((z : ℕ) → Holds (x ∷ ps) z → Holds (x ∷ qs) z) → (z : ℕ) → Holds ps z → Holds qs z
held_behind x ps qs single there z (p, at_p) = go (there z (suc p, further x z ps p at_p))
  where
    go : Holds (x ∷ qs) z → Holds qs z
    go (zero, at-q) = absurd (omega (arith, single z 0 (suc p) (omega arith, at-q.1) (further x z ps p at_p)))
    go (suc q, at-q) = (q, (omega arith, at-q.1))

alike_behind : (x : ℕ) (ps qs : List ℕ) → Alike (x ∷ ps) (x ∷ qs) → Alike ps qs
alike_behind x ps qs a =
    record {
      single = single_behind x ps a.single;
      single' = single_behind x qs a.single';
      there = held_behind x ps qs a.single a.there;
      back = held_behind x qs ps a.single' a.back;
      agree = λ y z p q p' q' at_p at-q at-p' at-q' less.
          omega (arith, a.agree y z (suc p) (suc q) (suc p') (suc q') (further x y ps p at_p) (further x z ps q at-q) (further x y qs p' at-p') (further x z qs q' at-q') (omega arith));
    }

alike_same : (ps qs : List ℕ) → Alike ps qs → ps ≡ qs
alike_same [] [] a = refl
alike_same [] (q ∷ qs) a = absurd (nothing q (a.back q (0, first q qs)))
alike_same (p ∷ ps) [] a = absurd (nothing p (a.there p (0, first p ps)))
alike_same (p ∷ ps) (q ∷ qs) a =
    let e : q ≡ p = sym (same_first p q ps qs a) in
    ap (λ (r : List ℕ). p ∷ r) (alike_same ps qs (alike_behind p ps qs (subst (λ (k : ℕ). Alike (p ∷ ps) (k ∷ qs)) e a)))
    ∙ ap (λ (k : ℕ). k ∷ qs) (sym e)

module _ (cs ls : List ℕ) (from to : ℕ) where
  once_displayed : (ps : List ℕ) → Displayed cs ls ps from to → Single ps
  once_displayed ps d z p q at_p at-q = d.once p q at_p.0 at-q.0 (at_p.1 ∙ sym at-q.1)

  held_displayed : (ps qs : List ℕ) → Displayed cs ls ps from to → Displayed cs ls qs from to → (z : ℕ) → Holds ps z → Holds qs z
  held_displayed ps qs d e z (p, at_p) = go (e.placed z (subst (OnLine cs from to) at_p.1 (d.only p at_p.0)))
    where
      go : (q : ℕ) × (q < length qs) × (get_or qs q 0 ≡ z) → Holds qs z
      go (q, within, is) = (q, (within, is))

  -- of two positions the smallest level between them tells the sides
  side : (ps : List ℕ) → Displayed cs ls ps from to → (x y p q : ℕ) → At ps x p → At ps y q → x < y → (p < q) ↔ (is_odd (least_between cs ls from x y) ≡ false)
  side ps d x y p q at_p at-q less =
      subst₂ (λ (a b : ℕ). (p < q) ↔ (is_odd (least_between cs ls from a b) ≡ false)) at_p.1 at-q.1 (d.pairs p q at_p.0 at-q.0 (omega arith))

  agree_displayed : (ps qs : List ℕ) → Displayed cs ls ps from to → Displayed cs ls qs from to → (x y p q p' q' : ℕ) → At ps x p → At ps y q → At qs x p' → At qs y q' → p < q → p' < q'
  agree_displayed ps qs d e x y p q p' q' at_p at-q at-p' at-q' less =
      by_three x y
      (λ lower. (side qs e x y p' q' at-p' at-q' lower).1 ((side ps d x y p q at_p at-q lower).0 less))
      (λ same. absurd (omega (arith, once_displayed ps d y p q (at_p.0, at_p.1 ∙ same) at-q)))
      (λ higher.
      by_three p' q'
      (λ left. left)
      (λ same. absurd (omega (arith, sym at-p'.1 ∙ ap (λ (k : ℕ). get_or qs k 0) same ∙ at-q'.1)))
      (λ right. absurd (omega (arith, (side ps d y x q p at-q at_p higher).1 ((side qs e y x q' p' at-q' at-p' higher).0 right)))))

  pub settled : (ps qs : List ℕ) → Displayed cs ls ps from to → Displayed cs ls qs from to → ps ≡ qs
  settled ps qs d e =
      alike_same ps qs
      (record {
        single = once_displayed ps d;
        single' = once_displayed qs e;
        there = held_displayed ps qs d e;
        back = held_displayed qs ps e d;
        agree = agree_displayed ps qs d e;
      })

-- so of a line with its own levels the order of L2 is the only one
pub only_order : (base : ℕ) (cs ls : List ℕ) (from to : ℕ) → from ≤ to → to ≤ length cs → length cs ≤ length ls → (order : List ℕ) → Displayed cs (line_levels base cs ls from to) order from to → order ≡ line_order base cs ls from to
only_order base cs ls from to up within room order d =
    settled cs (line_levels base cs ls from to) from to order (line_order base cs ls from to) d (demand3 base cs ls from to up within room)
