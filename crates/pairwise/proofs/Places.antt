-- The places of an order: which position stands at which, told by counts.
-- Assumes nothing.
use Prim.Native.Nat.{ℕ, zero, suc, ◌+◌, ◌≤◌, ◌<◌}
use native.Mathlib.Omega.{arith}
use mathlib.Core.Path.{◌≡◌, refl, sym, ap, subst, ◌∙◌}
use mathlib.Core.List.{List, [], ◌∷◌, ◌++◌, map, map-append}
use lib.ListN.{length, get_or, length-append, get_or-append}
use lib.Seq.{get_or-append-add}
use borrow.Author.Tests.{eq-eqb, eqb-true}
use Rattle.rules.specs.Line.{Item}
use Rattle.laws.proofs.Passes.{by_test}
use Rattle.laws.proofs.SumLaws.{one}
use Rattle.pairwise.proofs.Count.{count, stands_at}
use Rattle.pairwise.proofs.Sides.{Left}

-- the positions of items, in turn
abbrev pub places : List Item → List ℕ
places xs = map (λ (x : Item). x.position) xs

-- z stands at place p
abbrev pub At : List ℕ → ℕ → ℕ → Type 0
At order z p = (p < length order) × (get_or order p 0 ≡ z)

-- what stands at a place is counted
pub counted : (z : ℕ) (xs : List Item) (p : ℕ) → At (places xs) z p → 1 ≤ count (stands_at z) xs
counted z [] p at_p = absurd (omega arith)
counted z (x ∷ xs) zero at_p = omega (arith, ap one (eq-eqb x.position z at_p.1))
counted z (x ∷ xs) (suc p) at_p = omega (arith, counted z xs p (omega arith, at_p.1))

-- what is counted stands at a place
pub place : (z : ℕ) (xs : List Item) → 1 ≤ count (stands_at z) xs → (p : ℕ) × (At (places xs) z p)
place z [] some = absurd (omega arith)
place z (x ∷ xs) some =
    by_test (stands_at z x)
    (λ here. (0, (omega arith, eqb-true x.position z here)))
    (λ not. further (place z xs (omega (arith, ap one not))))
  where
    further : (p : ℕ) × (At (places xs) z p) → (p : ℕ) × (At (places (x ∷ xs)) z p)
    further (p, (within, is)) = (suc p, (omega arith, is))

-- what is counted once stands at one place
pub one_place : (z : ℕ) (xs : List Item) → count (stands_at z) xs ≤ 1 → (p q : ℕ) → At (places xs) z p → At (places xs) z q → p ≡ q
one_place z [] single p q at_p at-q = absurd (omega arith)
one_place z (x ∷ xs) single zero zero at_p at-q = refl
one_place z (x ∷ xs) single zero (suc q) at_p at-q = absurd (omega (arith, ap one (eq-eqb x.position z at_p.1), counted z xs q (omega arith, at-q.1)))
one_place z (x ∷ xs) single (suc p) zero at_p at-q = absurd (omega (arith, ap one (eq-eqb x.position z at-q.1), counted z xs p (omega arith, at_p.1)))
one_place z (x ∷ xs) single (suc p) (suc q) at_p at-q = ap suc (one_place z xs (omega arith) p q (omega arith, at_p.1) (omega arith, at-q.1))

-- a place in the left part of an order, and one in the right part
in_left : (z : ℕ) (ps qs : List ℕ) (p : ℕ) → At ps z p → At (ps ++ qs) z p
in_left z ps qs p at_p = (omega (arith, length-append ps qs), get_or-append ps qs 0 p at_p.0 ∙ at_p.1)

in_right : (z : ℕ) (ps qs : List ℕ) (q : ℕ) → At qs z q → At (ps ++ qs) z (length ps + q)
in_right z ps qs q at-q = (omega (arith, length-append ps qs), get_or-append-add ps qs q 0 ∙ at-q.1)

-- of two positions, each counted once, the left one has the lower place
pub left_is_lower : (x y : ℕ) (xs : List Item) → count (stands_at x) xs ≤ 1 → count (stands_at y) xs ≤ 1 → Left x y xs → (p q : ℕ) → At (places xs) x p → At (places xs) y q → p < q
left_is_lower x y xs single-x single-y l p q at_p at-q = go (place x l.left l.first) (place y l.right l.second)
  where
    parts : places l.left ++ places l.right ≡ places xs
    parts = sym (map-append (λ (x : Item). x.position) l.left l.right) ∙ ap places (sym l.cut)

    go : (p' : ℕ) × (At (places l.left) x p') → (q' : ℕ) × (At (places l.right) y q') → p < q
    go (p', at-p') (q', at-q') =
        let same-p : p ≡ p' = one_place x xs single-x p p' at_p (subst (λ (o : List ℕ). At o x p') parts (in_left x (places l.left) (places l.right) p' at-p')) in
        let same-q : q ≡ length (places l.left) + q' = one_place y xs single-y q (length (places l.left) + q') at-q (subst (λ (o : List ℕ). At o y (length (places l.left) + q')) parts (in_right y (places l.left) (places l.right) q' at-q')) in
        omega arith
