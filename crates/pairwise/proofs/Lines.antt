-- Demand 3 for all lines of a paragraph: each line's part of the order displays that line. Assumes nothing.
use Prim.Native.Nat.{ℕ, ◌≤◌, ◌<◌}
use native.Mathlib.Omega.{arith}
use mathlib.Core.Path.{◌≡◌, refl}
use mathlib.Core.Bool.{true}
use mathlib.Core.List.{List, [], ◌∷◌}
use lib.ListN.{length}
use lib.Seq.{take-append_seam, drop-append_seam}
use Rattle.rules.specs.Line.{line_order, all_orders}
use Rattle.rules.specs.Refusals.{ends_rise_to}
use Rattle.rules.proofs.EndLaws.{next_rises, rises_within}
use Rattle.pairwise.specs.Demand3.{EachDisplayed}
use Rattle.pairwise.proofs.Theorem.{demand3}

pub each_displayed : (base : ℕ) (cs ls : List ℕ) (from : ℕ) (ends : List ℕ) → length cs ≤ length ls → ends_rise_to from ends (length cs) ≡ true → EachDisplayed base cs ls from ends (all_orders base cs ls from ends)
unfolding all_orders
each_displayed base cs ls from [] h e = refl
each_displayed base cs ls from (to ∷ ends) h e =
    let next = next_rises from to ends (length cs) e in
    let lower : from < to = next.0 in (
      length (line_order base cs ls from to),
      rw (take-append_seam (line_order base cs ls from to) (all_orders base cs ls to ends))
          (demand3 base cs ls from to (omega arith) (rises_within to ends (length cs) next.1) h),
      rw (drop-append_seam (line_order base cs ls from to) (all_orders base cs ls to ends)) (each_displayed base cs ls to ends h next.1),
    )
