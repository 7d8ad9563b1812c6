-- What the reading of an input's start cites. Assumes nothing.
use Rattle.std.proofs.Common.{◌≡◌, ℕ, ◌+◌, ◌-◌, ◌≤◌, List, ◌++◌, length, take, sym, ap, ◌∙◌}
use Rattle.std.proofs.lemmas.List.{length-take-le, take-append-le}
use Rattle.std.proofs.Math.Seq.{take-append-add}
use borrow.Rule.Slice.PartMut.{put_mid, post_of}

-- the first bytes once more are read behind them
pub take_read : (xs ys : List ℕ) (i n : ℕ) → i ≤ length xs → n ≤ length ys → take (i + n) (put_mid i (length xs - i) xs ys) ≡ take i xs ++ take n ys
take_read xs ys i n within fits =
    let front = take i xs in
    let behind = ys ++ post_of i (length xs - i) xs in
    let len : length front ≡ i = length-take-le i xs within in
    ap (λ (k : ℕ). take (k + n) (front ++ behind)) (sym len) ∙ take-append-add front behind n ∙ ap (λ (t : List ℕ). front ++ t) (take-append-le n ys (post_of i (length xs - i) xs) fits)
