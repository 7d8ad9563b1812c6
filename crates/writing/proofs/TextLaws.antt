-- Putting a text into a buffer: past the end nothing changes, and two texts put one behind the other are put as one.
-- Assumes nothing.
use Prim.Native.Nat.{ℕ, suc, ◌+◌, ◌≤◌, ◌<◌, min}
use native.Mathlib.Omega.{arith}
use mathlib.Core.Path.{◌≡◌, refl, sym, ap, ◌∙◌}
use mathlib.Core.Logic.{◌⊎◌, inl, inr}
use mathlib.Core.List.{List, [], ◌∷◌, ◌++◌}
use lib.ListN.{length, drop, set, length-append, length-set}
use lib.Seq.{set_out, sets, sets-eq}
use Rattle.laws.specs.Parts.{over}
use Rattle.laws.proofs.Lists.{le_or_lt}
use Rattle.writing.specs.Text.{put_text, Puts}
use Rattle.writing.specs.declared.Output.{Output}
use Rattle.writing.specs.Writes.{Writes}

-- ---- the buffer
length_put : (at : ℕ) (text buffer : List ℕ) → length (put_text at text buffer) ≡ length buffer
unfolding put_text
length_put at [] buffer = refl
length_put at (b ∷ bs) buffer = length_put (suc at) bs (set buffer at b) ∙ length-set buffer at b

put_past : (at : ℕ) (text buffer : List ℕ) → length buffer ≤ at → put_text at text buffer ≡ buffer
unfolding put_text
put_past at [] buffer h = refl
put_past at (b ∷ bs) buffer h =
    ap (put_text (suc at) bs) (set_out buffer at b h) ∙ put_past (suc at) bs buffer (omega arith)

put_append : (at : ℕ) (s t buffer : List ℕ) → put_text at (s ++ t) buffer ≡ put_text (at + length s) t (put_text at s buffer)
unfolding put_text
put_append at [] t buffer = let e : at ≡ at + 0 = omega arith in ap (λ (n : ℕ). put_text n t buffer) e
put_append at (b ∷ bs) t buffer =
    let e : suc at + length bs ≡ at + suc (length bs) = omega arith in
    put_append (suc at) bs t (set buffer at b) ∙ ap (λ (n : ℕ). put_text n t (put_text (suc at) bs (set buffer at b))) e

-- a place past the end stands for the end
put_within : (at : ℕ) (text buffer : List ℕ) → put_text (min at (length buffer)) text buffer ≡ put_text at text buffer
put_within at text buffer = by (le_or_lt at (length buffer))
  where
    by : (at ≤ length buffer) ⊎ (length buffer < at) → put_text (min at (length buffer)) text buffer ≡ put_text at text buffer
    by (inl h) = let e : min at (length buffer) ≡ at = omega arith in ap (λ (n : ℕ). put_text n text buffer) e
    by (inr h) =
        put_past (min at (length buffer)) text buffer (omega arith) ∙ sym (put_past at text buffer (omega arith))

-- ---- what a function that puts a text promises
pub puts_nothing : (buffer : List ℕ) (at end : ℕ) → end ≡ min at (length buffer) → Puts [] buffer at buffer end
unfolding put_text
puts_nothing buffer at end e = record { buffer = refl; behind = omega arith }

pub puts_byte : (byte : ℕ) (buffer : List ℕ) (at : ℕ) → at < length buffer → Puts (byte ∷ []) buffer at (set buffer at byte) (at + 1)
unfolding put_text
puts_byte byte buffer at h = record { buffer = refl; behind = omega arith }

pub puts_past : (text buffer : List ℕ) (at : ℕ) → length buffer ≤ at → Puts text buffer at buffer (length buffer)
puts_past text buffer at h = record { buffer = sym (put_past at text buffer h); behind = omega arith }

-- a buffer stays as long as it was
pub puts_long : {text before after : List ℕ} {at end : ℕ} → Puts text before at after end → length after ≡ length before
puts_long {text} {before} {after} {at} {end} p = ap length p.buffer ∙ length_put at text before

module _ {s t before mid after : List ℕ} {at e end : ℕ} where
  -- one text, then another from where the first ended
  pub puts_then : Puts s before at mid e → Puts t mid e after end → Puts (s ++ t) before at after end
  puts_then p q =
      let long : length mid ≡ length before = puts_long p in
      let at-the-end : put_text e t mid ≡ put_text (at + length s) t mid =
      ap (λ (n : ℕ). put_text n t mid) (p.behind ∙ ap (min (at + length s)) (sym long)) ∙ put_within (at + length s) t mid in
      record {
        buffer = q.buffer ∙ at-the-end ∙ ap (put_text (at + length s) t) p.buffer ∙ sym (put_append at s t before);
        behind = q.behind ∙ omega (arith, p.behind, long, length-append s t);
      }

-- ---- a text that has room from the buffer's first place on
put_sets : (at : ℕ) (text buffer : List ℕ) → put_text at text buffer ≡ sets buffer at text
unfolding put_text
put_sets at [] buffer = refl
put_sets at (b ∷ bs) buffer = put_sets (suc at) bs (set buffer at b)

pub puts_whole : {text before after : List ℕ} {end : ℕ} → Puts text before 0 after end → length text ≤ length before → (after ≡ over text before) × (end ≡ length text)
puts_whole {text} {before} p h =
    let e : 0 + length text ≡ length text = omega arith in
    let room : 0 + length text ≤ length before = omega arith in (
      p.buffer ∙ put_sets 0 text before ∙ sets-eq text before 0 room ∙ ap (λ (n : ℕ). text ++ drop n before) e,
      omega (arith, p.behind),
    )

-- ---- what a function that writes a text promises
module _ {s t : List ℕ} {before mid after : Output} where
  pub writes_then : Writes s before mid → Writes t mid after → Writes (s ++ t) before after
  writes_then p q = record { puts = puts_then p.puts q.puts; lent = q.lent ∙ p.lent }

-- where something was written, the place is no longer past the end
pub writes_on : {text : List ℕ} {before output : Output} → Writes text before output → Writes [] output output
writes_on {text} {before} {output} p = record { puts = puts_nothing output.out.now output.at output.at (omega (arith, p.puts.behind, puts_long p.puts)); lent = refl }

-- the same text by another name
pub writes_same : {s t : List ℕ} {before after : Output} → s ≡ t → Writes s before after → Writes t before after
writes_same e p = rw e at p
