-- Any two outcomes that are each equal to what a definition gives are equal: the determinacy of every statement of that
-- form, `r ≡ f input` or `buffer.new ≡ f input`. Assumes nothing.
use mathlib.Core.Path.{◌≡◌, sym, ap, ◌∙◌}

pub determined {ℓ} : {A : Type ℓ} {wanted x y : A} → x ≡ wanted → y ≡ wanted → x ≡ y
determined p q = p ∙ sym q

-- a page that some function reads back tells its answers apart
pub told_apart : {A B : Type 0} (page : A → B) (back : B → A) → ((a : A) → back (page a) ≡ a) → {wanted : B} (a b : A) → page a ≡ wanted → page b ≡ wanted → a ≡ b
told_apart page back reads a b p q = sym (reads a) ∙ ap back (determined p q) ∙ reads b
