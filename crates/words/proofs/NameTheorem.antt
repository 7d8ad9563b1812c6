-- The names stand in house order: each names the class of the rules that has it.
-- Assumes nothing.
use mathlib.Core.Path.{◌≡◌, refl}
use mathlib.Core.List.{[], ◌∷◌, map}
use Rattle.rules.specs.Classes.{L, LRE, LRO, R, AL, RLE, RLO, PDF, EN, ES, ET, AN, CS, NSM, BN, B, S, WS, ON, CR}
use Rattle.words.specs.Words.{same_word, place_among, class_names, class_named}

pub names_their_classes : map class_named class_names ≡ L ∷ LRE ∷ LRO ∷ R ∷ AL ∷ RLE ∷ RLO ∷ PDF ∷ EN ∷ ES ∷ ET ∷ AN ∷ CS ∷ NSM ∷ BN ∷ B ∷ S ∷ WS ∷ ON ∷ CR ∷ []
unfolding class_named place_among same_word
names_their_classes = refl
