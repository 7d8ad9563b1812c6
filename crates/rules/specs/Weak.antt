-- Weak types: rules W1 to W7. Each goes over a whole run before the next; sor and eor are the run's start and end types.
use Rattle.std.specs.Prelude.{ℕ, Bool, ◌||◌, ◌&&◌, List, [], ◌∷◌, map, eqb, if◌then◌else◌}
use Rattle.laws.specs.Stretches.{stretches}
use Rattle.laws.specs.Choice.{head_or}
use Rattle.rules.specs.Classes.{L, R, AL, EN, ES, ET, AN, CS, NSM, ON, is_strong}

-- W1: NSM takes the type before it, at the start of the run the start type
unfoldable pub change_W1 : ℕ → ℕ → ℕ
change_W1 before t = if eqb t NSM then before else t

unfoldable pub W1 : ℕ → List ℕ → List ℕ
W1 before [] = []
W1 before (t ∷ ts) = let new = change_W1 before t in new ∷ W1 new ts

-- W2: EN becomes AN where the nearest strong type before (R, L, AL or the start type) is AL
unfoldable pub change_W2 : ℕ → ℕ → ℕ
change_W2 strong t = if eqb t EN && eqb strong AL then AN else t

-- and the nearest strong type before what follows
unfoldable pub strong_W2 : ℕ → ℕ → ℕ
strong_W2 strong t = if is_strong t then t else strong

unfoldable pub W2 : ℕ → List ℕ → List ℕ
W2 strong [] = []
W2 strong (t ∷ ts) = change_W2 strong t ∷ W2 (strong_W2 strong t) ts

-- W3: AL becomes R
unfoldable pub change_W3 : ℕ → ℕ
change_W3 t = if eqb t AL then R else t

unfoldable pub W3 : List ℕ → List ℕ
W3 ts = map change_W3 ts

-- W4: one ES between two EN becomes EN; one CS between two numbers of one type becomes that type
unfoldable pub change_W4 : ℕ → ℕ → ℕ → ℕ
change_W4 before t next =
    if eqb t ES && (eqb before EN && eqb next EN) then EN else
    if eqb t CS && (eqb before EN && eqb next EN) then EN else
    if eqb t CS && (eqb before AN && eqb next AN) then AN else t

unfoldable pub W4 : ℕ → ℕ → List ℕ → List ℕ
W4 before eor [] = []
W4 before eor (t ∷ ts) = change_W4 before t (head_or eor ts) ∷ W4 t eor ts

-- W5: a stretch of ET that touches EN becomes EN
unfoldable pub is_terminator : ℕ → Bool
is_terminator t = eqb t ET

unfoldable pub change_W5 : ℕ → ℕ → ℕ → ℕ
change_W5 before next t = if eqb before EN || eqb next EN then EN else t

unfoldable pub W5 : ℕ → ℕ → List ℕ → List ℕ
W5 sor eor ts = stretches is_terminator change_W5 sor eor ts

-- W6: the remaining ES, ET and CS become ON
unfoldable pub change_W6 : ℕ → ℕ
change_W6 t = if eqb t ES || eqb t ET || eqb t CS then ON else t

unfoldable pub W6 : List ℕ → List ℕ
W6 ts = map change_W6 ts

-- W7: EN becomes L where the nearest strong type before (R, L or the start type) is L
unfoldable pub change_W7 : ℕ → ℕ → ℕ
change_W7 strong t = if eqb t EN && eqb strong L then L else t

-- the strong types after W3, by which AL is R
unfoldable pub is_side : ℕ → Bool
is_side t = eqb t R || eqb t L

unfoldable pub strong_W7 : ℕ → ℕ → ℕ
strong_W7 strong t = if is_side t then t else strong

unfoldable pub W7 : ℕ → List ℕ → List ℕ
W7 strong [] = []
W7 strong (t ∷ ts) = change_W7 strong t ∷ W7 (strong_W7 strong t) ts

-- the weak types of a run with its start and end types
unfoldable pub weak : ℕ → ℕ → List ℕ → List ℕ
weak sor eor ts = W7 sor (W6 (W5 sor eor (W4 sor eor (W3 (W2 sor (W1 sor ts))))))
