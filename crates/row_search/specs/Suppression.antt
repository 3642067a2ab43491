-- Suppression by least distance d, in indices, of apexes of the row y that come in ascending order.
use Rattle.std.specs.Prelude.{cond, List, [], ◌∷◌, ℕ, ◌-◌, ltb, Float}
use Rattle.std.specs.Float.Ieee.{le}
use Rattle.numeric.specs.Arith.{at}

-- The next apex after those kept so far, the newest first. Far enough from the newest it is kept too; else the higher of the
-- two stays, and of equal ones the earlier.
unfoldable pub keep : ℕ → List Float → List ℕ → ℕ → List ℕ
keep d y [] i = i ∷ []
keep d y (last ∷ older) i =
    cond (ltb (i - last) d) (cond (le (at y i) (at y last)) (last ∷ older) (i ∷ older)) (i ∷ last ∷ older)

unfoldable pub keep_all : ℕ → List Float → List ℕ → List ℕ → List ℕ
keep_all d y ks [] = ks
keep_all d y ks (i ∷ is) = keep_all d y (keep d y ks i) is
