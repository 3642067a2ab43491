-- Which number of document 01 an input is answered with.
use Rattle.std.specs.Prelude.{◌≡◌, Bool, true, false, cond, not, ◌&&◌, ◌||◌, List, [], ◌∷◌, eqb, ltb, ℕ, ◌<◌}

-- a number of document 01, and whether it applies
pub record Check : Type 0 where
  pub number : ℕ
  pub applies : Bool

-- the number of the first check that applies, and 0 if none does; with the checks in ascending order, the lowest number
unfoldable pub first_of : List Check → ℕ
first_of [] = 0
first_of (c ∷ cs) = cond c.applies c.number (first_of cs)

-- none of the checks applies
unfoldable pub clear : List Check → Bool
clear [] = true
clear (c ∷ cs) = not c.applies && clear cs

-- a check with the number n applies
unfoldable pub refuses : ℕ → List Check → Bool
refuses n [] = false
refuses n (c ∷ cs) = (eqb c.number n && c.applies) || refuses n cs

-- the numbers ascend, from above m
unfoldable pub ascending_from : ℕ → List Check → Bool
ascending_from m [] = true
ascending_from m (c ∷ cs) = ltb m c.number && ascending_from c.number cs

-- n is the lowest number that applies
pub record Lowest (cs : List Check) (n : ℕ) : Type 0 where
  pub applies : refuses n cs ≡ true
  pub none-lower : (m : ℕ) → m < n → refuses m cs ≡ false
