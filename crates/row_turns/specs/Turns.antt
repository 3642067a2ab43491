-- Where a row turns. Readings are numbers with a clear sign, so that they compare as their bit patterns do.
use Rattle.std.specs.Prelude.{◌≡◌, List, [], ◌∷◌, ◌++◌, ℕ, zero, suc, ◌+◌, ◌-◌, ◌*◌, ◌≤◌, ◌<◌, length, get_or, Float}
use Rattle.numeric.specs.Plain.{word_in}
use Rattle.row_apex.specs.Apex.{candidates}

-- from a to b each reading is above the one before; none is
abbrev pub Rises : List Float → ℕ → ℕ → Type 0
Rises y a b = (i : ℕ) → a ≤ i → i < b → word_in y i < word_in y (i + 1)

abbrev pub Falls : List Float → ℕ → ℕ → Type 0
Falls y a b = (i : ℕ) → a ≤ i → i < b → word_in y (i + 1) ≤ word_in y i

-- the place at j of a list of places
abbrev pub turn : List ℕ → ℕ → ℕ
turn turns j = get_or turns j 0

-- A row with m apexes: it falls to the valley at place 0, rises to the apex at place 1, falls to the valley at place 2, and so on; behind
-- the last valley it rises.
pub record Turning (y : List Float) (turns : List ℕ) (m : ℕ) : Type 0 where
  pub room : 2 * m < length turns
  pub first : Falls y 0 (turn turns 0)
  pub climbs : (k : ℕ) → k < m → turn turns (2 * k) < turn turns (2 * k + 1)
  pub up : (k : ℕ) → k < m → Rises y (turn turns (2 * k)) (turn turns (2 * k + 1))
  pub drops : (k : ℕ) → k < m → turn turns (2 * k + 1) < turn turns (2 * k + 2)
  pub down : (k : ℕ) → k < m → Falls y (turn turns (2 * k + 1)) (turn turns (2 * k + 2))
  pub inside : turn turns (2 * m) < length y
  pub last : Rises y (turn turns (2 * m)) (length y - 1)

-- the apexes at the odd places, m of them
unfoldable pub apexes_of : List ℕ → ℕ → List ℕ
apexes_of turns zero = []
apexes_of turns (suc k) = apexes_of turns k ++ (turn turns (2 * k + 1) ∷ [])

-- they are the candidates
pub record Turned (y : List Float) (turns : List ℕ) (m : ℕ) : Type 0 where
  pub are : candidates y ≡ apexes_of turns m
  pub shape : 0 < m → Turning y turns m
