-- The lows beside the apexes of a row that is given by its turns alone: a valley, an apex, a valley, and so on. `mark j` is the bit
-- pattern of the reading at the turn j: valleys at even j, apexes at odd j; m is the count of apexes.
use Rattle.std.specs.Prelude.{◌≡◌, cond, List, ℕ, zero, suc, ◌+◌, ◌-◌, ◌*◌, ◌<◌, min, max, ltb, get_or, Float}
use Rattle.numeric.specs.Plain.{word_in}
use Rattle.row_turns.specs.Turns.{turn}

-- The lower of `low` and the valleys left of the apexes k - 1, k - 2, .., as far as the first apex above the height h.
unfoldable pub left_low : (ℕ → ℕ) → ℕ → ℕ → ℕ → ℕ
left_low mark h low zero = low
left_low mark h low (suc j) = cond (ltb h (mark (2 * j + 1))) low (left_low mark h (min (mark (2 * j)) low) j)

-- The lower of `low` and the valleys right of the apexes j, j + 1, .., as far as the first one above the height h; d apexes are left.
unfoldable pub right_low : (ℕ → ℕ) → ℕ → ℕ → ℕ → ℕ → ℕ
right_low mark h low zero j = low
right_low mark h low (suc d) j = cond (ltb h (mark (2 * j + 1))) low (right_low mark h (min (mark (2 * j + 2)) low) d (j + 1))

-- the lows of the apex k on its left and on its right
abbrev pub left_low_of : (ℕ → ℕ) → ℕ → ℕ
left_low_of mark k = left_low mark (mark (2 * k + 1)) (mark (2 * k)) k

abbrev pub right_low_of : (ℕ → ℕ) → ℕ → ℕ → ℕ
right_low_of mark m k = right_low mark (mark (2 * k + 1)) (mark (2 * k + 2)) (m - (k + 1)) (k + 1)

-- the higher of the two
unfoldable pub base_at : (ℕ → ℕ) → ℕ → ℕ → ℕ
base_at mark m k = max (left_low_of mark k) (right_low_of mark m k)

-- the pattern of the reading at the turn j
abbrev pub mark_at : List Float → List ℕ → ℕ → ℕ
mark_at y turns j = word_in y (turn turns j)

-- the first m bases are those of the apexes
abbrev pub Based : (ℕ → ℕ) → ℕ → List ℕ → Type 0
Based mark m bases = (k : ℕ) → k < m → get_or bases k 0 ≡ base_at mark m k
