-- Smoothing of a row by weights that the caller gives as they stand before division by their sum. Every operation is
-- rounded once, in this order.
use Rattle.std.specs.Prelude.{Bool, cond, not, ◌&&◌, List, [], ◌∷◌, ◌++◌, map, ℕ, zero, suc, ◌+◌, ◌-◌, ◌/◌, ◌%◌, leb, ltb, eqb, length, Float}
use Rattle.std.specs.Float.{binary32}
use Rattle.std.specs.Float.Ieee.{lt, to_bits}
use Rattle.limits.specs.Limits.{max_weights, max_weight, max_samples, max_reading}
use Rattle.numeric.specs.Arith.{◌⊕◌, ◌⊗◌, ◌⊘◌, 𝟎, at}
use Rattle.numeric.specs.Numeric.{all_in_range}
use Rattle.refusal.specs.Refusal.{Check, first_of}

-- f 0, f 1, .. f (n - 1)
unfoldable pub tabulate : ℕ → (ℕ → Float) → List Float
tabulate zero f = []
tabulate (suc n) f = tabulate n f ++ (f n ∷ [])

-- ---- weights

-- a, and further weights, added one after another
unfoldable pub sum_from : Float → List Float → Float
sum_from a [] = a
sum_from a (w ∷ ws) = sum_from (a ⊕ w) ws

-- the weights divided by their sum
unfoldable pub normalised : List Float → List Float
normalised ws = map (λ w. w ⊘ sum_from 𝟎 ws) ws

-- weights reach as far to the left of a sample as to the right
abbrev pub radius : List Float → ℕ
radius ws = length ws / 2

-- whether the weight k of a sample i meets a reading: the one at i + k - radius, if the row of n has it
abbrev pub meets : ℕ → ℕ → ℕ → ℕ → Bool
meets n r i k = leb r (i + k) && ltb (i + k - r) n

-- ---- a smoothed sample

-- the first k weights times the readings that they meet, and those weights alone, each summed in ascending order
unfoldable pub weighted : List Float → List Float → ℕ → ℕ → Float
weighted u y i zero = 𝟎
weighted u y i (suc k) =
    let a = weighted u y i k in
    cond (meets (length y) (radius u) i k) (a ⊕ at u k ⊗ at y (i + k - radius u)) a

unfoldable pub met : List Float → ℕ → ℕ → ℕ → Float
met u n i zero = 𝟎
met u n i (suc k) = let a = met u n i k in cond (meets n (radius u) i k) (a ⊕ at u k) a

-- the weighted mean of what the weights meet; at the row's ends by the weights that meet a reading
unfoldable pub smoothed_at : List Float → List Float → ℕ → Float
smoothed_at u y i =
    let norm = met u (length y) i (length u) in cond (lt 𝟎 norm) (weighted u y i (length u) ⊘ norm) 𝟎

unfoldable pub smoothed : List Float → List Float → List Float
smoothed ws y = tabulate (length y) (smoothed_at (normalised ws) y)

-- ---- the entry

-- number 6 asks of weights: an odd count to 257, each from 0 to 1, the middle one 1
unfoldable pub sound_weights : List Float → Bool
sound_weights ws =
    eqb (length ws % 2) 1 && leb (length ws) max_weights && all_in_range max_weight ws
    && eqb (to_bits binary32 (at ws (length ws / 2))) max_weight

-- the checks of a row v, of weights and of the length of the lent scratch, and the number that they give
abbrev pub smooth_checks : List Float → List Float → ℕ → List Check
smooth_checks v ws scratch =
    record { number = 2; applies = ltb max_samples (length v) }
    ∷ record { number = 3; applies = not (all_in_range max_reading v) }
    ∷ record { number = 6; applies = not (sound_weights ws) }
    ∷ record { number = 21; applies = ltb scratch (length v) }
    ∷ []

unfoldable pub smooth_number : List Float → List Float → ℕ → ℕ
smooth_number v ws scratch = first_of (smooth_checks v ws scratch)
