-- The search of a row z that is smoothed where weights are given.
use Rattle.std.specs.Prelude.{◌≡◌, Bool, true, cond, ◌&&◌, ◌||◌, List, [], ◌∷◌, ℕ, ◌≤◌, leb, eqb, length, take, drop, Float, Option, None, Some}
use Rattle.std.specs.Float.Ieee.{eq}
use Rattle.limits.specs.Limits.{exact_index, max_reading}
use Rattle.numeric.specs.Arith.{𝟎}
use Rattle.numeric.specs.Numeric.{all_in_range}
use Rattle.row_params.specs.declared.ImDetectParams.{ImDetectParams}
use Rattle.row_smoothing.specs.Smoothing.{smoothed, sound_weights}
use Rattle.row_search.specs.Qualifying.{kept}
use Rattle.row_search.specs.Found.{Standing}

-- a row is searched as it is where no weights are given or it has at most 2 samples
abbrev pub is_raw : List Float → List Float → Bool
is_raw weights z = eqb (length weights) 0 || leb (length z) 2

-- the row that is searched, else smoothed
unfoldable pub searched : List Float → List Float → List Float
searched weights z = cond (is_raw weights z) z (smoothed weights z)

-- weights that number 6 lets pass: none, or sound ones
abbrev pub sound_or_none : List Float → Bool
sound_or_none weights = eqb (length weights) 0 || sound_weights weights

-- every reading is a zero, of either sign
unfoldable pub all_zero : List Float → Bool
all_zero [] = true
all_zero (x ∷ xs) = eq x 𝟎 && all_zero xs

-- such a row keeps no apex, smoothed or not, so that to skip it changes nothing: `zeros-skip` in proofs/Zeros.antt
abbrev pub NoneOfZeros : Type 0
NoneOfZeros = (p : ImDetectParams) (ws z : List Float) → all_zero z ≡ true → kept p (searched ws z) z ≡ []

-- A row z that is handed in: readings in range, with weights; `scratch` is the length of the list for the smoothed row, and there is room for
-- the search of so many samples.
pub record Handed (z weights : List Float) (scratch samples : ℕ) : Type 0 where
  pub readings : all_in_range max_reading z ≡ true
  pub weighed : sound_or_none weights ≡ true
  pub short : length z ≤ exact_index
  pub long : length z ≤ scratch
  pub room : length z ≤ samples

-- the samples that are searched, where the smoothed row is at the front of y
abbrev pub samples_in : List Float → List Float → List Float → List Float
samples_in weights z y = cond (is_raw weights z) z (take (length z) y)

-- What was sought: no apex is kept; or so many, found in those samples.
abbrev pub Says : ImDetectParams → List Float → List Float → List Float → List ℕ → Option ℕ → Type 0
Says p weights z y found None = kept p (searched weights z) z ≡ []
Says p weights z y found (Some n) =
    let samples = samples_in weights z y in (searched weights z ≡ samples) × Standing samples z found n (kept p samples z)

-- past the row, the list for the smoothed one is as it was
pub record Done (p : ImDetectParams) (weights z y₀ y : List Float) (found : List ℕ) (r : Option ℕ) : Type 0 where
  pub says : Says p weights z y found r
  pub past : drop (length z) y ≡ drop (length z) y₀
