-- The half height of an apex lies between its baseline and the apex, and the places where the row crosses it enclose the apex, within
-- the row. Proved in proofs/Enclosed.antt.
use Rattle.std.specs.Prelude.{◌≡◌, true, List, ℕ, ◌-◌, ◌≤◌, ◌<◌, length, Float}
use Rattle.std.specs.Float.Ieee.{le}
use Rattle.limits.specs.Limits.{max_height, max_samples}
use Rattle.numeric.specs.Arith.{𝟎, index_f, at}
use Rattle.numeric.specs.Numeric.{all_in_range}
use Rattle.numeric.specs.Plain.{AllFit}
use Rattle.row_apex.specs.Apex.{baseline, half_height}
use Rattle.row_search.specs.Qualifying.{left_x, right_x}

pub record Enclosed (y : List Float) (i : ℕ) : Type 0 where
  pub above-baseline : le (baseline y i) (half_height y i) ≡ true
  pub below-apex : le (half_height y i) (at y i) ≡ true
  pub from_first : le 𝟎 (left_x y i) ≡ true
  pub left-of-apex : le (left_x y i) (index_f i) ≡ true
  pub right-of-apex : le (index_f i) (right_x y i) ≡ true
  pub to_last : le (right_x y i) (index_f (length y - 1)) ≡ true

-- in a row of at most 16,384 readings from 0 to 2 ^ 33, at every sample. Its floats are binary32 values, as every f32 is.
abbrev pub AllEnclosed : Type 0
AllEnclosed =
    (y : List Float) → AllFit y → all_in_range max_height y ≡ true → length y ≤ max_samples
    → (i : ℕ) → i < length y → Enclosed y i
