-- Apexes that lie close in time.
use Rattle.std.specs.Prelude.{Bool, List, ℕ, get_or, Float}
use Rattle.std.specs.Float.{binary32}
use Rattle.std.specs.Float.Ieee.{lt, of_bits}
use Rattle.numeric.specs.Arith.{◌⊖◌}
use Rattle.numeric.specs.Numeric.{abs_f}

-- the times of two apexes differ, by their difference as a float, by less than the least separation
abbrev pub near_in_time : (ℕ → Float) → Float → ℕ → ℕ → Bool
near_in_time time sep i j = lt (abs_f (time i ⊖ time j)) sep

-- the time at a place of a table of patterns
abbrev pub time_of : List ℕ → ℕ → Float
time_of times p = of_bits binary32 (get_or times p 0)
