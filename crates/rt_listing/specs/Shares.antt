-- The least shares of an apex's raw area: of the area of its trace, and of the largest area of those that are chosen.
use Rattle.std.specs.Prelude.{Bool, ◌&&◌, List, [], ◌∷◌, ℕ, ◌-◌, length, Float}
use Rattle.std.specs.Float.{binary32}
use Rattle.std.specs.Float.Ieee.{le, of_bits}
use Rattle.numeric.specs.Arith.{◌⊘◌, 𝟎}
use Rattle.numeric.specs.Numeric.{max_f}
use Rattle.row_area.specs.Area.{whole}

-- the raw area of the trace: all its segments, the last one too
unfoldable pub total_area : List Float → Float
total_area z = whole z (length z - 1) 0 𝟎

-- the largest of a value and the areas of some apexes
unfoldable pub largest : (ℕ → Float) → Float → List ℕ → Float
largest area m [] = m
largest area m (i ∷ is) = largest area (max_f m (area i)) is

-- no area is divided by less than 1e-6
abbrev pub least_area : Float
least_area = of_bits binary32 0x3586_37bd

-- the least shares: 0.02 of the trace, and 0.05 of the best apex
abbrev pub least_of_trace : Float
least_of_trace = of_bits binary32 0x3ca3_d70a

abbrev pub least_of_best : Float
least_of_best = of_bits binary32 0x3d4c_cccd

-- the two areas that an apex is compared with: that of the trace, and the largest of the chosen apexes cs
unfoldable pub trace_area : List Float → Float
trace_area z = max_f (total_area z) least_area

unfoldable pub best_area : (ℕ → Float) → List ℕ → Float
best_area area cs = max_f (largest area 𝟎 cs) least_area

-- an area that meets both shares
unfoldable pub meets_shares : Float → Float → Float → Bool
meets_shares trace best area = le least_of_trace (area ⊘ trace) && le least_of_best (area ⊘ best)
