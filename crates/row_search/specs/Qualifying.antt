-- Which apexes of one TOF row qualify, and which of them are kept: y is the smoothed row, z the raw one, both over the same scans.
use Rattle.std.specs.Prelude.{Bool, cond, not, ◌&&◌, List, [], ◌∷◌, ℕ, leb, Float}
use Rattle.std.specs.Float.Ieee.{lt}
use Rattle.numeric.specs.Arith.{𝟎}
use Rattle.row_apex.specs.Apex.{candidates, prominence, half_height, left_crossing, right_crossing}
use Rattle.row_spans.specs.Span.{width_of}
use Rattle.row_params.specs.declared.ImDetectParams.{ImDetectParams}
use Rattle.row_search.specs.Suppression.{keep_all}

-- ---- qualifying apexes

-- the highest of a reading and further ones
unfoldable pub highest_reading : Float → List Float → Float
highest_reading m [] = m
highest_reading m (v ∷ vs) = highest_reading (cond (lt m v) v m) vs

-- a value that is not below the floor
abbrev pub reaches : Float → Float → Bool
reaches floor x = not (lt x floor)

-- where the row crosses the apex's half height, in samples, and the width between, rounded
unfoldable pub left_x : List Float → ℕ → Float
left_x y i = left_crossing y (half_height y i) i

unfoldable pub right_x : List Float → ℕ → Float
right_x y i = right_crossing y (half_height y i) i

unfoldable pub width : List Float → ℕ → ℕ
width y i = width_of (left_x y i) (right_x y i)

-- A candidate qualifies (document 01, "a qualifying apex") by its prominence and its width, ..
unfoldable pub qualifies : ImDetectParams → List Float → ℕ → Bool
qualifies p y i = reaches p.min_prom (prominence y i) && leb p.min_width_scans (width y i)

-- .. in a row whose raw maximum reaches the floor
unfoldable pub that_qualify : ImDetectParams → List Float → List ℕ → List ℕ
that_qualify p y [] = []
that_qualify p y (i ∷ is) = cond (qualifies p y i) (i ∷ that_qualify p y is) (that_qualify p y is)

unfoldable pub qualifying : ImDetectParams → List Float → List Float → List ℕ
qualifying p y z = cond (reaches p.min_prom (highest_reading 𝟎 z)) (that_qualify p y (candidates y)) []

-- ---- kept apexes

-- the apexes that are kept, and so are listed, the newest first
unfoldable pub kept : ImDetectParams → List Float → List Float → List ℕ
kept p y z = keep_all p.min_distance_scans y [] (qualifying p y z)
