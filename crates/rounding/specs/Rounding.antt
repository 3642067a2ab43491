-- Rust's `f32` methods `floor`, `ceil` and `round`, for every value.
use Rattle.std.specs.Prelude.{Bool, cond, ℕ, ◌+◌, ◌-◌, ◌*◌, ◌/◌, Float}
use Rattle.std.specs.Float.{nan, inf, fin, binary32}
use Rattle.std.specs.Float.Ieee.{round, up, down}

-- the whole numbers next to the fraction a / d: at most it, at least it, and nearest to it with a half going up
abbrev pub below : ℕ → ℕ → ℕ
below a d = a / d

abbrev pub above : ℕ → ℕ → ℕ
above a d = (a + (d - 1)) / d

abbrev pub nearby : ℕ → ℕ → ℕ
nearby a d = (a + a + d) / (d * 2)

-- A float made whole: its magnitude by the rule for its sign. The sign stays, of a zero too.
abbrev pub whole_by : (Bool → ℕ → ℕ → ℕ) → Float → Float
whole_by rule nan = nan
whole_by rule (inf s) = inf s
whole_by rule (fin s m e) = round binary32 s (rule s (m * up e) (down e)) 1

unfoldable pub floor_f : Float → Float
floor_f x = whole_by (λ negative. cond negative above below) x

unfoldable pub ceil_f : Float → Float
ceil_f x = whole_by (λ negative. cond negative below above) x

-- half away from zero
unfoldable pub round_f : Float → Float
round_f x = whole_by (λ negative. nearby) x
