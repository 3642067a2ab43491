-- The centre that a row's records bear.
use Rattle.std.specs.Prelude.{◌≡◌, ℕ, ◌<◌}
use Rattle.numeric.specs.Numeric.{cast_f}
use Rattle.rounding.specs.Rounding.{round_f}
use Rattle.tof_scale.specs.declared.TofScale.{TofScale}
use Rattle.tof_scale.specs.Tof.{Sound, center_f, row_place}

-- The whole centre of a row, a formula over whole numbers, is the float centre of its bin, rounded and made a whole number as the Rust does:
-- `center-is-rusts` in proofs/GridCenter.antt
abbrev pub CenterIsRusts : Type 0
CenterIsRusts = (s : TofScale) → Sound s → (i : ℕ) → i < s.num_bins → (row_place s i).tof_center ≡ cast_f (round_f (center_f s i))
