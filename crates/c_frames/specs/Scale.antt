-- A scale that is handed over as four numbers.
use Rattle.std.specs.Prelude.{ℕ}
use Rattle.tof_scale.specs.declared.TofScale.{TofScale}

abbrev pub scale_of : ℕ → ℕ → ℕ → ℕ → TofScale
scale_of least most step bins = record { tof_min = least; tof_max = most; tof_step = step; num_bins = bins }
