-- Edges and centres of a sound scale are exact: no rounding takes place.
use Rattle.std.specs.Prelude.{ℕ, ◌+◌, ◌≤◌, ◌<◌, false}
use Rattle.std.specs.Float.Ieee.Exact.{HasValue}
use Rattle.limits.specs.Limits.{max_tof_bound}
use Rattle.numeric.specs.Arith.{index_f}
use Rattle.tof_scale.specs.declared.TofScale.{TofScale}
use Rattle.tof_scale.specs.Tof.{Sound, edge, center_f}

-- a number that is no higher than an edge may be, as a float, has its own value: `edge-value` in proofs/Exact.antt
abbrev pub EdgeExact : Type 0
EdgeExact = (n : ℕ) → n ≤ max_tof_bound → HasValue (index_f n) false n 1

-- the centre of a bin is half the sum of its edges: `center-exact`
abbrev pub CenterExact : Type 0
CenterExact = (s : TofScale) → Sound s → (i : ℕ) → i < s.num_bins → HasValue (center_f s i) false (edge s i + edge s (i + 1)) 2
