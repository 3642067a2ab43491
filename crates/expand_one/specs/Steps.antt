-- What expanding a mobility peak asks.
use Rattle.std.specs.Prelude.{◌≡◌, true, List, ℕ, ◌+◌, ◌*◌, ◌≤◌, max, length, Float}
use Rattle.limits.specs.Limits.{exact_index, max_count, max_points, identities}
use Rattle.numeric.specs.Numeric.{all_in_range}
use Rattle.row_smoothing.specs.Smoothing.{sound_weights}
use Rattle.row_params.specs.Params.{most_peaks, rising}
use Rattle.row_record.specs.declared.ImPeak1D.{ImPeak1D}
use Rattle.tof_scale.specs.Tof.{Sound}
use Rattle.frames_index.specs.FrameIndex.{points, Checked}
use Rattle.rt_params.specs.declared.RtExpandParams.{RtExpandParams}
use Rattle.rt_record.specs.RtRecord.{rt_size}
use Rattle.expand_peak.specs.Expanded.{Run}

-- the peaks that a mobility peak can have over n frames: those of a search, and the fallback's at least
abbrev pub most : ℕ → ℕ
most n = max 1 (most_peaks n)

-- the highest pattern of a reading that is summed here: 2^58
abbrev pub max_summed : ℕ
max_summed = 0x5c80_0000

-- A run that a mobility peak can be followed over, with these parameters.
pub record Followed (run : Run) (e : RtExpandParams) : Type 0 where
  pub index : Checked run.index
  pub few-points : points run.index ≤ max_points
  pub readings : all_in_range max_summed run.index.readings ≡ true
  pub scale : Sound run.scale
  pub pad : e.bin_pad ≤ max_count
  pub frames : length run.index.starts ≡ length run.ids + 1
  pub axis : length run.times ≡ length run.ids
  pub short : length run.ids ≤ exact_index
  pub rise : rising run.ids ≡ true

-- A mobility peak that can be expanded over such a run, with weights, a first identity, and `out` words for its retention peaks.
pub record Expandable (run : Run) (ws : List Float) (p : ImPeak1D) (first out : ℕ) : Type 0 where
  pub weights : sound_weights ws ≡ true
  pub numbers : p.frame_id_lo ≤ p.frame_id_hi
  pub named : first + most (length run.ids) ≤ identities
  pub room : most (length run.ids) * rt_size ≤ out
