-- What the walk over a group keeps of the peaks so far.
use Rattle.std.specs.Prelude.{◌≡◌, true, List}
use Rattle.std.specs.Bool.{then_some}
use Rattle.numeric.specs.Arith.{index_f}
use Rattle.row_record.specs.Record.{has_sigma}
use Rattle.row_record.specs.declared.ImPeak1D.{ImPeak1D}
use Rattle.stitch_merging.specs.declared.inner.Sums.{Sums}
use Rattle.stitch_merging.specs.declared.inner.Bounds.{Bounds}
use Rattle.stitch_merging.specs.declared.inner.Heights.{Heights}
use Rattle.stitch_merging.specs.declared.inner.SigmaSums.{SigmaSums}
use Rattle.stitch_merging.specs.declared.inner.Merging.{Merging}
use Rattle.stitch_peaks.specs.Extremes.{lowest_of, highest_of, is_any}
use Rattle.stitch_merging.specs.Merging.{highest_f, summed, total_weight, weighted_sum, having, group_word, one_group, any_mobility, first_mobility}

unfoldable pub sums_of : List ImPeak1D → Sums
sums_of ps = record {
  weight = total_weight ps;
  area = summed (λ p. p.area_raw) ps;
  tof_row = weighted_sum (λ p. index_f p.tof_row) ps;
  tof_center = weighted_sum (λ p. index_f p.tof_center) ps;
  scan = weighted_sum (λ p. index_f p.scan) ps;
  scan_abs = weighted_sum (λ p. index_f p.scan_abs) ps;
  subscan = weighted_sum (λ p. p.subscan) ps;
}

unfoldable pub bounds_of : List ImPeak1D → Bounds
bounds_of ps = record {
  tof_lo = lowest_of (λ p. p.tof_lo) ps;
  tof_hi = highest_of (λ p. p.tof_hi) ps;
  rt_lo = lowest_of (λ p. p.rt_lo) ps;
  rt_hi = highest_of (λ p. p.rt_hi) ps;
  frame_id_lo = lowest_of (λ p. p.frame_id_lo) ps;
  frame_id_hi = highest_of (λ p. p.frame_id_hi) ps;
  left = lowest_of (λ p. p.left) ps;
  right = highest_of (λ p. p.right) ps;
  left_abs = lowest_of (λ p. p.left_abs) ps;
  right_abs = highest_of (λ p. p.right_abs) ps;
}

unfoldable pub heights_of : List ImPeak1D → Heights
heights_of ps = record {
  smoothed = highest_f (λ p. p.apex_smoothed) ps;
  raw = highest_f (λ p. p.apex_raw) ps;
  prominence = highest_f (λ p. p.prominence) ps;
}

unfoldable pub sigma_of : List ImPeak1D → SigmaSums
sigma_of ps = record {
  weight = total_weight (having has_sigma ps);
  sigma = weighted_sum (λ p. p.scan_sigma) (having has_sigma ps);
}

unfoldable pub state_of : List ImPeak1D → Merging
state_of ps = record {
  sums = sums_of ps;
  bounds = bounds_of ps;
  heights = heights_of ps;
  sigma = sigma_of ps;
  mobility = then_some (any_mobility ps) (first_mobility ps);
  group = then_some (one_group ps) (group_word ps);
  id = lowest_of (λ p. p.id) ps;
}

-- the walk has come over these peaks, of which there is one at least
pub record Holds (m : Merging) (ps : List ImPeak1D) : Type 0 where
  pub some : is_any ps ≡ true
  pub state : m ≡ state_of ps
