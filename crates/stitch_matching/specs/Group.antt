-- When a group of peaks may take in another. A group is the list of its members, the newest first.
use Rattle.std.specs.Prelude.{◌≡◌, Bool, true, ◌&&◌, List, [], ◌∷◌, ℕ, ◌-◌}
use Rattle.row_record.specs.declared.ImPeak1D.{ImPeak1D}
use Rattle.stitch_peaks.specs.Extremes.{lowest_of, highest_of}
use Rattle.stitch_matching.specs.declared.StitchParams.{StitchParams}
use Rattle.stitch_matching.specs.declared.inner.Spans.{Spans}
use Rattle.stitch_matching.specs.Matching.{at_most, compatible}

-- how far the members of a group lie apart in rows and in absolute scans, highest minus lowest
unfoldable pub row_span : List ImPeak1D → ℕ
row_span ps = highest_of (λ p. p.tof_row) ps - lowest_of (λ p. p.tof_row) ps

unfoldable pub scan_span : List ImPeak1D → ℕ
scan_span ps = highest_of (λ p. p.scan_abs) ps - lowest_of (λ p. p.scan_abs) ps

-- rows and absolute scans no further apart than the limits, where a limit of 0 is none
unfoldable pub within_limits : StitchParams → ℕ → ℕ → Bool
within_limits params rows_apart scans_apart = at_most params.max_tof_row_delta rows_apart && at_most params.max_scan_delta scans_apart

-- A group may take in p if p is compatible with its newest member, and all members with p lie within the limits. A group
-- without members takes in any peak.
unfoldable pub may_join : StitchParams → List ImPeak1D → ImPeak1D → Bool
may_join params [] p = true
may_join params (last ∷ ps) p =
    let all = p ∷ (last ∷ ps) in compatible params last p && within_limits params (row_span all) (scan_span all)

-- s holds the extremes of the members of a group
pub record Covers (s : Spans) (ps : List ImPeak1D) : Type 0 where
  pub min_row : s.min_row ≡ lowest_of (λ p. p.tof_row) ps
  pub max_row : s.max_row ≡ highest_of (λ p. p.tof_row) ps
  pub min_scan : s.min_scan ≡ lowest_of (λ p. p.scan_abs) ps
  pub max_scan : s.max_scan ≡ highest_of (λ p. p.scan_abs) ps
