-- The merge of a group of mobility peaks into one, over the list of the group's peaks in their order.
use Rattle.std.specs.Prelude.{Bool, true, cond, ◌&&◌, ℕ, ◌+◌, ◌-◌, min, eqb, Float}
use mathlib.Core.List.{List, [], ◌∷◌, foldl}
use Rattle.std.specs.Float.{binary32}
use Rattle.std.specs.Float.Ieee.{lt, of_bits}
use Rattle.numeric.specs.Arith.{◌⊕◌, ◌⊗◌, ◌⊘◌, 𝟎, 𝟏, index_f}
use Rattle.numeric.specs.Numeric.{max_f, cast_f}
use Rattle.rounding.specs.Rounding.{round_f}
use Rattle.row_record.specs.Record.{has_group, has_mobility, has_sigma}
use Rattle.row_record.specs.declared.ImPeak1D.{ImPeak1D}
use Rattle.stitch_peaks.specs.Extremes.{lowest_of, highest_of, is_any}

-- ---- heights

-- the highest value of a float field, from the lowest finite float on
unfoldable pub highest_f : (ImPeak1D → Float) → List ImPeak1D → Float
highest_f f ps = foldl (λ so p. max_f so (f p)) (of_bits binary32 0xff7f_ffff) ps

-- ---- sums and means

-- a sum over the peaks from 0 on, rounded at each of them
unfoldable pub summed : (ImPeak1D → Float) → List ImPeak1D → Float
summed f ps = foldl (λ so p. so ⊕ f p) 𝟎 ps

-- what a peak counts for in a mean: its area, and 1 at least
unfoldable pub weight : ImPeak1D → Float
weight p = max_f p.area_raw 𝟏

abbrev pub total_weight : List ImPeak1D → Float
total_weight ps = summed weight ps

abbrev pub weighted_sum : (ImPeak1D → Float) → List ImPeak1D → Float
weighted_sum f ps = summed (λ p. f p ⊗ weight p) ps

-- The weighted mean. It is divided by 1 where the weights do not come to more than 0; of one peak or more they do (MergingWeights).
abbrev pub mean : (ImPeak1D → Float) → List ImPeak1D → Float
mean f ps = weighted_sum f ps ⊘ cond (lt 𝟎 (total_weight ps)) (total_weight ps) 𝟏

-- the whole number nearest to a float, a half going up, and 0 for a negative one
abbrev pub whole : Float → ℕ
whole x = cast_f (max_f (round_f x) 𝟎)

-- The mean of a whole-number field. It is rounded at each step, so that it may fall outside the members' bounds: a merged row or
-- scan can be one that no member has.
abbrev pub whole_mean : (ImPeak1D → ℕ) → List ImPeak1D → ℕ
whole_mean f ps = whole (mean (λ p. index_f (f p)) ps)

-- ---- fields that may be missing

-- the peaks that have something
unfoldable pub having : (ImPeak1D → Bool) → List ImPeak1D → List ImPeak1D
having has [] = []
having has (p ∷ ps) = cond (has p) (p ∷ having has ps) (having has ps)

-- whether all peaks have something, and the first one's value of a field
unfoldable pub have_all : (ImPeak1D → Bool) → List ImPeak1D → Bool
have_all has [] = true
have_all has (p ∷ ps) = has p && have_all has ps

unfoldable pub first_of : {A : Type 0} → A → (ImPeak1D → A) → List ImPeak1D → A
first_of none f [] = none
first_of none f (p ∷ ps) = f p

-- The window group is the one that all the peaks have, and is missing where they differ or one has none.
abbrev pub of_group : ℕ → ImPeak1D → Bool
of_group g p = has_group p && eqb p.window_group g

abbrev pub group_word : List ImPeak1D → ℕ
group_word ps = first_of 0 (λ p. p.window_group) ps

abbrev pub one_group : List ImPeak1D → Bool
one_group ps = have_all (of_group (group_word ps)) ps

-- the mobility of the first peak that has one
abbrev pub any_mobility : List ImPeak1D → Bool
any_mobility ps = is_any (having has_mobility ps)

abbrev pub first_mobility : List ImPeak1D → Float
first_mobility ps = first_of 𝟎 (λ p. p.mobility) (having has_mobility ps)

-- The scan sigma is the weighted mean over the peaks that have one. It is there where their weights come to more than 0, which is
-- where a peak has one (MergingWeights).
abbrev pub any_sigma : List ImPeak1D → Bool
any_sigma ps = lt 𝟎 (total_weight (having has_sigma ps))

abbrev pub mean_sigma : List ImPeak1D → Float
mean_sigma ps = mean (λ p. p.scan_sigma) (having has_sigma ps)

-- which of the three are there, in the bits of a record's flags
abbrev pub flags_of : Bool → Bool → Bool → ℕ
flags_of group mobility sigma = cond group 1 0 + cond mobility 2 0 + cond sigma 4 0

-- ---- the merged peak

-- the scans from one to another, both counted, held to 2 ^ 32 - 1; 1 where the first is behind the last
abbrev pub width_of : ℕ → ℕ → ℕ
width_of from to = min (to - from + 1) 4294967295

-- The peak into which a group is merged. Its ends in scans are its absolute bounds, and its identity is the least of the members'.
unfoldable pub merged : List ImPeak1D → ImPeak1D
merged ps =
    let from = lowest_of (λ p. p.left_abs) ps in
    let to = highest_of (λ p. p.right_abs) ps in
    record {
      tof_row = whole_mean (λ p. p.tof_row) ps;
      tof_center = whole_mean (λ p. p.tof_center) ps;
      tof_lo = lowest_of (λ p. p.tof_lo) ps;
      tof_hi = highest_of (λ p. p.tof_hi) ps;
      rt_lo = lowest_of (λ p. p.rt_lo) ps;
      rt_hi = highest_of (λ p. p.rt_hi) ps;
      frame_id_lo = lowest_of (λ p. p.frame_id_lo) ps;
      frame_id_hi = highest_of (λ p. p.frame_id_hi) ps;
      flags = flags_of (one_group ps) (any_mobility ps) (any_sigma ps);
      window_group = cond (one_group ps) (group_word ps) 0;
      scan = whole_mean (λ p. p.scan) ps;
      left = lowest_of (λ p. p.left) ps;
      right = highest_of (λ p. p.right) ps;
      scan_abs = whole_mean (λ p. p.scan_abs) ps;
      left_abs = from;
      right_abs = to;
      scan_sigma = cond (any_sigma ps) (mean_sigma ps) 𝟎;
      mobility = first_mobility ps;
      apex_smoothed = highest_f (λ p. p.apex_smoothed) ps;
      apex_raw = highest_f (λ p. p.apex_raw) ps;
      prominence = highest_f (λ p. p.prominence) ps;
      left_x = index_f from;
      right_x = index_f to;
      width_scans = width_of from to;
      area_raw = summed (λ p. p.area_raw) ps;
      subscan = mean (λ p. p.subscan) ps;
      id = lowest_of (λ p. p.id) ps;
    }
