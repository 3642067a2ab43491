-- The weights of one peak or more come to more than 0, so that a mean is divided by their sum.
use Rattle.std.specs.Prelude.{◌≡◌, true, List, Float}
use Rattle.std.specs.Float.Ieee.{lt}
use Rattle.numeric.specs.Arith.{◌⊘◌, 𝟎}
use Rattle.row_record.specs.Record.{has_sigma}
use Rattle.row_record.specs.declared.ImPeak1D.{ImPeak1D}
use Rattle.stitch_peaks.specs.Extremes.{is_any}
use Rattle.stitch_merging.specs.Merging.{total_weight, weighted_sum, mean, having, any_sigma}

-- the weights of one peak or more come to more than 0: `total-above` in proofs/MergingWeights.antt
abbrev pub TotalAbove : Type 0
TotalAbove = (ps : List ImPeak1D) → is_any ps ≡ true → lt 𝟎 (total_weight ps) ≡ true

-- so a mean is the weighted sum divided by the weights: `mean-is`
abbrev pub MeanIs : Type 0
MeanIs = (f : ImPeak1D → Float) (ps : List ImPeak1D) → is_any ps ≡ true → mean f ps ≡ weighted_sum f ps ⊘ total_weight ps

-- and the scan sigma of a merged peak is there exactly where a member has one: `sigma-there`
abbrev pub SigmaThere : Type 0
SigmaThere = (ps : List ImPeak1D) → any_sigma ps ≡ is_any (having has_sigma ps)
