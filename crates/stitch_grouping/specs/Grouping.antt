-- One pass of stitching over a list of peaks: the peaks are sorted, cut into groups in their order, and each group is merged into one
-- peak. A group is the list of its members' places, in their order.
use Rattle.std.specs.Prelude.{Bool, true, false, cond, ◌&&◌, ◌||◌, List, [], ◌∷◌, map, reverse, ℕ, suc, eqb, length, None}
use Rattle.row_record.specs.declared.ImPeak1D.{ImPeak1D}
use Rattle.stitch_peaks.specs.PeakList.{nth}
use Rattle.sort_digits.specs.Sorted.{sorted_by, up_to}
use Rattle.stitch_matching.specs.declared.StitchParams.{StitchParams}
use Rattle.stitch_matching.specs.Group.{may_join}
use Rattle.stitch_keys.specs.declared.KeyRule.{KeyRule}
use Rattle.stitch_keys.specs.declared.KeyRule.TheVariants.{First, Second, Identity}
use Rattle.stitch_keys.specs.declared.inner.Bucket.{Bucket}
use Rattle.stitch_keys.specs.Keys.{bucket_of, is_same_bucket, key_of}
use Rattle.stitch_merging.specs.Merging.{merged}

-- the peaks at places of a list
abbrev pub peaks_at : List ImPeak1D → List ℕ → List ImPeak1D
peaks_at ps g = map (nth ps) g

-- ---- groups

-- the bucket of a peak, out of which no group reaches: only the first pass has more than one
unfoldable pub bucket_by : KeyRule → ImPeak1D → Bucket
bucket_by (First params) p = bucket_of params p
bucket_by Second p = record { group = None; scans = 0; rows = 0 }
bucket_by Identity p = record { group = None; scans = 0; rows = 0 }

-- Whether a peak may join an open group, whose peaks stand newest first: within a bucket, as the tests say. A group without members
-- takes in any peak.
unfoldable pub follows : KeyRule → StitchParams → List ImPeak1D → ImPeak1D → Bool
follows rule params [] p = true
follows rule params (last ∷ qs) p = is_same_bucket (bucket_by rule last) (bucket_by rule p) && may_join params (last ∷ qs) p

-- the groups of an open one, whose places stand newest first, and of the places that are left
unfoldable pub groups_from : KeyRule → StitchParams → List ImPeak1D → List ℕ → List ℕ → List (List ℕ)
groups_from rule params ps g [] = reverse g ∷ []
groups_from rule params ps g (q ∷ qs) =
    cond (follows rule params (peaks_at ps g) (nth ps q))
    (groups_from rule params ps (q ∷ g) qs)
    (reverse g ∷ groups_from rule params ps (q ∷ []) qs)

-- the groups of places, from the first on
unfoldable pub groups : KeyRule → StitchParams → List ImPeak1D → List ℕ → List (List ℕ)
groups rule params ps [] = []
groups rule params ps (q ∷ qs) = groups_from rule params ps (q ∷ []) qs

-- the peaks into which groups are merged
unfoldable pub group_peaks : List ImPeak1D → List (List ℕ) → List ImPeak1D
group_peaks ps gs = map (λ g. merged (peaks_at ps g)) gs

-- ---- a pass

-- the places of the peaks, in the order of their keys
abbrev pub pass_order : KeyRule → List ImPeak1D → List ℕ
pass_order rule ps = sorted_by (λ k. key_of rule (nth ps k)) (up_to (length ps))

-- the groups of all peaks, which are taken in that order
unfoldable pub pass_groups : KeyRule → StitchParams → List ImPeak1D → List (List ℕ)
pass_groups rule params ps = groups rule params ps (pass_order rule ps)

-- and what they are merged into
abbrev pub pass_peaks : KeyRule → StitchParams → List ImPeak1D → List ImPeak1D
pass_peaks rule params ps = group_peaks ps (pass_groups rule params ps)

-- ---- which group has a place

-- whether a group has a place
unfoldable pub has : List ℕ → ℕ → Bool
has [] p = false
has (q ∷ g) p = eqb p q || has g p

-- the number of the group that has a place, counted from 0
unfoldable pub number_in : List (List ℕ) → ℕ → ℕ
number_in [] p = 0
number_in (g ∷ gs) p = cond (has g p) 0 (suc (number_in gs p))
