-- Worked cases, each by computation; they need not be read to know what is promised.
use Rattle.std.specs.Prelude.{◌≡◌, refl, [], ◌∷◌}
use Rattle.sort_digits.specs.Sorted.{lex_lt, inserted, sorted_by, up_to}
use Rattle.tof_scale.specs.declared.TofScale.{TofScale}
use Rattle.frames_bins.specs.FrameBins.{bin_or_none, point_bins, kept_to, places_of, distinct_to, firsts_to, view_bins, view_offsets, view_scans}

-- bins of four TOF values each from 4 on: 4 to 7, 8 to 11, and of the last one 12 alone
abbrev scale : TofScale
scale = record { tof_min = 4; tof_max = 12; tof_step = 4; num_bins = 3 }

-- of TOF values 9, 5, 13, 8, 12, 3 and 4 two have no bin
pub bins : point_bins scale (9 ∷ 5 ∷ 13 ∷ 8 ∷ 12 ∷ 3 ∷ 4 ∷ []) ≡ 1 ∷ 0 ∷ 4194304 ∷ 1 ∷ 2 ∷ 4194304 ∷ 0 ∷ []
unfolding point_bins bin_or_none
bins = refl

-- points of one bin stay in their order
pub places : places_of (1 ∷ 0 ∷ 4194304 ∷ 1 ∷ 2 ∷ 4194304 ∷ 0 ∷ []) ≡ 1 ∷ 6 ∷ 0 ∷ 3 ∷ 4 ∷ []
unfolding places_of kept_to sorted_by inserted lex_lt up_to
places = refl

pub distinct : view_bins (1 ∷ 0 ∷ 4194304 ∷ 1 ∷ 2 ∷ 4194304 ∷ 0 ∷ []) ≡ 0 ∷ 1 ∷ 2 ∷ []
unfolding view_bins distinct_to places_of kept_to sorted_by inserted lex_lt up_to
distinct = refl

-- with 100 points there already
pub offsets : view_offsets 100 (1 ∷ 0 ∷ 4194304 ∷ 1 ∷ 2 ∷ 4194304 ∷ 0 ∷ []) ≡ 100 ∷ 102 ∷ 104 ∷ 105 ∷ []
unfolding view_offsets firsts_to places_of kept_to sorted_by inserted lex_lt up_to
offsets = refl

-- scans cut to a count of 20
pub scans : view_scans 20 (1 ∷ 0 ∷ 4194304 ∷ 1 ∷ 2 ∷ 4194304 ∷ 0 ∷ []) (10 ∷ 19 ∷ 12 ∷ 20 ∷ 14 ∷ 15 ∷ 65535 ∷ []) ≡ 19 ∷ 19 ∷ 10 ∷ 19 ∷ 14 ∷ []
unfolding view_scans places_of kept_to sorted_by inserted lex_lt up_to
scans = refl
