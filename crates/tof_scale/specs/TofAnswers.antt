-- What each answer of the scale's entries must say: document 01's number, and the values where none applies.
use Rattle.std.specs.Prelude.{true, cond, not, ◌&&◌, List, [], ◌∷◌, ℕ, ◌+◌, Option, Some, None, leb, ltb, length, Float}
use Rattle.refusal.specs.Refusal.{Check, first_of}
use Rattle.refusal.specs.Answers.{Says, answer_by}
use Rattle.limits.specs.Limits.{max_points, max_tof, max_tof_bound, max_bin_place}
use Rattle.numeric.specs.Arith.{index_f}
use Rattle.numeric.specs.Numeric.{in_range}
use Rattle.row_params.specs.Params.{all_up_to}
use Rattle.tof_scale.specs.declared.TofScale.{TofScale}
use Rattle.tof_scale.specs.declared.inner.Span.{Span}
use Rattle.tof_scale.specs.Tof.{edge, in_scale, bin_of, window_bins, center_f, center_at_f, sound_step, scale_number, lowest_tof, highest_tof, scale_of}

-- ---- building

abbrev pub build_checks : List ℕ → ℕ → List Check
build_checks tofs step =
    record { number = 2; applies = ltb max_points (length tofs) }
    ∷ record { number = 4; applies = not (sound_step step) }
    ∷ record { number = 5; applies = not (all_up_to max_tof tofs) }
    ∷ []

unfoldable pub build_number : List ℕ → ℕ → ℕ
build_number tofs step = first_of (build_checks tofs step)

-- no value, or one distinct value, gives no scale
abbrev pub scale_from : List ℕ → ℕ → Option TofScale
scale_from tofs step =
    cond (ltb (lowest_tof tofs) (highest_tof tofs)) (Some (scale_of (lowest_tof tofs) (highest_tof tofs) step)) None

unfoldable pub build_answer : List ℕ → ℕ → Says (Option TofScale)
build_answer tofs step = answer_by (build_number tofs step) (scale_from tofs step)

-- ---- looking up

-- a bin, or none
unfoldable pub bin_answer : TofScale → ℕ → Says (Option ℕ)
bin_answer s t = answer_by (scale_number s true (leb t max_tof)) (cond (in_scale s t) (Some (bin_of s t)) None)

-- the first and the last bin; a window may go up to what a peak's TOF bounds may be
unfoldable pub range_answer : TofScale → ℕ → ℕ → Says Span
range_answer s a b = answer_by (scale_number s true (leb a max_tof_bound && leb b max_tof_bound)) (window_bins s a b)

-- ---- centres and bounds

-- the centre of a bin
unfoldable pub center_answer : TofScale → ℕ → Says Float
center_answer s i = answer_by (scale_number s (ltb i s.num_bins) true) (center_f s i)

-- a place from 0 to 4,194,304, with a clear sign
unfoldable pub center_at_answer : TofScale → Float → Says Float
center_at_answer s mu = answer_by (scale_number s (in_range max_bin_place mu) true) (center_at_f s mu)

-- the lower and the upper edge
unfoldable pub bounds_answer : TofScale → ℕ → Says (Float × Float)
bounds_answer s i = answer_by (scale_number s (ltb i s.num_bins) true) (index_f (edge s i), index_f (edge s (i + 1)))
