-- How the C entries of `test_probe` answer with plain numbers.
use Rattle.std.specs.Prelude.{Bool, true, false, cond, List, ℕ, ◌-◌, ◌*◌, ◌/◌, ltb, eqb, length, Float}
use Rattle.std.specs.Float.{binary32}
use Rattle.std.specs.Float.Ieee.{to_bits}
use Rattle.limits.specs.Limits.{exact_index}
use Rattle.numeric.specs.Arith.{𝟎}
use Rattle.row_apex.specs.Apex.{is_candidate, prominence, half_height, left_crossing, right_crossing}
use Rattle.refusal.specs.Answers.{Says}
use Rattle.refusal.specs.AnswersLaws.{from_says}
use Rattle.row_record.specs.Record.{size, peak_at, sound}
use Rattle.row_params.specs.declared.ImDetectParams.{ImDetectParams}
use Rattle.row_params.specs.declared.RowPlace.{RowPlace}
use Rattle.row_params.specs.declared.FrameBounds.{FrameBounds}
use Rattle.std.specs.Prelude.{Option}
use Rattle.std.specs.Prelude.{None, Some}

-- an area's bit pattern, or its number above 32 zero bits
abbrev pub area_word : Says Float → ℕ
area_word s = from_says (λ a. to_bits binary32 a) (λ n. n * 4294967296) s

-- an index with a neighbour on either side, and a candidate
unfoldable pub candidate_at : List Float → ℕ → Bool
candidate_at y i = cond (ltb i (length y)) (cond (eqb i 0) false (cond (ltb (length y - i) 2) false (is_candidate y i))) false

-- prominence and the crossings of the half height by number, and 0 past the row
abbrev pub apex_f : ℕ → List Float → ℕ → Float
apex_f n y i =
    cond (ltb i (length y))
    (cond (ltb exact_index (length y)) 𝟎
    (cond (eqb n 19) (prominence y i)
    (cond (eqb n 20) (left_crossing y (half_height y i) i) (right_crossing y (half_height y i) i))))
    𝟎

-- a place of a list of records
abbrev pub has_place : List ℕ → ℕ → Bool
has_place l k = ltb k (length l / size)

unfoldable pub sound_word : List ℕ → ℕ → ℕ
sound_word l k = cond (has_place l k) (cond (sound (peak_at l k)) 1 0) 2

abbrev pub group_of : Bool → ℕ → Option ℕ
group_of true g = Some g
group_of false g = None

abbrev pub place_of : ℕ → ℕ → ℕ → ℕ → RowPlace
place_of row center lo hi = record { tof_row = row; tof_center = center; tof_lo = lo; tof_hi = hi }

abbrev pub bounds_of : ℕ → ℕ → ℕ → ℕ → Option ℕ → FrameBounds
bounds_of lo hi id-lo id-hi g =
    record { rt_lo = lo; rt_hi = hi; frame_id_lo = id-lo; frame_id_hi = id-hi; window_group = g }

abbrev pub params_of : Float → ℕ → ℕ → ImDetectParams
params_of floor d w = record { min_prom = floor; min_distance_scans = d; min_width_scans = w }
