-- The twelve proved cases of document 01, (a) to (l), as one table: what is asked, and what the definitions that the contracts cite answer to
-- it. Readings are given as whole numbers, floats in records as bit patterns. `TwelveHold` says that all of them hold; it is computed.
use Rattle.refusal.specs.Numbered.{says}
use Rattle.std.specs.Prelude.{Option, None, Some, Ok, ◌≡◌, List, [], ◌∷◌, ◌++◌, map, ℕ, ◌+◌, ◌*◌, length, Float}
use Rattle.std.specs.Float.{binary32}
use Rattle.std.specs.Float.Ieee.{of_bits}
use Rattle.refusal.specs.Answers.{answer_by}
use Rattle.numeric.specs.Arith.{◌⊗◌, index_f}
use Rattle.row_record.specs.Record.{size}
use Rattle.row_params.specs.Params.{most_peaks}
use Rattle.row_params.specs.declared.ImDetectParams.{ImDetectParams}
use Rattle.row_params.specs.declared.RowPlace.{RowPlace}
use Rattle.row_params.specs.declared.FrameBounds.{FrameBounds}
use Rattle.row_search.specs.Qualifying.{kept}
use Rattle.row.specs.Row.{row_words}
use Rattle.row.specs.RowNumber.{row_number}
use Rattle.sort_digits.specs.Sorted.{up_to}
use Rattle.tof_scale.specs.declared.TofScale.{TofScale}
use Rattle.tof_scale.specs.Tof.{row_place}
use Rattle.tof_scale.specs.TofAnswers.{build_answer, bin_answer}
use Rattle.rt_params.specs.declared.ThresholdMode.{ThresholdMode}
use Rattle.rt_params.specs.declared.ThresholdMode.TheVariants.{Fixed}
use Rattle.rt_params.specs.Modes.{effective_f}
use Rattle.sort_rank.specs.Rank.{distances}
use Rattle.rt_noise.specs.Noise.{middle, to_sigma, noise_f, noise_number}
use Rattle.rt_record.specs.RtRecord.{rt_size}
use Rattle.rt_fallback.specs.FallbackNumber.{fallback_number, with_fallback, fallback_peak}

-- ---- what is asked besides

-- whole numbers as readings
abbrev pub readings : List ℕ → List Float
readings xs = map index_f xs

-- A row is searched as it is, with a floor, a least distance and no least width. It is row 2 of its scale, summed over frames 3 to 5, over the
-- scans 10, 12, 14 and so on; identities run on from 40.
abbrev pub asks : ℕ → ℕ → ImDetectParams
asks floor distance = record { min_prom = index_f floor; min_distance_scans = distance; min_width_scans = 0 }

abbrev pub place : RowPlace
place = record { tof_row = 2; tof_center = 101; tof_lo = 100; tof_hi = 102 }

abbrev pub frames : FrameBounds
frames = record { rt_lo = 3; rt_hi = 5; frame_id_lo = 7; frame_id_hi = 9; window_group = None }

abbrev pub scans : List ℕ → List ℕ
scans xs = map (λ k. 10 + 2 * k) (up_to (length xs))

-- all words of a record of such a row: index, first and last sample, height, prominence, both crossings, width, area, subscan and identity
abbrev pub peak : ℕ → ℕ → ℕ → ℕ → ℕ → ℕ → ℕ → ℕ → ℕ → ℕ → ℕ → List ℕ
peak i l r height prominence left_x right_x width area subscan id =
    2 ∷ 101 ∷ 100 ∷ 102 ∷ 3 ∷ 5 ∷ 7 ∷ 9 ∷ 0 ∷ 0 ∷ i ∷ l ∷ r ∷ (10 + 2 * i) ∷ (10 + 2 * l) ∷ (10 + 2 * r)
    ∷ 0 ∷ 0 ∷ height ∷ height ∷ prominence ∷ left_x ∷ right_x ∷ width ∷ area ∷ subscan ∷ id ∷ []

-- the scale from lo to hi by a step
abbrev pub scale_with : ℕ → ℕ → ℕ → ℕ → TofScale
scale_with lo hi step bins = record { tof_min = lo; tof_max = hi; tof_step = step; num_bins = bins }

-- the words of the mobility peak that the fallback's peak is of, and the numbers and times of its frames; its identity is 99
abbrev pub mobility : List ℕ
mobility =
    11 ∷ 12 ∷ 13 ∷ 14 ∷ 1 ∷ 2 ∷ 15 ∷ 16 ∷ 7 ∷ 3 ∷ 4 ∷ 3 ∷ 5 ∷ 40 ∷ 30 ∷ 50 ∷ 0 ∷ 0 ∷ 0x4120_0000 ∷ 0x4120_0000 ∷ 0x4120_0000 ∷ 0x4040_0000 ∷ 0x40a0_0000 ∷ 2 ∷ 0x4118_0000 ∷ 0 ∷ 17 ∷ []

abbrev pub ids : List ℕ
ids = 5 ∷ 7 ∷ 8 ∷ []

abbrev pub times : List Float
times = readings (1 ∷ 2 ∷ 4 ∷ [])

-- ---- the table

pub data Case : Type 0 where
  -- of a row: floor, least distance, readings; the words of all records of its list
  row : ℕ → ℕ → List ℕ → List ℕ → Case
  -- of TOF values and a step: the scale
  scale : List ℕ → ℕ → TofScale → Case
  -- of a TOF value in a scale: its bin, or none
  bin : TofScale → ℕ → Option ℕ → Case
  -- of a threshold and a noise: the floor
  threshold : ThresholdMode → Float → Float → Case
  -- of a trace and a fraction: the words of the fallback's record
  fallback : List ℕ → Float → List ℕ → Case
  -- of a signal: its middle, and the middle distance from it
  noise : List ℕ → Float → Float → Case
  -- of a bin of a scale: its centre
  centre : TofScale → ℕ → ℕ → Case

abbrev pub table : List Case
table =
    -- (a) a peak at 1, prominence 0, width 0
    row 0 0 (0 ∷ 5 ∷ 5 ∷ []) (peak 1 1 1 0x40a0_0000 0 0x3f80_0000 0x3f80_0000 0 0 0x3f00_0000 40)
    -- (b) only 3
    ∷ row 1 0 (0 ∷ 5 ∷ 5 ∷ 9 ∷ 0 ∷ []) (peak 3 0 4 0x4110_0000 0x4110_0000 0x3f66_6666 0x4060_0000 3 0x417d_999a 0xbe44_ec4f 40)
    -- (c) prominence 1, width 0
    ∷ row 0 0 (8388609 ∷ 8388610 ∷ 8388609 ∷ []) (peak 1 1 1 0x4b00_0002 0x3f80_0000 0x3f80_0000 0x3f80_0000 0 0 0x8000_0000 40)
    -- (d) width 2, area 8388608, which is 0x4b00_0000
    ∷ row 0 0 (8388608 ∷ 8388609 ∷ 8388608 ∷ []) (peak 1 0 2 0x4b00_0001 0x3f80_0000 0 0x4000_0000 2 0x4b00_0000 0x8000_0000 40)
    -- (e) at distance 2 both 1 and 3, at distance 3 only 3
    ∷ row 0 2 (0 ∷ 4 ∷ 0 ∷ 8 ∷ 0 ∷ []) (peak 1 0 2 0x4080_0000 0x4080_0000 0x3f00_0000 0x3fc0_0000 1 0x4040_0000 0x8000_0000 40 ++ peak 3 2 4 0x4100_0000 0x4100_0000 0x4020_0000 0x4060_0000 1 0x40c0_0000 0x8000_0000 41)
    ∷ row 0 3 (0 ∷ 4 ∷ 0 ∷ 8 ∷ 0 ∷ []) (peak 3 2 4 0x4100_0000 0x4100_0000 0x4020_0000 0x4060_0000 1 0x40c0_0000 0x8000_0000 40)
    -- (f) only 5
    ∷ row 0 3 (0 ∷ 4 ∷ 0 ∷ 6 ∷ 0 ∷ 8 ∷ 0 ∷ []) (peak 5 4 6 0x4100_0000 0x4100_0000 0x4090_0000 0x40b0_0000 1 0x40c0_0000 0x8000_0000 40)
    -- (g) of two equal ones only 1
    ∷ row 0 3 (0 ∷ 4 ∷ 0 ∷ 4 ∷ 0 ∷ []) (peak 1 0 2 0x4080_0000 0x4080_0000 0x3f00_0000 0x3fc0_0000 1 0x4040_0000 0x8000_0000 40)
    -- (h) TOF 0 to 10, step 4: three bins, 8 in bin 2, 9 in none
    ∷ scale (3 ∷ 10 ∷ 0 ∷ 7 ∷ []) 4 (scale_with 0 8 4 3)
    ∷ bin (scale_with 0 8 4 3) 8 (Some 2)
    ∷ bin (scale_with 0 8 4 3) 9 None
    -- (i) Fixed(2) at noise 1 and at noise 0
    ∷ threshold (Fixed (index_f 2)) (index_f 1) (index_f 3)
    ∷ threshold (Fixed (index_f 2)) (index_f 0) (index_f 2)
    -- (j) the trace 10 9 8 with the fraction 0.25: right end 7.5, width 8, area 9.5, which are 0x40f0_0000, 8 and 0x4118_0000
    ∷ fallback (10 ∷ 9 ∷ 8 ∷ []) (of_bits binary32 0x3e80_0000)
    (0 ∷ 0x3fc0_0000 ∷ 0x4120_0000 ∷ 0x4120_0000 ∷ 0x4000_0000 ∷ 0 ∷ 0x40f0_0000 ∷ 8 ∷ 0x4118_0000 ∷ 0x3f00_0000
    ∷ 0 ∷ 2 ∷ 5 ∷ 8 ∷ 1 ∷ 3 ∷ 11 ∷ 12 ∷ 13 ∷ 14 ∷ 17 ∷ 99 ∷ [])
    -- (k) middle 4, deviation 3
    ∷ noise (1 ∷ 2 ∷ 4 ∷ 9 ∷ []) (index_f 4) (index_f 3)
    -- (l) a bin from 7, step 1: centre 8
    ∷ centre (scale_with 7 8 1 2) 0 8
    ∷ []

-- ---- the theorem

-- what is asked is accepted, and answered so
abbrev pub Holds : Case → Type 0
Holds (row floor distance xs words) =
    let y = readings xs in
    (row_number y y place frames [] (asks floor distance) (scans xs) 40 (most_peaks (length xs) * size) ≡ 0)
    × (row_words place frames [] (scans xs) y y 40 (kept (asks floor distance) y y) ≡ words)
Holds (scale tofs step s) = build_answer tofs step ≡ says (Ok (Some s))
Holds (bin s tof b) = bin_answer s tof ≡ answer_by 0 b
Holds (threshold mode n floor) = effective_f mode n ≡ floor
Holds (fallback trace fraction words) =
    (fallback_number (readings trace) ids times mobility fraction rt_size ≡ 0)
    × (with_fallback [] (fallback_peak (readings trace) ids times mobility fraction 99) ≡ words)
Holds (noise signal m deviation) =
    let xs = readings signal in
    (middle xs ≡ m) × (middle (distances m xs) ≡ deviation) × (answer_by (noise_number xs) (noise_f xs) ≡ says (Ok (deviation ⊗ to_sigma)))
Holds (centre s i c) = (row_place s i).tof_center ≡ c

abbrev pub AllHold : List Case → Type 0
AllHold [] = Unit {0}
AllHold (c ∷ cs) = Holds c × AllHold cs

-- all twelve: `twelve-hold` in proofs/Twelve.antt
abbrev pub TwelveHold : Type 0
TwelveHold = AllHold table
