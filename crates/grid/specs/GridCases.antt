-- Worked cases of the grid's number, by computation; they need not be read to know what is promised.
use Rattle.std.specs.Prelude.{◌≡◌, refl, List, [], ◌∷◌, map, ℕ, ◌-◌, Float}
use Rattle.std.specs.Float.Ieee.{of_int, of_bits, to_bits}
use Rattle.numeric.specs.Arith.{index_f, 𝟎, 𝟏}
use Rattle.numeric.specs.Numeric.{in_range, all_in_range}
use Rattle.refusal.specs.Refusal.{first_of}
use Rattle.row_record.specs.Record.{size}
use Rattle.row_params.specs.Params.{sound_params, sound_bounds, all_up_to, rising, rising_from}
use Rattle.std.specs.Prelude.{None}
use Rattle.row_smoothing.specs.Smoothing.{sound_weights}
use Rattle.tof_scale.specs.Tof.{sound_step, sound_ends, agreeing}
use Rattle.grid_rows.specs.Grid.{Grid}
use Rattle.grid.specs.GridNumber.{grid_number}
use Rattle.grid_rows.specs.Steps.{call_grid}

-- TOF values from 0 on with step 1, so that `bins` rows end at `top`; floor, distances and frames are 0
abbrev grid : ℕ → ℕ → List ℕ → List ℕ → List ℕ → List Float → ℕ → Grid
grid top bins raw smooth scans weights first =
    call_grid (lib.ListN.length scans) (map index_f raw) (map index_f smooth) scans
    (record { tof_min = 0; tof_max = top; tof_step = 1; num_bins = bins })
    (record { rt_lo = 0; rt_hi = 0; frame_id_lo = 0; frame_id_hi = 0; window_group = None })
    []
    (record { min_prom = 𝟎; min_distance_scans = 0; min_width_scans = 0 })
    weights
    first

-- no row: the scale has a bin, or its numbers disagree
no_row : grid_number (grid 0 1 [] [] (7 ∷ []) [] 0) 0 size 1 ≡ 1
unfolding grid_number first_of
no_row = refl

no-bin : grid_number (grid 0 0 [] [] (7 ∷ []) [] 0) 0 size 1 ≡ 22
unfolding grid_number first_of all_in_range in_range sound_params sound_bounds sound_step sound_ends agreeing all_up_to rising rising_from of_bits to_bits
no-bin = refl

-- no column: accepted with any first identity
no-column : grid_number (grid 1 2 [] [] [] [] 4294967295) 2 0 0 ≡ 0
unfolding grid_number first_of all_in_range in_range sound_params sound_bounds sound_step sound_ends agreeing all_up_to rising rising_from of_bits to_bits
no-column = refl

-- where raw readings are present, the smoothed ones may have any length
unused : grid_number (grid 0 1 (0 ∷ 5 ∷ 0 ∷ []) (9 ∷ []) (7 ∷ 8 ∷ 9 ∷ []) [] 4294967295) 1 size 3 ≡ 0
unfolding grid_number first_of all_in_range in_range sound_params sound_bounds sound_step sound_ends agreeing all_up_to rising rising_from of_int of_bits to_bits
unused = refl

-- a scratch as long as a row is asked for without weights too, and after the room for the list
no-scratch : grid_number (grid 0 1 [] (0 ∷ 5 ∷ 0 ∷ []) (7 ∷ 8 ∷ 9 ∷ []) [] 0) 1 size 2 ≡ 21
unfolding grid_number first_of all_in_range in_range sound_params sound_bounds sound_step sound_ends agreeing all_up_to rising rising_from of_int of_bits to_bits
no-scratch = refl

-- the same with weights; and one of exactly a row is enough
no-scratch-weighed : grid_number (grid 0 1 [] (0 ∷ 5 ∷ 0 ∷ []) (7 ∷ 8 ∷ 9 ∷ []) (𝟏 ∷ []) 0) 1 size 2 ≡ 21
unfolding grid_number first_of all_in_range in_range sound_params sound_bounds sound_step sound_ends agreeing all_up_to rising rising_from sound_weights of_int of_bits to_bits
no-scratch-weighed = refl

one-row : grid_number (grid 0 1 [] (0 ∷ 5 ∷ 0 ∷ []) (7 ∷ 8 ∷ 9 ∷ []) (𝟏 ∷ []) 0) 1 size 3 ≡ 0
unfolding grid_number first_of all_in_range in_range sound_params sound_bounds sound_step sound_ends agreeing all_up_to rising rising_from sound_weights of_int of_bits to_bits
one-row = refl

no_room : grid_number (grid 0 1 [] (0 ∷ 5 ∷ 0 ∷ []) (7 ∷ 8 ∷ 9 ∷ []) [] 0) 1 (size - 1) 2 ≡ 20
unfolding grid_number first_of all_in_range in_range sound_params sound_bounds sound_step sound_ends agreeing all_up_to rising rising_from of_int of_bits to_bits
no_room = refl

-- weights are checked where a row is too short to be smoothed
short_row : grid_number (grid 0 1 [] (5 ∷ []) (7 ∷ []) (𝟏 ∷ 𝟏 ∷ []) 0) 1 0 1 ≡ 6
unfolding grid_number first_of all_in_range in_range sound_params sound_bounds sound_step sound_ends agreeing all_up_to rising rising_from sound_weights of_int of_bits to_bits
short_row = refl
