-- Which number of document 01 a grid is answered with, 0 for none.
use Rattle.std.specs.Prelude.{not, ◌&&◌, ◌||◌, List, [], ◌∷◌, ℕ, ◌*◌, ltb, eqb, length, Float}
use Rattle.refusal.specs.Refusal.{Check, first_of}
use Rattle.limits.specs.Limits.{max_reading, max_mobility, max_scan, max_rows, max_samples}
use Rattle.numeric.specs.Numeric.{all_in_range}
use Rattle.row_record.specs.Record.{size}
use Rattle.row_params.specs.Params.{most_peaks, sound_params, sound_bounds, enough_ids, all_up_to, rising}
use Rattle.row_params.specs.declared.ImDetectParams.{ImDetectParams}
use Rattle.row_params.specs.declared.FrameBounds.{FrameBounds}
use Rattle.row_smoothed.specs.SmoothRow.{sound_or_none}
use Rattle.tof_scale.specs.Tof.{sound_step, sound_ends, agreeing}
use Rattle.tof_scale.specs.declared.TofScale.{TofScale}
use Rattle.grid_rows.specs.Grid.{Grid}
use Rattle.grid.specs.declared.numbers.Seen.{Seen}

-- What reading the lists of a grid shows: how long they are, and whether what they hold is in range. Readings go from 0 to 2^32,
-- mobilities from 0 to 2^20, scans to 65,535.
abbrev pub seen_in : List Float → List ℕ → List Float → List Float → Seen
seen_in used scans mobility weights =
    record {
      readings = length used;
      scans = length scans;
      mobility = length mobility;
      sound_readings = all_in_range max_reading used;
      sound_mobility = all_in_range max_mobility mobility;
      sound_scans = all_up_to max_scan scans;
      rising_scans = rising scans;
      sound_weights = sound_or_none weights;
    }

-- The checks of a grid, the lowest number first. `room` and `scratch` are the lengths of the lent list and of the lent scratch.
abbrev pub checks_of : Seen → ℕ → ℕ → TofScale → FrameBounds → ImDetectParams → ℕ → ℕ → ℕ → List Check
checks_of s rows cols scale bounds p first room scratch =
    let peaks = rows * most_peaks cols in
    record {
      number = 1;
      applies =
          not (eqb s.readings (rows * cols) && eqb s.scans cols && (eqb s.mobility 0 || eqb s.mobility cols) && eqb rows scale.num_bins);
    }
    ∷ record { number = 2; applies = ltb max_rows rows || ltb max_samples cols }
    ∷ record { number = 3; applies = not s.sound_readings }
    ∷ record {
      number = 4;
      applies =
          not (sound_params p && s.sound_mobility && sound_bounds bounds && sound_step scale.tof_step && enough_ids first peaks);
    }
    ∷ record { number = 5; applies = not (s.sound_scans && sound_ends scale) }
    ∷ record { number = 6; applies = not s.sound_weights }
    ∷ record { number = 7; applies = not s.rising_scans }
    ∷ record { number = 20; applies = ltb room (peaks * size) }
    ∷ record { number = 21; applies = ltb scratch cols }
    ∷ record { number = 22; applies = not (agreeing scale) }
    ∷ []

abbrev pub grid_checks : Grid → ℕ → ℕ → ℕ → List Check
grid_checks g rows room scratch =
    checks_of (seen_in g.used g.scans g.mobility g.weights) rows g.cols g.scale g.bounds g.params g.first room scratch

unfoldable pub grid_number : Grid → ℕ → ℕ → ℕ → ℕ
grid_number g rows room scratch = first_of (grid_checks g rows room scratch)
