-- Which number of document 01 a row is answered with, 0 for none.
use Rattle.std.specs.Prelude.{Bool, cond, not, ◌&&◌, List, [], ◌∷◌, ◌++◌, ℕ, ◌*◌, leb, ltb, eqb, length, drop, Float}
use Rattle.refusal.specs.Refusal.{Check, first_of}
use Rattle.limits.specs.Limits.{max_height, max_reading, max_mobility, last_row, max_scan, max_samples}
use Rattle.numeric.specs.Numeric.{all_in_range}
use Rattle.row_record.specs.Record.{size}
use Rattle.row_params.specs.Params.{most_peaks, lent_or_empty, sound_params, sound_bounds, sound_tof, enough_ids, all_up_to, rising}
use Rattle.row_params.specs.declared.ImDetectParams.{ImDetectParams}
use Rattle.row_params.specs.declared.RowPlace.{RowPlace}
use Rattle.row_params.specs.declared.FrameBounds.{FrameBounds}
use Rattle.row_search.specs.Qualifying.{kept}
use Rattle.row.specs.Row.{row_words}

-- y is the smoothed row, z the raw one

-- number 1: rows, scan axis and a mobility table of one length
unfoldable pub same_lengths : List Float → List Float → List Float → List ℕ → Bool
same_lengths y z mobility axis = eqb (length z) (length y) && eqb (length axis) (length y) && lent_or_empty (length y) mobility

-- number 3: smoothed readings from 0 to 2^33, raw ones from 0 to 2^32
unfoldable pub sound_readings : List Float → List Float → Bool
sound_readings y z = all_in_range max_height y && all_in_range max_reading z

-- number 4: parameters, mobilities from 0 to 2^20, frames, the row's index and identities, for a row of n samples
unfoldable pub sound_values : ℕ → RowPlace → FrameBounds → List Float → ImDetectParams → ℕ → Bool
sound_values n r f mobility p first =
    sound_params p && all_in_range max_mobility mobility && sound_bounds f && leb r.tof_row last_row && enough_ids first (most_peaks n)

-- number 5: scans to 65,535, and the row's TOF values
unfoldable pub sound_axis : RowPlace → List ℕ → Bool
sound_axis r axis = all_up_to max_scan axis && sound_tof r

-- the checks of a row, and the number that they give; `room` is the length of the lent list
abbrev pub row_checks : List Float → List Float → RowPlace → FrameBounds → List Float → ImDetectParams → List ℕ → ℕ → ℕ → List Check
row_checks y z r f mobility p axis first room =
    let n = length y in
    record { number = 1; applies = not (same_lengths y z mobility axis) }
    ∷ record { number = 2; applies = ltb max_samples n }
    ∷ record { number = 3; applies = not (sound_readings y z) }
    ∷ record { number = 4; applies = not (sound_values n r f mobility p first) }
    ∷ record { number = 5; applies = not (sound_axis r axis) }
    ∷ record { number = 7; applies = not (rising axis) }
    ∷ record { number = 20; applies = ltb room (most_peaks n * size) }
    ∷ []

unfoldable pub row_number : List Float → List Float → RowPlace → FrameBounds → List Float → ImDetectParams → List ℕ → ℕ → ℕ → ℕ
row_number y z r f mobility p axis first room = first_of (row_checks y z r f mobility p axis first room)

-- the lent list afterwards: the words of the peaks at its front, or as it was
abbrev pub row_list : List Float → List Float → RowPlace → FrameBounds → List Float → ImDetectParams → List ℕ → ℕ → List ℕ → List ℕ
row_list y z r f mobility p axis first out =
    cond (eqb (row_number y z r f mobility p axis first (length out)) 0)
    (row_words r f mobility axis y z first (kept p y z) ++ drop (length (kept p y z) * size) out)
    out
