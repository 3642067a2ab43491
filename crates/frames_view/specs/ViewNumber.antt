-- Which number of document 01 the points of a frame are answered with, 0 for none.
use Rattle.std.specs.Prelude.{Bool, not, ◌&&◌, ◌||◌, List, [], ◌∷◌, ℕ, ◌+◌, ltb, leb, eqb, length, Float}
use Rattle.refusal.specs.Refusal.{Check}
use Rattle.limits.specs.Limits.{max_tof, max_scan, max_points}
use Rattle.numeric.specs.Numeric.{all_in_range}
use Rattle.row_params.specs.Params.{all_up_to}
use Rattle.tof_scale.specs.Tof.{sound_step, sound_ends, agreeing}
use Rattle.tof_scale.specs.declared.TofScale.{TofScale}
use Rattle.frames_view.specs.declared.numbers.Seen.{Seen}
use Rattle.frames_view.specs.declared.numbers.Room.{Room}

-- What reading the lists of a frame's points shows: how long they are, and whether what they hold is in range, those of points that
-- have no bin too. Readings go from 0 to a limit, TOF values to 4,194,303, scans to 65,535.
abbrev pub seen_in : ℕ → List ℕ → List ℕ → List Float → Seen
seen_in limit tofs scans readings =
    record {
      tofs = length tofs;
      scans = length scans;
      readings = length readings;
      sound_readings = all_in_range limit readings;
      sound_tofs = all_up_to max_tof tofs;
      sound_scans = all_up_to max_scan scans;
    }

-- a lent list is too short for n points, their bins, or the starts of n bins and the end behind them
abbrev pub narrow : ℕ → Room → Bool
narrow n room = ltb room.bins n || ltb room.scans n || ltb room.readings n || leb room.offsets n

-- a scratch is
abbrev pub short : ℕ → Room → Bool
short n room = ltb room.keys n || ltb room.order n || ltb room.spare n

-- The checks of a frame's points, the lowest number first. `count` is the count of scans, `base` how many points the index has already.
abbrev pub checks_of : Seen → ℕ → ℕ → TofScale → Room → List Check
checks_of s count base scale room =
    record { number = 1; applies = not (eqb s.scans s.tofs && eqb s.readings s.tofs) }
    ∷ record { number = 2; applies = ltb max_points (base + s.tofs) }
    ∷ record { number = 3; applies = not s.sound_readings }
    ∷ record { number = 4; applies = not (sound_step scale.tof_step && leb count max_scan) }
    ∷ record { number = 5; applies = not (s.sound_tofs && s.sound_scans && sound_ends scale) }
    ∷ record { number = 20; applies = narrow s.tofs room }
    ∷ record { number = 21; applies = short s.tofs room }
    ∷ record { number = 22; applies = not (agreeing scale) }
    ∷ []
