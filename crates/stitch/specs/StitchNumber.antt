-- Which number of document 01 a list to stitch is answered with, 0 for none.
use Rattle.std.specs.Prelude.{Bool, cond, not, ◌&&◌, ◌||◌, List, [], ◌∷◌, ℕ, ◌*◌, ◌/◌, ◌%◌, ltb, eqb, length}
use Rattle.refusal.specs.Refusal.{Check, first_of}
use Rattle.limits.specs.Limits.{max_list}
use Rattle.row_record.specs.Record.{size, all_sound}
use Rattle.row_record.specs.declared.ImPeak1D.{ImPeak1D}
use Rattle.stitch_peaks.specs.PeakList.{peaks_of}
use Rattle.stitch_matching.specs.Matching.{sound_stitch}
use Rattle.stitch_matching.specs.declared.StitchParams.{StitchParams}
use Rattle.stitch_distinct.specs.Distinct.{distinct_ids}
use Rattle.stitch.specs.declared.numbers.Rooms.{Rooms}

-- how many records a list of words has, and its peaks
abbrev pub count_in : List ℕ → ℕ
count_in list = length list / size

abbrev pub peaks_in : List ℕ → List ImPeak1D
peaks_in list = peaks_of list (count_in list)

-- The checks of a list, the lowest number first. 1: no whole records. 2: more than 65,536 peaks. 4: a parameter out of range, or `told` is
-- false, which stands for what else a caller finds wrong with the parameters. 8: an identity twice. 9: a record with a field out of range, or
-- with a low bound above its high one. 20: no room for as many records, or for as many owners. 21: in the scratch no room for as many places, or
-- for as many records.
abbrev pub stitch_checks : Bool → List ℕ → StitchParams → Rooms → List Check
stitch_checks told list params room =
    let n = count_in list in
    record { number = 1; applies = not (eqb (length list % size) 0) }
    ∷ record { number = 2; applies = ltb max_list n }
    ∷ record { number = 4; applies = not (told && sound_stitch params) }
    ∷ record { number = 8; applies = not (distinct_ids (peaks_in list)) }
    ∷ record { number = 9; applies = not (all_sound list n) }
    ∷ record { number = 20; applies = ltb room.out (n * size) || ltb room.owners n }
    ∷ record {
      number = 21;
      applies = ltb room.order n || ltb room.groups n || ltb room.keys (n * size) || ltb room.merged (n * size);
    }
    ∷ []

unfoldable pub stitch_number : Bool → List ℕ → StitchParams → Rooms → ℕ
stitch_number told list params room = first_of (stitch_checks told list params room)

-- the checks but for one number
abbrev pub but : ℕ → List Check → List Check
but n [] = []
but n (c ∷ cs) = cond (eqb c.number n) (but n cs) (c ∷ but n cs)

-- the lowest number but 8 that applies, 0 for none: the identities are looked at after all else
unfoldable pub other_number : Bool → List ℕ → StitchParams → Rooms → ℕ
other_number told list params room = first_of (but 8 (stitch_checks told list params room))
