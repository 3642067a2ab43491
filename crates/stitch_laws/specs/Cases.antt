-- A worked case, which need not be read to know what is promised: a list of three peaks that is accepted, and of which two are merged.
use Rattle.std.specs.Prelude.{◌≡◌, refl, true, Result, Ok, List, [], ◌∷◌, ℕ, length}
use Rattle.std.proofs.Common.{ap}
use Rattle.std.specs.Float.Ieee.{lt, le, of_bits, to_bits, of_int}
use Rattle.refusal.specs.Refusal.{first_of}
use Rattle.refusal.specs.declared.Refusal.{Refusal}
use Rattle.refusal.proofs.NumberedLaws.{which}
use Rattle.numeric.specs.Numeric.{in_range}
use Rattle.row_record.specs.Record.{peak_from, sound, sound_tof, sound_frames, sound_options, sound_scans, sound_shape, all_sound}
use Rattle.stitch_peaks.specs.PeakList.{peaks_of, list_words}
use Rattle.stitch_matching.specs.Cases.{asked}
use Rattle.stitch_matching.specs.Matching.{sound_stitch}
use Rattle.stitch_distinct.specs.Distinct.{is_in, distinct}
use Rattle.stitch_grouping.specs.Grouping.{group_peaks}
use Rattle.stitch_grouping.specs.Cases.{three}
use Rattle.stitch_passes.specs.Stitching.{first_peaks, stitched}
use Rattle.stitch_passes.specs.Cases.{second-groups, owners}
use Rattle.stitch.specs.StitchNumber.{peaks_in, stitch_number}
use Rattle.stitch.specs.Answer.{Lent, lent, number_for, Answered}

-- the words of three peaks in rows 102, 200 and 100, and lists that have room for them, whatever they hold
abbrev pub list : List ℕ
list = list_words three

abbrev pub before : Lent
before = lent list (7 ∷ 7 ∷ 7 ∷ []) (7 ∷ 7 ∷ 7 ∷ []) (7 ∷ 7 ∷ 7 ∷ []) list list

-- no number applies
pub accepted : number_for true list (asked 2 10) before ≡ 0
unfolding stitch_number first_of sound_stitch in_range peaks_of list_words peak_from distinct is_in all_sound sound sound_tof sound_frames sound_options sound_scans sound_shape of_bits to_bits le lt of_int
accepted = refl

-- its peaks are read as they were written
pub peaks : peaks_in list ≡ three
unfolding peaks_of list_words peak_from of_bits to_bits
peaks = refl

-- two of them come to one stitched peak
pub two : length (stitched (asked 2 10) three) ≡ 2
unfolding stitched group_peaks
two = ap (λ (gs : List (List ℕ)). length (group_peaks (first_peaks (asked 2 10) three) gs)) second-groups

-- So the entry can give no other answer and no other owners, whatever stands in the lists that are lent: rows 102 and 100 have the
-- owner 0, and row 200 the owner 1.
pub answered : (is : Lent) (answer : Result ℕ Refusal) → Answered true list (asked 2 10) before is answer
    → (answer ≡ Ok 2) × (is.owners ≡ 0 ∷ 1 ∷ 0 ∷ [])
answered is answer a = (which ℕ answer 0 2 (rw (accepted, peaks, two) at a.answered), rw (peaks, owners) at (a.accepted accepted).column)
