-- What is left of a list to stitch, accepted or refused.
use Rattle.std.specs.Prelude.{◌≡◌, Bool, Result, List, ◌++◌, ℕ, ◌*◌, length, drop}
use Rattle.refusal.specs.declared.Refusal.{Refusal}
use Rattle.refusal.specs.Answers.{answer_by}
use Rattle.refusal.specs.Numbered.{says}
use Rattle.row_record.specs.Record.{size}
use Rattle.row_record.specs.declared.ImPeak1D.{ImPeak1D}
use Rattle.stitch_peaks.specs.PeakList.{list_words}
use Rattle.stitch_matching.specs.declared.StitchParams.{StitchParams}
use Rattle.stitch_passes.specs.Stitching.{stitched, owners_of}
use Rattle.stitch_passes.specs.declared.Lent.{Lent as LentLists}
use Rattle.stitch.specs.declared.numbers.Rooms.{Rooms}
use Rattle.stitch.specs.StitchNumber.{peaks_in, stitch_number}

-- the six lists that are lent: two for the answer, and four of scratch
pub record Lent : Type 0 where
  pub out : List ℕ
  pub owners : List ℕ
  pub order : List ℕ
  pub groups : List ℕ
  pub keys : List ℕ
  pub merged : List ℕ

abbrev pub lent : List ℕ → List ℕ → List ℕ → List ℕ → List ℕ → List ℕ → Lent
lent out owners order groups keys merged =
    record { out = out; owners = owners; order = order; groups = groups; keys = keys; merged = merged }

-- those of the struct that holds them
abbrev pub lent_in : LentLists → Lent
lent_in l = lent l.out.now l.owners.now l.order.now l.groups.now l.keys.now l.merged.now

-- how long they are
abbrev pub rooms_of : Lent → Rooms
rooms_of l =
    record {
      out = length l.out;
      owners = length l.owners;
      order = length l.order;
      groups = length l.groups;
      keys = length l.keys;
      merged = length l.merged;
    }

abbrev pub number_for : Bool → List ℕ → StitchParams → Lent → ℕ
number_for told list params was = stitch_number told list params (rooms_of was)

-- What the lists hold after the peaks ps were stitched: the words of the stitched peaks and the owner column at the front of the first
-- two, and past that what they held; the scratch what it held past the words that are asked for.
pub record Written (params : StitchParams) (ps : List ImPeak1D) (was is : Lent) : Type 0 where
  pub records : is.out ≡ list_words (stitched params ps) ++ drop (length (stitched params ps) * size) was.out
  pub column : is.owners ≡ owners_of params ps ++ drop (length ps) was.owners
  pub order : drop (length ps) is.order ≡ drop (length ps) was.order
  pub groups : drop (length ps) is.groups ≡ drop (length ps) was.groups
  pub keys : drop (length ps * size) is.keys ≡ drop (length ps * size) was.keys
  pub merged : drop (length ps * size) is.merged ≡ drop (length ps * size) was.merged

-- The answer, and what the lists hold then. Accepted, with number 0: what is written. Refused: all as it was.
pub record Answered (told : Bool) (list : List ℕ) (params : StitchParams) (was is : Lent) (answer : Result ℕ Refusal) : Type 0 where
  pub answered : says answer ≡ answer_by (number_for told list params was) (length (stitched params (peaks_in list)))
  pub accepted : number_for told list params was ≡ 0 → Written params (peaks_in list) was is
  pub refused : (number_for told list params was ≡ 0 → ⊥) → is ≡ was
