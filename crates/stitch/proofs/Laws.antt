-- Laws of the answer to a list to stitch.
use mathlib.Core.Path.{◌≡◌, refl, sym, ap, ◌∙◌}
use mathlib.Core.Bool.{Bool, true, false, ◌||◌}
use mathlib.Core.List.{List, [], ◌∷◌, ◌++◌}
use Prim.Native.Nat.{ℕ, ◌*◌, ◌≤◌}
use borrow.Author.Tests.{ltb-false, not-false}
use lib.Dec.{ltb}
use lib.ListN.{length, get_or, take, drop}
use lib.Seq.{take_at, drop_at}
use lib.IntN.{pos}
use lib.Ieee.{binary32, of_bits}
use denote.Enum.Declared.{tag_of}
use Rattle.std.specs.Prelude.{Ok, Err, Option, None, Some}
use Rattle.std.specs.Bool.{then_some}
use Rattle.std.specs.Option.{unwrap_or, is_some}
use Rattle.std.proofs.Common.{is_lt, int_cmp}
use Rattle.refusal.specs.contracts.Refusal.{the_type}
use Rattle.refusal.specs.declared.Refusal.TheVariants.{Lengths, Size, Reading, Value, Axis, Weights, Order, Identity, Record, Text, Room, Scratch, Scale, Index}
use Rattle.refusal.specs.declared.Refusal.{Refusal}
use Rattle.refusal.specs.Numbered.{number_of}
use Rattle.refusal.proofs.NumberedLaws.{number_of-positive, says-err, says-ok}
use Rattle.refusal.proofs.Bools.{neither, clash}
use Rattle.limits.specs.Limits.{max_list}
use Rattle.row_record.specs.Record.{size}
use Rattle.stitch_peaks.specs.PeakList.{peaks_of}
use Rattle.stitch_peaks.proofs.PeakListLaws.{peaks-length}
use Rattle.stitch_matching.specs.declared.StitchParams.{StitchParams}
use Rattle.stitch_keys.specs.declared.KeyRule.TheVariants.{Identity}
use Rattle.stitch_grouping.specs.Grouping.{pass_order}
use Rattle.stitch_distinct.specs.Distinct.{distinct_ids, by_identity}
use Rattle.stitch_distinct.proofs.Laws.{order-length}
use Rattle.stitch_passes.specs.Stitching.{stitched}
use Rattle.stitch_passes.specs.Steps.{Stitched}
use Rattle.stitch.specs.declared.numbers.Rooms.{Rooms}
use Rattle.stitch.specs.StitchNumber.{count_in, peaks_in, stitch_number, other_number}
use Rattle.stitch.specs.Answer.{Lent, number_for, Answered}
use Rattle.stitch.proofs.StitchNumberLaws.{none-for, no_other}

-- ---- what a caller may know of the parameters

-- parameters in the place of none
no_params : StitchParams
no_params =
    record {
      min_overlap_frames = 0;
      max_scan_delta = 0;
      jaccard_min = of_bits binary32 0;
      max_tof_row_delta = 0;
      allow_cross_groups = true;
      min_im_overlap_scans = 0;
      im_jaccard_min = of_bits binary32 0;
      require_mutual_apex_inside = true;
    }

-- whether there are any, and which
pub told-or-not : (params : Option StitchParams) → (told : Bool) × (p : StitchParams) × (params ≡ then_some told p)
told-or-not None = (false, no_params, refl)
told-or-not (Some p) = (true, p, refl)

-- the parameters that are there are those that are meant
pub params-are : (told : Bool) (p q : StitchParams) → then_some told p ≡ Some q → p ≡ q
params-are true p q e = ap (λ o. unwrap_or o p) e
params-are false p q e = clash _ (ap is_some e) refl

-- ---- the order of refusals is that of their numbers
pub before-identity : (e : Refusal) → is_lt (int_cmp (get_or (pos 1 ∷ pos 2 ∷ pos 3 ∷ pos 4 ∷ pos 5 ∷ pos 6 ∷ pos 7 ∷ pos 8 ∷ pos 9 ∷ pos 10 ∷ pos 20 ∷ pos 21 ∷ pos 22 ∷ pos 23 ∷ []) (tag_of the_type e) (pos 0)) (pos 8)) ≡ ltb (number_of e) 8
before-identity Lengths = refl
before-identity Size = refl
before-identity Reading = refl
before-identity Value = refl
before-identity Axis = refl
before-identity Weights = refl
before-identity Order = refl
before-identity Identity = refl
before-identity Record = refl
before-identity Text = refl
before-identity Room = refl
before-identity Scratch = refl
before-identity Scale = refl
before-identity Index = refl

-- what holds of a list that no number but 8 refuses
pub record Checked (list : List ℕ) (room : Rooms) : Type 0 where
  pub few : count_in list ≤ max_list
  pub out : count_in list * size ≤ room.out
  pub owners : count_in list ≤ room.owners
  pub order : count_in list ≤ room.order
  pub groups : count_in list ≤ room.groups
  pub keys : count_in list * size ≤ room.keys
  pub merged : count_in list * size ≤ room.merged

pub checked : (told : Bool) (list : List ℕ) (params : StitchParams) (room : Rooms) → other_number told list params room ≡ 0 → Checked list room
checked told list params room e =
    let n = count_in list in
    let r = neither (ltb room.out (n * size)) (no_other told list params room 20 e) in
    let s = neither (ltb room.order n || ltb room.groups n || ltb room.keys (n * size)) (no_other told list params room 21 e) in
    let t = neither (ltb room.order n || ltb room.groups n) s.0 in
    let u = neither (ltb room.order n) t.0 in
    record {
      few = ltb-false max_list n (no_other told list params room 2 e);
      out = ltb-false room.out (n * size) r.0;
      owners = ltb-false room.owners n r.1;
      order = ltb-false room.order n u.0;
      groups = ltb-false room.groups n u.1;
      keys = ltb-false room.keys (n * size) t.1;
      merged = ltb-false room.merged (n * size) s.1;
    }

-- what holds of a list that no number refuses
pub record Accepted (list : List ℕ) : Type 0 where
  pub few : count_in list ≤ max_list
  pub distinct-ids : distinct_ids (peaks_in list) ≡ true

pub accepted : (told : Bool) (list : List ℕ) (params : StitchParams) (room : Rooms) → stitch_number told list params room ≡ 0 → Accepted list
accepted told list params room e =
    record {
      few = ltb-false max_list (count_in list) (none-for told list params room 2 e);
      distinct-ids = not-false _ (none-for told list params room 8 e);
    }

-- the list of places, with those in the order of their identities put to its front
pub put_first : (list : List ℕ) (n : ℕ) (was is : List ℕ) → is ≡ by_identity (peaks_of list n) ++ drop n was
    → (take n is ≡ pass_order Identity (peaks_of list n)) × (drop n is ≡ drop n was)
put_first list n was is e = (
  rw e (take_at (by_identity (peaks_of list n)) (drop n was) n (order-length list n)),
  rw e (drop_at (by_identity (peaks_of list n)) (drop n was) n (order-length list n)),
)

-- ---- the answer

-- to a list with number 0 whose peaks were stitched
pub answered : (told : Bool) (list : List ℕ) (params : StitchParams) (was is : Lent) (count : ℕ) → number_for told list params was ≡ 0
    → Stitched params (peaks_in list) was.out was.owners count is.out is.owners
    → drop (count_in list) is.order ≡ drop (count_in list) was.order → drop (count_in list) is.groups ≡ drop (count_in list) was.groups
    → drop (count_in list * size) is.keys ≡ drop (count_in list * size) was.keys → drop (count_in list * size) is.merged ≡ drop (count_in list * size) was.merged
    → Answered told list params was is (Ok count)
answered told list params was is count e s o g k m =
    let n : length (peaks_in list) ≡ count_in list = peaks-length list (count_in list) in
    record {
      answered = says-ok (length (stitched params (peaks_in list))) (sym e) s.counted;
      accepted = λ z. record { records = rw s.counted at s.records; column = s.column; order = rw n o; groups = rw n g; keys = rw n k; merged = rw n m };
      refused = λ z. absurd (z e);
    }

-- to a list with another number, whose lists are as they were
pub refused : (number : Refusal) (told : Bool) (list : List ℕ) (params : StitchParams) (was : Lent) → number_of number ≡ number_for told list params was
    → Answered told list params was was (Err number)
refused number told list params was e =
    record {
      answered = says-err number (length (stitched params (peaks_in list))) e;
      accepted = λ z. absurd (number_of-positive number (e ∙ z));
      refused = λ z. refl;
    }
