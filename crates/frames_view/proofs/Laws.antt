-- Laws of the number and of the answer of a frame's points.
use mathlib.Core.Path.{◌≡◌, refl, sym, ap, ◌∙◌}
use mathlib.Core.Bool.{false, ◌||◌}
use Prim.Native.Nat.{ℕ, ◌+◌, ◌-◌, ◌≤◌, ◌<◌}
use borrow.Author.Tests.{ne_eqb, eqb-true, ltb-false, leb-false, not-false}
use lib.Dec.{ltb, eqb}
use lib.ListN.{length, drop}
use Rattle.refusal.specs.Refusal.{first_of}
use Rattle.std.specs.Prelude.{Ok, Err}
use Rattle.refusal.specs.declared.Refusal.{Refusal}
use Rattle.refusal.specs.Numbered.{number_of}
use Rattle.refusal.proofs.AnswersLaws.{says-values}
use Rattle.refusal.proofs.NumberedLaws.{number_of-positive, says-err}
use Rattle.refusal.proofs.Bools.{both, all3, neither}
use Rattle.limits.specs.Limits.{max_reading, max_points, max_tof}
use Rattle.row_params.specs.Params.{all_up_to}
use Rattle.tof_scale.specs.Tof.{Sound, sound_step}
use Rattle.frames_bins.specs.declared.inner.Counts.{Counts}
use Rattle.frames_bins.specs.FrameBins.{view_scans, view_readings}
use Rattle.frames_bins.specs.Steps.{Viewed}
use Rattle.frames_view.specs.declared.numbers.Seen.{Seen}
use Rattle.frames_view.specs.ViewNumber.{seen_in, checks_of}
use Rattle.frames_view.specs.Answer.{Frame, Lent, room_of, view_number, number_for, bins_of, counts_of, Answered}
use Rattle.frames_view.proofs.ViewLaws.{none-for}

-- ---- the checks

-- the number of what was seen
pub seen-number : (f : Frame) (l : Lent) (n : ℕ) (s : Seen) → s ≡ seen_in max_reading f.tofs f.scans f.readings
    → n ≡ first_of (checks_of s f.count f.base f.scale (room_of l)) → n ≡ number_for f l
unfolding view_number
seen-number f l n s e h = rw e at h

-- a frame that no number refuses
pub record Accepted (f : Frame) (l : Lent) : Type 0 where
  pub sound : Sound f.scale
  pub scans : length f.scans ≡ length f.tofs
  pub readings : length f.readings ≡ length f.tofs
  pub few : f.base + length f.tofs ≤ max_points
  pub bins-room : length f.tofs ≤ length l.bins
  pub offsets-room : length f.tofs < length l.offsets
  pub scans-room : length f.tofs ≤ length l.scans
  pub readings-room : length f.tofs ≤ length l.readings
  pub keys-room : length f.tofs ≤ length l.keys
  pub order-room : length f.tofs ≤ length l.order
  pub spare-room : length f.tofs ≤ length l.spare

pub accepted : (f : Frame) (l : Lent) → number_for f l ≡ 0 → Accepted f l
accepted f l e =
    let n = length f.tofs in
    let room = room_of l in
    let a = both (eqb (length f.scans) n) (not-false _ (none-for max_reading f room 1 e)) in
    let v = both (sound_step f.scale.tof_step) (not-false _ (none-for max_reading f room 4 e)) in
    let x = all3 (all_up_to max_tof f.tofs) (not-false _ (none-for max_reading f room 5 e)) in
    let w = neither (ltb room.bins n || ltb room.scans n || ltb room.readings n) (none-for max_reading f room 20 e) in
    let w2 = neither (ltb room.bins n || ltb room.scans n) w.0 in
    let w3 = neither (ltb room.bins n) w2.0 in
    let k = neither (ltb room.keys n || ltb room.order n) (none-for max_reading f room 21 e) in
    let k2 = neither (ltb room.keys n) k.0 in
    record {
      sound = record { step = v.0; ends = x.2; agree = not-false _ (none-for max_reading f room 22 e) };
      scans = eqb-true _ _ a.0;
      readings = eqb-true _ _ a.1;
      few = ltb-false _ _ (none-for max_reading f room 2 e);
      bins-room = ltb-false room.bins n w3.0;
      offsets-room = leb-false room.offsets n w.1;
      scans-room = ltb-false room.scans n w3.1;
      readings-room = ltb-false room.readings n w2.1;
      keys-room = ltb-false room.keys n k2.0;
      order-room = ltb-false room.order n k2.1;
      spare-room = ltb-false room.spare n k.1;
    }

-- ---- the answer

-- what is left with number 0, and with another number
pub answered : (f : Frame) (l m : Lent) (base last : ℕ) (c : Counts) → number_for f l ≡ 0 → base ≡ f.base → last ≡ f.count - 1
    → Viewed base last (bins_of f) f.scans f.readings l.bins l.offsets l.scans l.readings c m.bins m.offsets m.scans m.readings
    → drop (length f.tofs) m.keys ≡ drop (length f.tofs) l.keys → drop (length f.tofs) m.order ≡ drop (length f.tofs) l.order
    → drop (length f.tofs) m.spare ≡ drop (length f.tofs) l.spare → Answered f l m (Ok c)
unfolding view_scans view_readings
answered f l m base last c e b g v h i j =
    let counts : c ≡ counts_of f = rw (v.counted, v.points) in
    record {
      answered = says-values (counts_of f) (sym e) refl counts;
      bins = rw e (rw v.counted at v.bins);
      offsets = rw e (rw (v.counted, b) at v.offsets);
      scans = rw e (rw (v.points, g) at v.scans);
      readings = rw e (rw v.points at v.readings);
      keys = rw e h;
      order = rw e i;
      spare = rw e j;
    }

pub refused : (e : Refusal) (f : Frame) (l : Lent) → number_of e ≡ number_for f l → Answered f l l (Err e)
refused e f l i =
    let z : eqb (number_for f l) 0 ≡ false = ap (λ (k : ℕ). eqb k 0) (sym i) ∙ ne_eqb (number_of e) 0 (number_of-positive e) in
    record {
      answered = says-err e (counts_of f) i;
      bins = rw z;
      offsets = rw z;
      scans = rw z;
      readings = rw z;
      keys = refl;
      order = refl;
      spare = refl;
    }
