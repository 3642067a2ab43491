-- The index of a run whose frames are built one after the other is usable.
use mathlib.Core.Path.{◌≡◌, refl, sym, ap, ◌∙◌}
use mathlib.Core.Bool.{true}
use mathlib.Core.List.{List, [], ◌∷◌, ◌++◌}
use Prim.Native.Nat.{ℕ, ◌+◌, ◌-◌, ◌≤◌, min}
use native.Mathlib.Omega.{arith}
use borrow.Author.Tests.{eqb-true, eq-eqb, ltb-false, lt-ltb, le-ltb, not-false}
use lib.Dec.{eqb, ltb}
use lib.ListN.{length, get_or, take, drop, length-append, length-map, length-take}
use Rattle.refusal.proofs.Bools.{both, all3}
use Rattle.limits.specs.Limits.{last_row, max_scan, max_points, max_frames, max_tof}
use Rattle.numeric.specs.Arith.{at}
use Rattle.numeric.specs.Numeric.{all_in_range}
use Rattle.numeric.proofs.Patterns.{range_at}
use Rattle.row_params.specs.Params.{all_up_to}
use Rattle.tof_scale.specs.Tof.{Sound, sound_step}
use Rattle.frames_index.specs.FrameIndex.{Index, frames, points, agreeing, climbs_from, climbs_to, frames_rise_from, frames_rise, sound_lists, sound_index, seen_in}
use Rattle.frames_index.proofs.Laws.{sound-parts}
use Rattle.frames_bins.specs.FrameBins.{kept, places_of, firsts_to, sorted_bins, view_bins, view_offsets, view_scans, view_readings}
use Rattle.frames_bins.proofs.Laws.{places-length, places-below, bins-length, distinct-le, firsts-length, kept-le}
use Rattle.frames_view.specs.declared.numbers.Room.{Room}
use Rattle.frames_view.specs.Answer.{Frame, bins_of, view_number}
use Rattle.frames_view.proofs.ViewLaws.{none-for}
use Rattle.frames_laws.specs.BuiltIndex.{no_frames, with_frame, with_frames, Accepted, Run, Usable, FrameUsable, RunUsable, RunSeen, AloneUsable}
use Rattle.frames_laws.proofs.Kept.{view-rises, view-most, up-to-append, up-to-map}
use Rattle.frames_laws.proofs.Joined.{climbs-snoc, climbs-append, seam, offsets-front, offsets-climb, frames-snoc, range-append, range-map}
use Rattle.row_params.proofs.Laws.{up-to-at}

-- ---- what a frame has that no number refuses

record Given (limit : ℕ) (f : Frame) : Type 0 where
  scale : Sound f.scale
  lengths : length f.readings ≡ length f.tofs
  readings : all_in_range limit f.readings ≡ true
  scans : all_up_to max_scan f.scans ≡ true
  few : f.base + length f.tofs ≤ max_points

given : (limit : ℕ) (f : Frame) (room : Room) → view_number limit f room ≡ 0 → Given limit f
given limit f room e =
    let a = both (eqb (length f.scans) (length f.tofs)) (not-false _ (none-for limit f room 1 e)) in
    let v = both (sound_step f.scale.tof_step) (not-false _ (none-for limit f room 4 e)) in
    let x = all3 (all_up_to max_tof f.tofs) (not-false _ (none-for limit f room 5 e)) in
    record {
      scale = record { step = v.0; ends = x.2; agree = not-false _ (none-for limit f room 22 e) };
      lengths = eqb-true (length f.readings) (length f.tofs) a.1;
      readings = not-false _ (none-for limit f room 3 e);
      scans = x.1;
      few = ltb-false max_points (f.base + length f.tofs) (none-for limit f room 2 e);
    }

-- ---- the lists of its view

module _ (f : Frame) where
  view-fewer : length (view_bins (bins_of f)) ≤ kept (bins_of f)
  unfolding view_bins
  view-fewer = distinct-le (sorted_bins (bins_of f)) (kept (bins_of f))

  view-offsets : length (view_offsets f.base (bins_of f)) ≡ length (view_bins (bins_of f)) + 1
  unfolding view_bins view_offsets
  view-offsets =
      length-append (firsts_to f.base (sorted_bins (bins_of f)) (kept (bins_of f))) ((f.base + kept (bins_of f)) ∷ [])
      ∙ ap (λ (n : ℕ). n + 1) (firsts-length (sorted_bins (bins_of f)) f.base (kept (bins_of f)))

  view-points : length (view_scans f.count (bins_of f) f.scans) ≡ kept (bins_of f)
  unfolding view_scans
  view-points = length-map (places_of (bins_of f)) (λ p. min (get_or f.scans p 0) (f.count - 1)) ∙ places-length (bins_of f)

  view-readings : length (view_readings (bins_of f) f.readings) ≡ kept (bins_of f)
  unfolding view_readings
  view-readings = length-map (places_of (bins_of f)) (at f.readings) ∙ places-length (bins_of f)

  -- the offsets climb on from the points that are there
  offsets-on : view_offsets f.base (bins_of f) ≡ f.base ∷ drop 1 (view_offsets f.base (bins_of f))
  unfolding view_offsets
  offsets-on = offsets-front f.base (sorted_bins (bins_of f)) (kept (bins_of f))

  offsets-up : climbs_from (f.base + kept (bins_of f)) f.base (drop 1 (view_offsets f.base (bins_of f))) ≡ true
  unfolding view_offsets
  offsets-up = offsets-climb f.base (sorted_bins (bins_of f)) (kept (bins_of f))

  scans-held : all_up_to max_scan f.scans ≡ true → all_up_to max_scan (view_scans f.count (bins_of f) f.scans) ≡ true
  unfolding view_scans
  scans-held h = up-to-map max_scan (λ p. min (get_or f.scans p 0) (f.count - 1)) (places_of (bins_of f)) (λ p. omega (arith, up-to-at max_scan f.scans p h))

  readings-held : (limit : ℕ) → length f.readings ≡ length f.tofs → all_in_range limit f.readings ≡ true
      → all_in_range limit (view_readings (bins_of f) f.readings) ≡ true
  unfolding view_readings
  readings-held limit l h =
      range-map limit f.readings (places_of (bins_of f))
      (λ p m. range_at limit f.readings p h (omega (arith, l, places-below (bins_of f) p m, bins-length f.scale f.tofs)))

-- ---- one frame more

module _ (limit : ℕ) (ix : Index) (f : Frame) (u : Usable limit ix) (a : Accepted limit ix f) where
  abbrev new : Index
  new = with_frame ix f

  abbrev rest : List ℕ
  rest = drop 1 (view_offsets f.base (bins_of f))

  abbrev has : Given limit f
  has = given limit f a.room a.none

  abbrev parts : (climbs_to (length ix.bins) ix.starts ≡ true) × (climbs_to (points ix) ix.offsets ≡ true) × (all_up_to last_row ix.bins ≡ true) × (frames_rise ix.bins ix.starts ≡ true)
  parts = sound-parts ix.starts ix.bins ix.offsets (points ix) u.sound

  abbrev agreed : (ltb 0 (length ix.starts) ≡ true) × (eqb (length ix.offsets) (length ix.bins + 1) ≡ true) × (eqb (length ix.scans) (length ix.readings) ≡ true)
  agreed = all3 (ltb 0 (length ix.starts)) u.lengths

  old-offsets : length ix.offsets ≡ length ix.bins + 1
  old-offsets = eqb-true (length ix.offsets) (length ix.bins + 1) agreed.1

  new-bins : length new.bins ≡ length ix.bins + length (view_bins (bins_of f))
  new-bins = length-append ix.bins (view_bins (bins_of f))

  new-points : points new ≡ points ix + kept (bins_of f)
  new-points =
      length-append ix.scans (view_scans f.count (bins_of f) f.scans) ∙ ap (λ (k : ℕ). points ix + k) (view-points f)

  new-readings : length new.readings ≡ length ix.readings + kept (bins_of f)
  new-readings =
      length-append ix.readings (view_readings (bins_of f) f.readings) ∙ ap (λ (k : ℕ). length ix.readings + k) (view-readings f)

  new-offsets : length new.offsets ≡ length new.bins + 1
  new-offsets =
      length-append (take (length ix.bins) ix.offsets) (view_offsets f.base (bins_of f))
      ∙ omega (arith, length-take (length ix.bins) ix.offsets, view-offsets f, new-bins, old-offsets)

  agrees : agreeing new ≡ true
  agrees =
      rw (
        lt-ltb 0 (length new.starts) (omega (arith, length-append ix.starts ((length ix.bins + length (view_bins (bins_of f))) ∷ []))),
        eq-eqb (length new.offsets) (length new.bins + 1) new-offsets,
        eq-eqb (length new.scans) (length new.readings) (omega (arith, new-points, new-readings, eqb-true (length ix.scans) (length ix.readings) agreed.2)),
      )

  starts-climb : climbs_to (length new.bins) new.starts ≡ true
  starts-climb =
      rw new-bins (climbs-snoc (length ix.bins) (length ix.bins + length (view_bins (bins_of f))) ix.starts parts.0 (omega arith))

  joined : new.offsets ≡ ix.offsets ++ rest
  joined =
      ap (λ (x : List ℕ). take (length ix.bins) ix.offsets ++ x) (offsets-on f ∙ ap (λ (k : ℕ). k ∷ rest) a.base)
      ∙ seam (points ix) (length ix.bins) ix.offsets rest parts.1 old-offsets

  offsets-climb-on : climbs_to (points new) new.offsets ≡ true
  offsets-climb-on =
      rw (joined, new-points)
      (climbs-append (points ix) (points ix + kept (bins_of f)) ix.offsets rest parts.1
      (ap (λ (k : ℕ). climbs_from (k + kept (bins_of f)) k rest) (sym a.base) ∙ offsets-up f))

  sound-on : sound_index new ≡ true
  unfolding sound_lists
  sound-on =
      rw (
        starts-climb,
        offsets-climb-on,
        up-to-append last_row ix.bins (view_bins (bins_of f)) parts.2 (view-most f.scale has.scale f.tofs),
        frames-snoc ix.bins (view_bins (bins_of f)) ix.starts parts.3 parts.0 (view-rises f.scale has.scale f.tofs),
      )

  usable-on : Usable limit new
  usable-on =
      record {
        lengths = agrees;
        readings = range-append limit ix.readings (view_readings (bins_of f) f.readings) u.readings (readings-held f limit has.lengths has.readings);
        scans = up-to-append max_scan ix.scans (view_scans f.count (bins_of f) f.scans) u.scans (scans-held f has.scans);
        sound = sound-on;
        fewer = omega (arith, u.fewer, view-fewer f, new-bins, new-points);
        few = omega (arith, new-points, a.base, has.few, kept-le (bins_of f) (length (bins_of f)), bins-length f.scale f.tofs);
      }

pub frame-usable : FrameUsable
frame-usable = usable-on

-- ---- a run

none-usable : (limit : ℕ) → Usable limit no_frames
unfolding all_in_range all_up_to sound_lists climbs_to climbs_from frames_rise frames_rise_from
none-usable limit = record { lengths = refl; readings = refl; scans = refl; sound = refl; fewer = omega arith; few = omega arith }

on-usable : (limit : ℕ) (ix : Index) (fs : List Frame) → Usable limit ix → Run limit ix fs → Usable limit (with_frames ix fs)
unfolding with_frames
on-usable limit ix [] u r = u
on-usable limit ix (f ∷ fs) u r = on-usable limit (with_frame ix f) fs (frame-usable limit ix f u r.0) r.1

pub run-usable : RunUsable
run-usable limit fs r = on-usable limit no_frames fs (none-usable limit) r

frames-on : (ix : Index) (fs : List Frame) → length (with_frames ix fs).starts ≡ length ix.starts + length fs
unfolding with_frames
frames-on ix [] = omega arith
frames-on ix (f ∷ fs) = omega (arith, frames-on (with_frame ix f) fs, length-append ix.starts ((length ix.bins + length (view_bins (bins_of f))) ∷ []))

pub run-seen : RunSeen
unfolding seen_in
run-seen limit fs l r =
    let u = run-usable limit fs r in
    let ix = with_frames no_frames fs in
    let n : length ix.starts ≡ 1 + length fs = frames-on no_frames fs in
    rw (u.lengths, u.readings, u.scans, u.sound, le-ltb max_frames (frames ix) (omega arith), le-ltb max_points (points ix) u.few, le-ltb max_points (length ix.bins) (omega (arith, u.fewer, u.few)))

-- ---- a frame alone

pub alone-usable : AloneUsable
alone-usable limit f room b e =
    let u = frame-usable limit no_frames f (none-usable limit) (record { room = room; base = b; none = e }) in
    let z : 0 + length (view_bins (bins_of f)) ≡ length (view_bins (bins_of f)) = omega arith in
    rw (b, z) at u
