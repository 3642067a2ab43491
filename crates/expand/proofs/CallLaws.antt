-- What holds of a call of expansion to which no number applies.
use mathlib.Core.Path.{◌≡◌, refl, sym, ap, ◌∙◌, subst}
use mathlib.Core.Bool.{Bool, true, false, ◌||◌}
use mathlib.Core.List.{List, [], ◌∷◌, ◌++◌}
use Prim.Native.Nat.{ℕ, zero, suc, ◌≤◌, ◌<◌, ◌+◌, ◌-◌, ◌*◌, ◌/◌, ◌%◌}
use native.Mathlib.Nat.{le-div_iff_mul-le, le_of_eq}
use native.Mathlib.Omega.{arith}
use borrow.Author.Tests.{not-false, eqb-true, eqb-false, leb-true, ltb-false}
use lib.Dec.{leb, ltb, eqb, lit<, lit≤}
use lib.ListN.{length, get_or, take, drop}
use lib.Seq.{drop-drop}
use lib.Ieee.{Float}
use Rattle.refusal.proofs.Bools.{clash, both, all3, all4, neither}
use Rattle.limits.specs.Limits.{max_reading, max_frames, max_points, max_count, max_seconds, identities}
use Rattle.numeric.specs.Numeric.{all_in_range}
use Rattle.numeric.proofs.Patterns.{all-wider}
use Rattle.row_smoothing.specs.Smoothing.{sound_weights}
use Rattle.row_params.specs.Params.{rising}
use Rattle.row_record.specs.Record.{size, peak_at, sound, all_sound}
use Rattle.tof_scale.specs.Tof.{sound_step}
use Rattle.frames_index.specs.FrameIndex.{Index, frames, points, seen_in}
use Rattle.frames_index.specs.IndexNumber.{Accepted}
use Rattle.frames_index.proofs.IndexNumberLaws.{none-for, accepted, checked}
use Rattle.rt_params.specs.Expand.{sound_expand}
use Rattle.rt_params.specs.declared.RtExpandParams.{RtExpandParams}
use Rattle.rt_record.specs.RtRecord.{rt_size}
use Rattle.expand_window.proofs.WindowLaws.{sound-numbers}
use Rattle.expand_one.specs.Steps.{most, max_summed, Followed}
use Rattle.expand_trace.specs.FallbackPeaks.{peak_words}
use Rattle.expand_many.specs.Many.{Many, sum_to, weights_at, joined_to}
use Rattle.expand_many.specs.Steps.{Ready, Done}
use Rattle.expand_numbers.specs.ExpandNumber.{sum_of, sums_to, all_weights, sound_values, rising_axes, enough_room}
use Rattle.refusal.specs.declared.Refusal.{Refusal}
use Rattle.refusal.specs.Numbered.{number_of}
use Rattle.refusal.proofs.NumberedLaws.{says-ok, says-err, number_of-positive}
use Rattle.std.specs.Prelude.{Ok, Err}
use Rattle.expand.specs.ExpandCall.{Lent, frames_of, peaks_in, many_asks, many_number, PastKept, ManyAnswered}
use Rattle.expand.specs.Steps.{Lendable}

-- ---- lengths and weights
sum-shift : (k : ℕ) (ks : List ℕ) (i : ℕ) → sum_to (k ∷ ks) (suc i) ≡ k + sum_to ks i
unfolding sum_to
sum-shift k ks zero = omega arith
sum-shift k ks (suc i) = let e = sum-shift k ks i in omega arith

pub sum-all : (ks : List ℕ) → sum_to ks (length ks) ≡ sum_of ks
unfolding sum_of sum_to
sum-all [] = refl
sum-all (k ∷ ks) = sum-shift k ks (length ks) ∙ ap (λ (n : ℕ). k + n) (sum-all ks)

pub each-weights : (ks : List ℕ) (ws : List Float) (i : ℕ) → all_weights ks ws ≡ true → i < length ks → sound_weights (take (get_or ks i 0) (drop (sum_to ks i) ws)) ≡ true
unfolding all_weights sum_to
each-weights [] ws i h l = absurd (omega arith)
each-weights (k ∷ ks) ws zero h l = (both (sound_weights (take k ws)) h).0
each-weights (k ∷ ks) ws (suc i) h l =
    let r = each-weights ks (drop k ws) i (both (sound_weights (take k ws)) h).1 (omega arith) in
    let e : drop (sum_to (k ∷ ks) (suc i)) ws ≡ drop (sum_to ks i) (drop k ws) = ap (λ (n : ℕ). drop n ws) (sum-shift k ks i) ∙ sym (drop-drop (sum_to ks i) k ws) in
    subst (λ (v : List Float). sound_weights (take (get_or ks i 0) v) ≡ true) (sym e) r

-- ---- records
pub each-sound : (l : List ℕ) (n k : ℕ) → all_sound l n ≡ true → k < n → sound (peak_at l k) ≡ true
unfolding all_sound
each-sound l zero k h m = absurd (omega arith)
each-sound l (suc n) k h m = go (eqb k n) refl (λ s. each-sound l n k b.0 s)
  where
    b : (all_sound l n ≡ true) × (sound (peak_at l n) ≡ true)
    b = both (all_sound l n) h

    go : (t : Bool) → eqb k n ≡ t → (k < n → sound (peak_at l k) ≡ true) → sound (peak_at l k) ≡ true
    go true e r = subst (λ (i : ℕ). sound (peak_at l i) ≡ true) (sym (eqb-true k n e)) b.1
    go false e r = let d = eqb-false k n e in r (omega arith)

-- ---- room
room-is : (n m room : ℕ) → enough_room n m room ≡ true → n * m * rt_size ≤ room
unfolding enough_room
room-is n m room h = (le-div_iff_mul-le {k = rt_size} (lit< tt)).0 (leb-true (n * m) (room / rt_size) h)

pad-is : (e : RtExpandParams) → sound_expand e ≡ true → e.bin_pad ≤ max_count
unfolding sound_expand
pad-is e h = go (leb e.bin_pad max_count) refl
  where
    go : (b : Bool) → leb e.bin_pad max_count ≡ b → e.bin_pad ≤ max_count
    go true t = leb-true e.bin_pad max_count t
    go false t = let k = rw t at h in clash false k refl

under : (a b : ℕ) → a < 4294967296 → b ≤ identities - a → a + b ≤ identities
under a b h k = omega arith

-- ---- what an accepted call has
module _ (m : Many) (was : Lent) (counts : ℕ) (none : many_number m was counts ≡ 0) where
  abbrev ix : Index
  ix = m.run.index

  abbrev n : ℕ
  n = peaks_in m

  abbrev f : ℕ
  f = frames_of m.run

  met : Accepted ix (many_asks m was counts)
  met = accepted max_reading ix (many_asks m was counts) none

  in_range : all_in_range max_reading ix.readings ≡ true
  unfolding seen_in
  in_range = not-false _ (none-for max_reading ix (many_asks m was counts) 3 none)

  lengths-met : (eqb (length m.list % size) 0 ≡ true) × (eqb (length m.lengths) n ≡ true) × (sums_to m.lengths (length m.weights) ≡ true)
      × (eqb (length ix.starts) (f + 1) ≡ true) × (eqb (length m.run.times) f ≡ true)
  unfolding many_asks
  lengths-met =
      let b = all4 (eqb (length m.list % size) 0) met.lengths in
      let c = both (eqb (length ix.starts) (f + 1)) b.3 in
      (b.0, b.1, b.2, c.0, c.1)

  values-met : (sound_expand m.params ≡ true) × (sound_step m.run.scale.tof_step ≡ true) × (all_in_range max_seconds m.run.times ≡ true) × (leb (n * most f) (identities - m.first) ≡ true)
  unfolding many_asks sound_values
  values-met = all4 (sound_expand m.params) met.values

  others-met : (all_weights m.lengths m.weights ≡ true) × (rising m.run.ids ≡ true) × (all_sound m.list n ≡ true) × (enough_room n (most f) (length was.out) ≡ true) × (leb n counts ≡ true)
      × (leb f (length was.raw) ≡ true) × (leb f (length was.smooth) ≡ true) × (leb f (length was.order) ≡ true)
  unfolding many_asks rising_axes
  others-met =
      let r = both (enough_room n (most f) (length was.out)) met.room in
      let s = all3 (leb f (length was.raw)) met.scratch in
      (met.weights, (both (rising m.run.ids) met.order).0, met.records, r.0, r.1, s.0, s.1, s.2)

  -- no more frames than there may be
  few : (frames ix ≤ max_frames) × (points ix ≤ max_points)
  few =
      let big = neither (ltb max_frames (frames ix) || ltb max_points (points ix)) met.small in
      let n = neither (ltb max_frames (frames ix)) big.0 in
      (ltb-false max_frames (frames ix) n.0, ltb-false max_points (points ix) n.1)

  pub short : f ≤ max_frames
  short = let most = few.0 in let starts = eqb-true (length ix.starts) (f + 1) lengths-met.3 in omega arith

  pub followed : Followed m.run m.params
  unfolding many_asks
  followed =
      let v = values-met in
      record {
        index = checked ix (many_asks m was counts) met;
        few-points = few.1;
        readings = all-wider max_reading max_summed ix.readings (lit≤ tt) in_range;
        scale = record { step = v.1; ends = met.axes; agree = met.scale };
        pad = pad-is m.params v.0;
        frames = eqb-true (length ix.starts) (f + 1) lengths-met.3;
        axis = eqb-true _ _ lengths-met.4;
        short = omega (arith, short);
        rise = others-met.1;
      }

  -- the weights of each peak are sound
  pub weights-sound : (k : ℕ) → k < n → sound_weights (weights_at m k) ≡ true
  unfolding weights_at
  weights-sound k h =
      let as-many : length m.lengths ≡ length m.list / size = eqb-true (length m.lengths) n lengths-met.1 in
      each-weights m.lengths m.weights k others-met.0 (omega (arith, as-many, h))

  -- a length a peak
  pub as-many : length m.lengths ≡ peaks_in m
  as-many = eqb-true (length m.lengths) n lengths-met.1

  pub ready : m.first < 4294967296 → Ready m n (length was.out) counts
  ready named =
      let l = lengths-met in
      let v = values-met in
      let o = others-met in
      let whole : length m.list % size ≡ 0 = eqb-true (length m.list % size) 0 l.0 in
      let sums = eqb-true (sum_of m.lengths) (length m.weights) l.2 in
      let fit : n * most f ≤ identities - m.first = leb-true (n * most f) (identities - m.first) v.3 in
      record {
        run = followed;
        weights = weights-sound;
        numbers = λ k h. sound-numbers (peak_at m.list k) (each-sound m.list n k o.2 h);
        peaks = omega arith;
        lengths = le_of_eq (sym as-many);
        joined = le_of_eq (ap (sum_to m.lengths) (sym as-many) ∙ sum-all m.lengths ∙ sums);
        named = under m.first (n * most f) named fit;
        room = room-is n (most f) (length was.out) o.3;
        counted = leb-true n counts o.4;
      }

  -- the records that are handed in are sound
  pub records-sound : (k : ℕ) → k < n → sound (peak_at m.list k) ≡ true
  records-sound k h = each-sound m.list n k others-met.2 h

  pub lendable : Lendable f (length was.raw) (length was.smooth) (length was.order)
  lendable =
      let o = others-met in
      record { raw-long = leb-true _ _ o.5; smooth-long = leb-true _ _ o.6; order-long = leb-true _ _ o.7 }

-- ---- the answer
module _ (m : Many) (was is : Lent) (counts₀ counts : List ℕ) where
  -- to a call with number 0 whose peaks were expanded
  pub answered : (r : ℕ) → many_number m was (length counts₀) ≡ 0 → Done m (peaks_in m) was.out counts₀ r is.out counts → PastKept (frames_of m.run) was is
      → ManyAnswered m was is counts₀ counts (Ok r)
  answered r none d p =
      record {
        answered = says-ok (length (joined_to m (peaks_in m))) (sym none) d.peaks.count;
        accepted = λ z. record {
          words = d.peaks.words ∙ ap (λ (k : ℕ). peak_words (joined_to m (peaks_in m)) ++ drop (k * rt_size) was.out) d.peaks.count;
          column = d.counted;
          past = p;
        };
        refused = λ z. absurd (z none);
      }

-- to one with another number
pub refused : (m : Many) (was : Lent) (counts : List ℕ) (r : Refusal) → number_of r ≡ many_number m was (length counts) → ManyAnswered m was was counts counts (Err r)
refused m was counts r e =
    record {
      answered = says-err r (length (joined_to m (peaks_in m))) e;
      accepted = λ h. absurd (number_of-positive r (e ∙ h));
      refused = λ h. (refl, refl);
    }
