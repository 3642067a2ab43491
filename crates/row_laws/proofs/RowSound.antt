-- Each part of number 9, for the record of a sample with a neighbour on either side, in a row that no number refuses.
use mathlib.Core.Path.{◌≡◌, refl, sym, ap, ◌∙◌, subst}
use mathlib.Core.Bool.{Bool, true, false, not, ◌||◌}
use mathlib.Core.List.{List, [], ◌∷◌, ◌++◌}
use Prim.Native.Nat.{ℕ, zero, suc, ◌+◌, ◌-◌, ◌*◌, ◌/◌, ◌%◌, ◌^◌, ◌≤◌, ◌<◌}
use native.Mathlib.Nat.{le_trans, le_of_eq, mul-le-mul_right}
use native.Mathlib.Omega.{arith}
use borrow.Author.Tests.{not-false, ltb-true, ltb-false, leb-true, le-leb, eqb-true, ne_eqb}
use lib.Dec.{leb, ltb, eqb, lit<, lit≤}
use lib.ListN.{length, drop, get_or, get_or-eq_default}
use lib.Ieee.{Float, nan, le, of_bits, to_bits}
use Rattle.limits.specs.Limits.{max_reading, max_height, max_area, max_mobility, max_place, max_tof_bound, max_scan, max_width, last_sample, last_row, max_samples}
use Rattle.numeric.specs.Arith.{𝟎, index_f, at}
use Rattle.numeric.specs.Numeric.{max_f, min_f, quad_f, in_range, all_in_range}
use Rattle.refusal.proofs.Bools.{both, all3, all5}
use Rattle.refusal.proofs.RefusalLaws.{applies_for}
use Rattle.numeric.proofs.Patterns.{range_at, all-wider}
use Rattle.numeric.proofs.Bounds.{one, mag, AtMost, rep_at, le-mag, limit_f, in-at-most, at_most_in}
use Rattle.row_apex.specs.Apex.{prominence}
use Rattle.row_area.specs.Area.{area_f}
use Rattle.row_record.specs.declared.ImPeak1D.{ImPeak1D}
use Rattle.row_record.specs.Record.{size, sound, all_sound, sound_tof, sound_frames, sound_options, sound_scans, sound_shape, modest, height, place, area, offset, has_mobility}
use Rattle.row_params.specs.Params.{sound_params, sound_bounds, all_up_to, rising}
use Rattle.row_params.specs.Params.{sound_tof as sound_place}
use Rattle.row_params.specs.declared.ImDetectParams.{ImDetectParams}
use Rattle.row_params.specs.declared.RowPlace.{RowPlace}
use Rattle.row_params.specs.declared.FrameBounds.{FrameBounds}
use Rattle.row_spans.specs.Span.{sample_at}
use Rattle.row_search.specs.Qualifying.{left_x, right_x, width, qualifying, kept}
use Rattle.row_search.specs.Account.{◌∈◌}
use Rattle.row_search.proofs.Account.{kept-qualify}
use Rattle.row_search.proofs.QualifyingLaws.{qualifying-listed}
use Rattle.row.specs.Row.{scan_at, subscan, mobility_at, mobility_flag, group_flag, peak_of, row_words}
use Rattle.row.specs.RowNumber.{same_lengths, sound_readings, sound_values, sound_axis, row_checks, row_number}
use Rattle.row.proofs.RowNumberLaws.{none-for}
use Rattle.std.proofs.lemmas.List.{get_or_default}
use Rattle.std.specs.Prelude.{Option, None, Some}
use Rattle.rounding.specs.Rounding.{floor_f, ceil_f}
use Rattle.row_laws.specs.RowRecords.{nth}
use Rattle.row_laws.specs.RowSound.{Accepted, PeaksSound, ListSound}
use Rattle.row_laws.proofs.RowRecords.{one_of, quad-fits, kept_whole}
use Rattle.row_laws.proofs.Heights.{prominence-at-most}
use Rattle.row_laws.proofs.Crossings.{Place}
use Rattle.row_laws.proofs.Enclosed.{mag-smoothed, smoothed-at-most, nums, left, right}
use Rattle.row_laws.proofs.Scans.{left-sample, right-sample, in_order, width-at-most, scan-at-most, scans-rise}
use Rattle.row_laws.proofs.Subscan.{quad-number, clamp-offset}
use Rattle.row_laws.proofs.Area.{area-at-most}

-- ---- what the checks of a row say
record Parts (y z : List Float) (r : RowPlace) (f : FrameBounds) (mobility : List Float) (axis : List ℕ) : Type 0 where
  raw : length z ≡ length y
  short : length y ≤ max_samples
  smoothed-range : all_in_range max_height y ≡ true
  raw-range : all_in_range max_reading z ≡ true
  mobility-range : all_in_range max_mobility mobility ≡ true
  frames : sound_bounds f ≡ true
  row : r.tof_row ≤ last_row
  tof : sound_place r ≡ true
  scans : all_up_to max_scan axis ≡ true
  rises : rising axis ≡ true

parts : (y z : List Float) (r : RowPlace) (f : FrameBounds) (mobility : List Float) (p : ImDetectParams) (axis : List ℕ) (first room : ℕ)
    → row_number y z r f mobility p axis first room ≡ 0 → Parts y z r f mobility axis
unfolding same_lengths sound_readings sound_values sound_axis
parts y z r f mobility p axis first room e =
    let n = length y in
    let none : (k : ℕ) → applies_for k (row_checks y z r f mobility p axis first room) ≡ false = λ k. none-for y z r f mobility p axis first room k e in
    let l = all3 (eqb (length z) n) (not-false _ (none 1)) in
    let s = both (all_in_range max_height y) (not-false _ (none 3)) in
    let v = all5 (sound_params p) (not-false _ (none 4)) in
    let a = both (all_up_to max_scan axis) (not-false _ (none 5)) in
    record {
      raw = eqb-true (length z) n l.0;
      short = ltb-false max_samples n (none 2);
      smoothed-range = s.0;
      raw-range = s.1;
      mobility-range = v.1;
      frames = v.2;
      row = leb-true r.tof_row last_row v.3;
      tof = a.1;
      scans = a.0;
      rises = not-false _ (none 7);
    }

-- ---- limits in units
mag-32 : mag (limit_f max_reading) ≡ 2 ^ 181
unfolding mag one of_bits
mag-32 = refl

mag-50 : mag (limit_f max_area) ≡ 262144 * 2 ^ 181
unfolding mag one of_bits
mag-50 = refl

mag-scans : mag (limit_f max_place) ≡ 65535 * one
unfolding mag one of_bits
mag-scans = refl

zero-modest : modest 𝟎 ≡ true
unfolding in_range of_bits to_bits
zero-modest = refl

-- ---- a mobility, and the flags

mobility-in : (t : List Float) (i : ℕ) → i < length t → get_or t i 𝟎 ≡ mobility_at t i
mobility-in [] i h = absurd (omega arith)
mobility-in (m ∷ ms) i h = refl

mobility-out : (t : List Float) (i : ℕ) → length t ≤ i → 𝟎 ≡ mobility_at t i
mobility-out [] i h = refl
mobility-out (m ∷ ms) i h = sym (get_or-eq_default (m ∷ ms) 𝟎 h)

mobility-flag-le : (t : List Float) → mobility_flag t ≤ 2
mobility-flag-le [] = omega arith
mobility-flag-le (m ∷ ms) = omega arith

group-flag-le : (g : Option ℕ) → group_flag g ≤ 1
group-flag-le None = omega arith
group-flag-le (Some w) = omega arith

-- ---- the parts of number 9
module _ (y z : List Float) (r : RowPlace) (f : FrameBounds) (mobility : List Float) (p : ImDetectParams) (axis : List ℕ) (first room : ℕ)
    (A : Accepted y z r f mobility p axis first room) (i id : ℕ) (low : 1 ≤ i) (high : i + 1 < length y) where
  P : Parts y z r f mobility axis
  P = parts y z r f mobility p axis first room A.no_number

  abbrev peak : ImPeak1D
  peak = peak_of r f mobility axis y z i id

  pub tof-sound : sound_tof peak ≡ true
  unfolding sound_tof peak_of sound_place
  tof-sound =
      let t = all3 (leb r.tof_center max_tof_bound) P.tof in
      rw (le-leb r.tof_row last_row P.row, t.0, le-leb r.tof_lo r.tof_hi A.bounds, t.2)

  pub frames-sound : sound_frames peak ≡ true
  unfolding sound_frames peak_of sound_bounds
  frames-sound = P.frames

  -- ---- options
  modest-at : (t : List Float) → all_in_range max_mobility t ≡ true → modest (mobility_at t i) ≡ true
  modest-at t h = go (ltb i (length t)) refl
    where
      go : (b : Bool) → ltb i (length t) ≡ b → modest (mobility_at t i) ≡ true
      go true e = let l = ltb-true i (length t) e in ap modest (sym (get_or_default t i nan 𝟎 l ∙ mobility-in t i l)) ∙ range_at max_mobility t i h l
      go false e = ap modest (sym (mobility-out t i (ltb-false i (length t) e))) ∙ zero-modest

  or-true : (b : Bool) → (b || true) ≡ true
  or-true true = refl
  or-true false = refl

  pub options-sound : sound_options peak ≡ true
  unfolding sound_options peak_of
  options-sound =
      let g = group-flag-le f.window_group in
      let m = mobility-flag-le mobility in
      let k = group_flag f.window_group + mobility_flag mobility in
      rw (le-leb k 7 (omega arith), ne_eqb (k / 4 % 2) 1 (λ e. omega arith), modest-at mobility P.mobility-range) (or-true (not (has_mobility peak)))

  -- ---- heights and crossings
  inside : i < length y
  inside = omega arith

  short : length y ≤ max_samples
  short = P.short

  most : (k : ℕ) → k < length y → AtMost (at y k) (2 ^ 182)
  most = smoothed-at-most y A.smoothed-fits P.smoothed-range short

  lx : Place (left_x y i) 0 i
  lx = left y A.smoothed-fits P.smoothed-range short i inside

  rx : Place (right_x y i) i (length y - 1)
  rx = right y A.smoothed-fits P.smoothed-range short i inside

  raw-most : (k : ℕ) → k < length z → AtMost (at z k) (2 ^ 181)
  raw-most k l = subst (AtMost (at z k)) mag-32 (in-at-most max_reading (at z k) (lit< tt) (A.raw-fits k l) (range_at max_reading z k P.raw-range l))

  -- ---- scans
  pub scans-sound : sound_scans peak ≡ true
  unfolding sound_scans peak_of
  scans-sound =
      let n = length y in
      let s = short in
      let a = sample_at n (floor_f (left_x y i)) in
      let b = sample_at n (ceil_f (right_x y i)) in
      let l = left-sample n i inside s (left_x y i) (right_x y i) lx rx in
      let r = right-sample n i inside s (left_x y i) (right_x y i) lx rx in
      let o : a ≤ b = le_trans l r.0 in
      let u = r.1 in
      rw (
        le-leb i last_sample (omega arith),
        le-leb a b o,
        le-leb b last_sample (omega arith),
        le-leb (scan_at axis i) max_scan (scan-at-most max_scan axis i P.scans),
        le-leb (scan_at axis a) (scan_at axis b) (scans-rise axis P.rises a b o),
        le-leb (scan_at axis b) max_scan (scan-at-most max_scan axis b P.scans),
      )

  -- ---- shape
  smoothed-height : height (at y i) ≡ true
  smoothed-height = range_at max_height y i P.smoothed-range inside

  raw-height : height (at z i) ≡ true
  raw-height = let e = P.raw in range_at max_height z i (all-wider max_reading max_height z (omega arith) P.raw-range) (omega arith)

  rise-height : height (prominence y i) ≡ true
  rise-height =
      let a = prominence-at-most y (nums y A.smoothed-fits P.smoothed-range short) i inside in
      at_most_in max_height (prominence y i) (lit< tt) (a.0, le_trans a.1 (le_trans (most i inside).1 (le_of_eq (sym mag-smoothed))))

  place-of : (x : Float) (j k : ℕ) → k ≤ 65535 → Place x j k → place x ≡ true
  place-of x j k h q = at_most_in max_place x (lit< tt) (q.num, le_trans q.high (le_trans (mul-le-mul_right one h) (le_of_eq (sym mag-scans))))

  ordered : le (left_x y i) (right_x y i) ≡ true
  ordered =
      le-mag (left_x y i) (right_x y i) lx.num rx.num
      ∙ le-leb (mag (left_x y i)) (mag (right_x y i)) (in_order (length y) i inside short (left_x y i) (right_x y i) lx rx)

  width-most : width y i ≤ max_width
  unfolding width
  width-most = let w = width-at-most (length y) i inside short (left_x y i) (right_x y i) lx rx in let s = short in omega arith

  area-sound : area (area_f z (max_f (left_x y i) 𝟎) (min_f (right_x y i) (index_f (length y - 1)))) ≡ true
  area-sound =
      let e = P.raw in
      let s = short in
      let L : Place (left_x y i) 0 (length z - 1) = record { num = lx.num; low = lx.low; high = le_trans lx.high (mul-le-mul_right one (let k : i ≤ length z - 1 = omega arith in k)) } in
      let R : Place (right_x y i) 0 (length z - 1) = record { num = rx.num; low = le_trans (mul-le-mul_right one (let k : 0 ≤ i = omega arith in k)) rx.low; high = rw e rx.high } in
      let a = area-at-most z (2 ^ 181) (λ k h. rep_at k 181 h (lit≤ tt)) raw-most (omega arith) (omega arith) (left_x y i) (right_x y i) L R in
      at_most_in max_area (area_f z (max_f (left_x y i) 𝟎) (min_f (right_x y i) (index_f (length y - 1)))) (lit< tt)
      (subst (AtMost (area_f z (max_f (left_x y i) 𝟎) (min_f (right_x y i) (index_f (length y - 1))))) (sym mag-50)
      (subst (λ (n : ℕ). AtMost (area_f z (max_f (left_x y i) 𝟎) (min_f (right_x y i) (index_f (n - 1)))) (262144 * 2 ^ 181)) e a))

  subscan-sound : offset (subscan y i) ≡ true
  unfolding subscan
  subscan-sound =
      clamp-offset (quad_f (at y (i - 1)) (at y i) (at y (i + 1))) (quad-fits (at y (i - 1)) (at y i) (at y (i + 1)))
      (quad-number (2 ^ 182) (λ k h. rep_at k 182 (let l : k < 16777216 = omega arith in l) (lit≤ tt)) (at y (i - 1)) (at y i) (at y (i + 1))
      (most (i - 1) (omega arith)) (most i inside) (most (i + 1) high))

  pub shape-sound : sound_shape peak ≡ true
  unfolding sound_shape peak_of
  shape-sound =
      let s = short in
      rw (
        smoothed-height,
        raw-height,
        rise-height,
        place-of (left_x y i) 0 i (omega arith) lx,
        place-of (right_x y i) i (length y - 1) (omega arith) rx,
        ordered,
        le-leb (width y i) max_width width-most,
        area-sound,
        subscan-sound,
      )

  pub sample-sound : sound peak ≡ true
  unfolding sound
  sample-sound = rw (tof-sound, frames-sound, options-sound, scans-sound, shape-sound)

-- ---- the apexes that are kept, and their list
module _ (y z : List Float) (r : RowPlace) (f : FrameBounds) (mobility : List Float) (p : ImDetectParams) (axis : List ℕ) (first room : ℕ) (A : Accepted y z r f mobility p axis first room) where
  kept-sound : (i id : ℕ) → i ∈ kept p y z → sound (peak_of r f mobility axis y z i id) ≡ true
  unfolding kept
  kept-sound i id m =
      let l = (qualifying-listed p y z i (kept-qualify p.min_distance_scans y (qualifying p y z) i m)).0 in
      let a = l.low in
      let b = l.high in
      sample-sound y z r f mobility p axis first room A i id a (omega arith)

  front-sound : (rest : List ℕ) (n : ℕ) → n ≤ length (kept p y z) → all_sound (row_words r f mobility axis y z first (kept p y z) ++ rest) n ≡ true
  unfolding all_sound
  front-sound rest zero h = refl
  front-sound rest (suc n) h =
      let e = kept_whole r f mobility axis y z p first A.smoothed-fits A.raw-fits A.mobility-fits rest n (omega arith) in
      rw (front-sound rest n (omega arith), e) (kept-sound (nth (kept p y z) n) (first + n) (one_of (kept p y z) (length (kept p y z) - 1 - n) (omega arith)))

pub peaks-sound : PeaksSound
peaks-sound = kept-sound

pub list-sound : ListSound
list-sound y z r f mobility p axis first out A =
    rw A.no_number (front-sound y z r f mobility p axis first (length out) A (drop (length (kept p y z) * size) out) (length (kept p y z)) (le_of_eq refl))
