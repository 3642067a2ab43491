-- Laws of a row's records and of its numbers.
use mathlib.Core.Path.{◌≡◌, refl, sym, ap, ◌∙◌, subst}
use mathlib.Core.Bool.{true}
use mathlib.Core.List.{List, [], ◌∷◌, ◌++◌, append_assoc}
use Prim.Native.Nat.{ℕ, ◌≤◌, ◌<◌, ◌+◌, ◌*◌}
use native.Mathlib.Omega.{arith}
use native.Mathlib.Nat.{zero-mul, one-mul, add-mul, mul_assoc, mul-le-mul_right}
use borrow.Author.Tests.{lt-ltb, not-false, eqb-true, ltb-false, leb-true}
use lib.Dec.{eqb, ltb}
use lib.ListN.{length, get_or, take, drop, get_or-eq_default}
use Rattle.std.proofs.lemmas.List.{nil_from_length}
use lib.Seq.{take_at, drop-drop, drop-append-add}
use lib.Ieee.{Float}
use Rattle.limits.specs.Limits.{max_samples, any_number, max_height, identities, exact_index}
use Rattle.numeric.specs.Arith.{at, 𝟎}
use Rattle.numeric.specs.Numeric.{all_in_range}
use Rattle.refusal.proofs.Bools.{both, all3, all5}
use Rattle.numeric.proofs.Patterns.{all-wider}
use Rattle.row_spans.specs.Span.{span_of}
use Rattle.row_record.specs.declared.ImPeak1D.{ImPeak1D}
use Rattle.row_record.specs.Record.{size, words_of, with_peak}
use Rattle.row_params.specs.Params.{most_peaks, sound_params}
use Rattle.row_params.specs.declared.ImDetectParams.{ImDetectParams}
use Rattle.row_params.specs.declared.RowPlace.{RowPlace}
use Rattle.row_params.specs.declared.FrameBounds.{FrameBounds}
use Rattle.std.specs.Prelude.{Option, None, Some, cond, is_some}
use Rattle.std.specs.Option.{unwrap_or}
use Rattle.std.specs.Bool.{then_some}
use mathlib.Core.Logic.{◌⊎◌, inl, inr}
use Rattle.row_search.specs.Qualifying.{left_x, right_x, width}
use Rattle.row_search.specs.Found.{measured_of, measured_at, oldest, Searchable}
use Rattle.row_search.specs.declared.inner.Measured.{Measured}
use Rattle.row_search.proofs.Laws.{Next, measured-index}
use Rattle.row.specs.declared.inner.OnAxes.{OnAxes}
use Rattle.row.specs.Row.{on_axes, mobility_at, mobility_of, mobility_flag, flag_of, group_flag, group_word, subscan, peak_of, row_words}
use Rattle.row.specs.RowNumber.{same_lengths, sound_readings, sound_values, row_number}
use Rattle.row.proofs.RowNumberLaws.{none-for}
use Rattle.row.proofs.RowWords.{row-words-length}
use Rattle.row.specs.Written.{Written, as_words, stride, with_record}
use Rattle.row.specs.Steps.{Writable, Numbers, Inside, RecordsPut}

-- ---- the mobility table
-- what stands in a table of n, or 0 past its end
pub mobility-here : (t : List Float) (i n : ℕ) (here : Float) → n ≡ length t → ((i < n) × (here ≡ get_or t i 𝟎)) ⊎ ((n ≤ i) × (here ≡ 𝟎)) → then_some (ltb 0 n) here ≡ mobility_of t i
mobility-here [] i n here e h = rw e refl
mobility-here (m ∷ ms) i n here e (inl h) = rw (e, lt-ltb 0 (length (m ∷ ms)) (omega arith)) (ap Some h.1)
mobility-here (m ∷ ms) i n here e (inr h) = rw (e, lt-ltb 0 (length (m ∷ ms)) (omega arith)) (ap Some (h.1 ∙ sym (get_or-eq_default (m ∷ ms) 𝟎 (omega (arith, h.0)))))

-- the fields of a peak by the mobility that it has
value-is : (t : List Float) (i : ℕ) → mobility_at t i ≡ unwrap_or (mobility_of t i) 𝟎
value-is [] i = refl
value-is (m ∷ ms) i = refl

mobility-flag-is : (t : List Float) (i : ℕ) → mobility_flag t ≡ flag_of (mobility_of t i) 2
mobility-flag-is [] i = refl
mobility-flag-is (m ∷ ms) i = refl

-- a flag by a bool's number
pub flag-word : {A : Type 0} (field : Option A) (n flag : ℕ) → n ≡ cond (is_some field) 1 0 → n * flag ≡ flag_of field flag
flag-word None n flag e = rw e (zero-mul flag)
flag-word (Some v) n flag e = rw e (one-mul flag)

group-flag-is : (g : Option ℕ) → group_flag g ≡ flag_of g 1
group-flag-is None = refl
group-flag-is (Some w) = refl

pub group-word-is : (g : Option ℕ) → unwrap_or g 0 ≡ group_word g
group-word-is None = refl
group-word-is (Some w) = refl

-- ---- a peak, from what is measured of its apex
module _ (place : RowPlace) (bounds : FrameBounds) (mobility : List Float) (axis : List ℕ) (y z : List Float) (a : Measured) (id : ℕ) (inside : Inside y z axis a) where
  pub peak-is : (on : OnAxes) (su m : Float) (flags group : ℕ) → on ≡ on_axes mobility axis a
      → flags ≡ flag_of bounds.window_group 1 + flag_of on.mobility 2 → m ≡ unwrap_or on.mobility 𝟎 → group ≡ group_word bounds.window_group → su ≡ subscan y a.index
      → record {
        tof_row = place.tof_row;
        tof_center = place.tof_center;
        tof_lo = place.tof_lo;
        tof_hi = place.tof_hi;
        rt_lo = bounds.rt_lo;
        rt_hi = bounds.rt_hi;
        frame_id_lo = bounds.frame_id_lo;
        frame_id_hi = bounds.frame_id_hi;
        flags = flags;
        window_group = group;
        scan = a.index;
        left = a.left;
        right = a.right;
        scan_abs = on.scan;
        left_abs = on.left;
        right_abs = on.right;
        scan_sigma = 𝟎;
        mobility = m;
        apex_smoothed = at y a.index;
        apex_raw = at z a.index;
        prominence = a.prominence;
        left_x = a.left_x;
        right_x = a.right_x;
        width_scans = a.width;
        area_raw = a.area;
        subscan = su;
        id = id;
      } ≡ peak_of place bounds mobility axis y z a.index id
  unfolding peak_of measured_of span_of left_x right_x width
  peak-is on su m flags group o e1 em e2 e3 =
      let i = inside.is in
      let ep = ap (λ (m : Measured). m.prominence) i in
      let ef = ap (λ (m : Measured). m.left) i in
      let et = ap (λ (m : Measured). m.right) i in
      let el = ap (λ (m : Measured). m.left_x) i in
      let er = ap (λ (m : Measured). m.right_x) i in
      let ew = ap (λ (m : Measured). m.width) i in
      let ea = ap (λ (m : Measured). m.area) i in
      let v = value-is mobility a.index in
      let f = mobility-flag-is mobility a.index in
      let g = group-flag-is bounds.window_group in
      rw (e1, em, e2, e3, o, ← v, ← f, ← g, ep, ef, et, el, er, ew, ea)

-- ---- an apex that is read from a list
-- the apex at place j
module _ (y z : List Float) (axis found ks : List ℕ) (j : ℕ) (a : Measured) (n : Next y z found ks j) (e : a ≡ measured_at found j) where
  pub read_is : a.index ≡ n.apex
  read_is = ap (λ (m : Measured). m.index) (e ∙ n.at_place.is) ∙ measured-index y z n.apex

  pub read-inside : length z ≡ length y → length axis ≡ length y → length y ≤ exact_index → Inside y z axis a
  read-inside p q r =
      record {
        is = e ∙ n.at_place.is ∙ ap (measured_of y z) (sym read_is);
        low = let l = n.at_place.low in omega (arith, read_is);
        high = let h = n.at_place.high in omega (arith, read_is);
        raw = p;
        scans = q;
        short = r;
      }

-- ---- the list
pub put-none : {T : Type 0} (w : Written T) → w.put [] ≡ []
put-none w = nil_from_length (w.put []) (w.long [] ∙ zero-mul w.unit)

pub put-length : {T : Type 0} (w : Written T) (ws : List ℕ) (n : ℕ) → length ws ≡ n * size → length (w.put ws) ≡ n * stride w
put-length w ws n e = w.long ws ∙ rw e (mul_assoc n size w.unit)

-- the record at place j stands inside of a list with room for so many words
pub record-fits : {T : Type 0} (w : Written T) (j room long : ℕ) → (j + 1) * size ≤ room → room * w.unit ≤ long → j * stride w + stride w ≤ long
record-fits w j room long a b =
    let K = stride w in
    let m : (j + 1) * K ≡ j * K + K = add-mul j 1 K ∙ ap (λ (k : ℕ). j * K + k) (one-mul K) in
    let c : (j + 1) * size * w.unit ≡ (j + 1) * K = mul_assoc (j + 1) size w.unit in
    let d : (j + 1) * size * w.unit ≤ room * w.unit = mul-le-mul_right w.unit a in
    omega (arith, m, c, d, b)

module _ (place : RowPlace) (bounds : FrameBounds) (mobility : List Float) (axis : List ℕ) (y z : List Float) (first : ℕ) where
  pub listed-none : {T : Type 0} (w : Written T) (d : List T) → RecordsPut w place bounds mobility axis y z first d d 0 []
  unfolding row_words
  listed-none w d = record { count = refl; front = rw (put-none w, zero-mul (stride w)) }

  pub none-words : (d : List ℕ) → d ≡ row_words place bounds mobility axis y z first [] ++ d
  unfolding row_words
  none-words d = refl

  -- one more record behind them
  pub one-listed : {T : Type 0} (w : Written T) (es : List ℕ) (d out next : List T) (n i : ℕ) (peak : ImPeak1D) → RecordsPut w place bounds mobility axis y z first d out n es
      → peak ≡ peak_of place bounds mobility axis y z i (first + n) → next ≡ with_record w out n peak → RecordsPut w place bounds mobility axis y z first d next (n + 1) (i ∷ es)
  unfolding row_words with_record
  one-listed w es d out next n i peak h e o =
      let W = row_words place bounds mobility axis y z first es in
      let P = words_of (peak_of place bounds mobility axis y z i (first + n)) in
      let K = stride w in
      let R = drop (n * K) d in
      let c : length W ≡ n * size = row-words-length place bounds mobility axis y z first es ∙ ap (λ (k : ℕ). k * size) (sym h.count) in
      let l : length (w.put W) ≡ n * K = put-length w W n c in
      let t : take (n * K) out ≡ w.put W = ap (take (n * K)) h.front ∙ take_at (w.put W) R (n * K) l in
      let m : n * K + K ≡ (n + 1) * K = sym (add-mul n 1 K ∙ ap (λ (k : ℕ). n * K + k) (one-mul K)) in
      let b : drop (n * K + K) out ≡ drop ((n + 1) * K) d =
      ap (drop (n * K + K)) h.front ∙ subst (λ (k : ℕ). drop (k + K) (w.put W ++ R) ≡ drop K R) l (drop-append-add (w.put W) R K)
      ∙ drop-drop K (n * K) d ∙ ap (λ (k : ℕ). drop k d) m in
      record {
        count = omega (arith, h.count);
        front = rw (o, e, t, b, ← h.count, w.joined W P) (sym (append_assoc (w.put W) (w.put P) (drop ((n + 1) * K) d)));
      }

  -- the next of the kept apexes
  pub next-listed : {T : Type 0} (w : Written T) (found ks : List ℕ) (d out last : List T) (j : ℕ) (peak : ImPeak1D) (n : Next y z found ks j) → RecordsPut w place bounds mobility axis y z first d out j (oldest j ks)
      → peak ≡ peak_of place bounds mobility axis y z n.apex (first + j) → last ≡ with_record w out j peak → RecordsPut w place bounds mobility axis y z first d last (j + 1) (oldest (j + 1) ks)
  next-listed w found ks d out last j peak n h e o = rw n.is (one-listed w (oldest j ks) d out last j n.apex peak h e o)

-- a record put as words
pub put-words : (l : List ℕ) (k : ℕ) (p : ImPeak1D) → with_peak l k p ≡ with_record as_words l k p
unfolding with_peak with_record
put-words l k p = refl

-- ---- a row that no number refuses

-- a row that is ready can be searched
pub searchable : {p : ImDetectParams} {y z : List Float} {axis : List ℕ} {first room : ℕ} (samples : ℕ) → Writable y z axis first room → Numbers p y z
    → length y ≤ samples → Searchable p y z samples
searchable samples r n a = record { numbers = n.numbers; raw = r.raw; short = r.short; room = a; floor = n.floor }

pub ready : (y z : List Float) (r : RowPlace) (f : FrameBounds) (mobility : List Float) (p : ImDetectParams) (axis : List ℕ) (first room : ℕ)
    → row_number y z r f mobility p axis first room ≡ 0 → Writable y z axis first room
unfolding same_lengths sound_values
ready y z r f mobility p axis first room e =
    let n = length y in
    let l = all3 (eqb (length z) n) (not-false _ (none-for y z r f mobility p axis first room 1 e)) in
    let v = all5 (sound_params p) (not-false _ (none-for y z r f mobility p axis first room 4 e)) in
    record {
      raw = eqb-true (length z) n l.0;
      scans = eqb-true (length axis) n l.1;
      short = omega (arith, ltb-false max_samples n (none-for y z r f mobility p axis first room 2 e));
      words = ltb-false room (most_peaks n * size) (none-for y z r f mobility p axis first room 20 e);
      ids = leb-true (first + most_peaks n) identities v.4;
    }

pub readings : (y z : List Float) (r : RowPlace) (f : FrameBounds) (mobility : List Float) (p : ImDetectParams) (axis : List ℕ) (first room : ℕ)
    → row_number y z r f mobility p axis first room ≡ 0 → (all_in_range any_number y ≡ true) × (length y ≤ max_samples)
unfolding sound_readings
readings y z r f mobility p axis first room e =
    (all-wider max_height any_number y (omega arith) (both (all_in_range max_height y) (not-false _ (none-for y z r f mobility p axis first room 3 e))).0, ltb-false max_samples (length y) (none-for y z r f mobility p axis first room 2 e))
