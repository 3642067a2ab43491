-- The apexes of an order one after another, and what the steps of expansion are asked.
use mathlib.Core.Path.{◌≡◌, sym, ap, ◌∙◌, subst}
use mathlib.Core.Bool.{true}
use mathlib.Core.List.{List, [], ◌∷◌, ◌++◌, map, map-append}
use Prim.Native.Nat.{ℕ, ◌≤◌, ◌<◌, ◌+◌, ◌*◌}
use native.Mathlib.Numerals.{add-one}
use native.Mathlib.Omega.{arith}
use lib.ListN.{length, get_or, take, drop, length-map, length-append}
use lib.Seq.{take-suc, length-take-le, take_at, get_or-take}
use lib.Ieee.{Float}
use Rattle.limits.specs.Limits.{any_number}
use Rattle.numeric.specs.Numeric.{all_in_range}
use Rattle.row_smoothing.specs.Smoothing.{smoothed}
use Rattle.row_smoothing.proofs.Laws.{smoothed-length}
use Rattle.row_params.specs.Params.{most_peaks}
use Rattle.row_record.specs.declared.ImPeak1D.{ImPeak1D}
use Rattle.rt_record.specs.RtRecord.{rt_size, with_rt_peak}
use Rattle.rt_record.specs.declared.RtApex.{RtApex}
use Rattle.rt_record.specs.declared.RtPeak1D.{RtPeak1D}
use Rattle.expand_placed.specs.Placed.{placed}
use Rattle.rt_apex.specs.InTime.{local_peak_of}
use Rattle.rt_params.specs.declared.RtExpandParams.{RtExpandParams}
use Rattle.rt_search.specs.Retention.{listed_apexes}
use Rattle.rt_listing.specs.Places.{index_at}
use Rattle.rt_search.specs.Steps.{Stands, RtFound}
use Rattle.expand_trace.specs.declared.inner.Way.TheVariants.{AllZero, TooShort, Smoothed}
use Rattle.expand_trace.specs.Trace.{way_of}
use Rattle.expand_trace.specs.FallbackPeaks.{placed_all, fallback_peaks, peak_words, Put}
use Rattle.expand_trace.proofs.Peaks.{placed-more, put-start, put_next}
use Rattle.expand_peak.specs.Expanded.{floor_of, searched, or_else, by_way}
use Rattle.expand_peak.specs.Steps.{placed_apexes, apexes_of, followed, Listable, Searchable, Smoothable}

module _ (y x t : List Float) (found order : List ℕ) (lo : ℕ) (ids : List ℕ) (p : ImPeak1D) (first : ℕ) where
  abbrev indices : ℕ → List ℕ
  indices k = map (index_at found) (take k order)

  abbrev apex_at : ℕ → RtApex
  apex_at i = (local_peak_of y x t i).apex

  pub none-listed : (was : List ℕ) → Put (placed_apexes lo ids p y x t (indices 0) first) was 0 was
  unfolding placed_all
  none-listed was = put-start was

  apexes-more : (k : ℕ) → k < length order → map apex_at (indices (k + 1)) ≡ map apex_at (indices k) ++ (apex_at (index_at found (get_or order k 0)) ∷ [])
  apexes-more k h =
      ap (λ (l : List ℕ). map apex_at (map (index_at found) l)) (ap (λ (j : ℕ). take j order) (add-one k) ∙ take-suc order k 0 h)
      ∙ ap (map apex_at) (map-append (index_at found) (take k order) (get_or order k 0 ∷ []))
      ∙ map-append apex_at (indices k) (index_at found (get_or order k 0) ∷ [])

  count-is : (k : ℕ) → k ≤ length order → length (map apex_at (indices k)) ≡ k
  count-is k h = length-map (indices k) apex_at ∙ length-map (take k order) (index_at found) ∙ length-take-le k order h

  -- one more
  pub one-listed : (was is : List ℕ) (k : ℕ) (q : RtPeak1D) → k < length order → Put (placed_apexes lo ids p y x t (indices k) first) was k is
      → q ≡ placed lo (length x) ids p (apex_at (index_at found (get_or order k 0))) (first + k)
      → Put (placed_apexes lo ids p y x t (indices (k + 1)) first) was (k + 1) (with_rt_peak is k q)
  one-listed was is k q h f e =
      let a = apex_at (index_at found (get_or order k 0)) in
      let l = map apex_at (indices k) in
      let n : placed_all lo (length x) ids p (map apex_at (indices (k + 1))) first ≡ placed_all lo (length x) ids p l first ++ (q ∷ []) =
      ap (λ (m : List RtApex). placed_all lo (length x) ids p m first) (apexes-more k h)
      ∙ placed-more lo (length x) ids p l a first
      ∙ ap (λ (j : ℕ). placed_all lo (length x) ids p l first ++ (placed lo (length x) ids p a (first + j) ∷ [])) (count-is k (omega arith))
      ∙ ap (λ (r : RtPeak1D). placed_all lo (length x) ids p l first ++ (r ∷ [])) (sym e) in
      subst (λ (ps : List RtPeak1D). Put ps was (k + 1) (with_rt_peak is k q)) (sym n) (put_next (placed_all lo (length x) ids p l first) q was is k f)

-- ---- the search of a smoothed trace

-- apexes that are listed with the floor f, where that is the trace's; k of them are written, and n is answered
pub put-searched : (lo : ℕ) (ids : List ℕ) (p : ImPeak1D) (first : ℕ) (e : RtExpandParams) (y x t : List Float) {n : ℕ} {was is : List ℕ} {f : Float} (l : List ℕ)
    → f ≡ floor_of e y → l ≡ listed_apexes f e.min_sep_sec e.min_width_sec y x t → {k : ℕ} → k ≡ n
    → Put (placed_apexes lo ids p y x t l first) was k is → Put (apexes_of e lo ids p y x t first) was n is
unfolding searched
put-searched lo ids p first e y x t {n = n} {was = was} {is = is} l g h m written =
    let put : Put (placed_apexes lo ids p y x t l first) was n is = subst (λ (j : ℕ). Put (placed_apexes lo ids p y x t l first) was j is) m written in
    subst (λ (k : List ℕ). Put (placed_apexes lo ids p y x t k first) was n is)
    (h ∙ ap (λ (v : Float). listed_apexes v e.min_sep_sec e.min_width_sec y x t) g) put

-- what writing them asks
pub listable : {y x t : List Float} {lo : ℕ} {ids : List ℕ} {first out samples long : ℕ} {floor sep width : Float} (found order : List ℕ) (n : ℕ)
    → Searchable y x t lo ids first out samples long → RtFound floor sep width y x t found order n → Listable y x t found (take n order) lo ids first out
listable {y = y} {x = x} found order n s f =
    let few = f.few in
    let named = s.named in
    let wide = s.room in
    let l : length (take n order) ≡ n = length-take-le n order f.room in
    record {
      raw = s.trace.raw;
      times = s.trace.times;
      stand = (λ k h. subst (Stands y x found) (sym (get_or-take n order k 0 (omega (arith, h, l)))) (f.stand k (omega (arith, h, l))));
      frames = s.frames;
      short = s.short;
      named = omega arith;
      room = rw l (omega arith);
    }

-- ---- smoothing

-- the smoothed trace stands at the front of scratch
pub smooth-front : (ws x was is : List Float) → is ≡ smoothed ws x ++ drop (length x) was → take (length x) is ≡ smoothed ws x
smooth-front ws x was is e = ap (take (length x)) e ∙ take_at (smoothed ws x) (drop (length x) was) (length x) (smoothed-length ws x)

pub smooth-long : (ws x was is : List Float) → is ≡ smoothed ws x ++ drop (length x) was → length x ≤ length is
smooth-long ws x was is e =
    let k = length-append (smoothed ws x) (drop (length x) was) in
    let m = smoothed-length ws x in
    let l : length is ≡ length (smoothed ws x ++ drop (length x) was) = ap length e in
    omega arith

-- what its search asks
pub searchable : {x t ws : List Float} {lo : ℕ} {ids : List ℕ} {first out samples order : ℕ} (y : List Float) → y ≡ smoothed ws x
    → Smoothable x t ws lo ids first out samples → most_peaks samples ≤ order → Searchable y x t lo ids first out samples order
searchable {x = x} {ws = ws} y e s m =
    let n : length y ≡ length x = ap length e ∙ smoothed-length ws x in
    let numbers : all_in_range any_number y ≡ true = ap (all_in_range any_number) e ∙ s.numbers in
    let cut = s.cut in
    let frames = s.frames in
    let short = s.short in
    let named = s.named in
    let wide = s.room in
    let room = s.search in
    record {
      trace = record {
        numbers = numbers;
        raw = sym n;
        times = cut ∙ sym n;
        short = omega arith;
        room = omega arith;
        order-long = omega arith;
      };
      frames = omega arith;
      short = short;
      named = rw n named;
      room = rw n wide;
    }

pub put-smoothed : (lo : ℕ) (ids : List ℕ) (p : ImPeak1D) (first : ℕ) (e : RtExpandParams) (ws x t : List Float) {n : ℕ} {was is : List ℕ} (y : List Float)
    → y ≡ smoothed ws x → Put (apexes_of e lo ids p y x t first) was n is → Put (apexes_of e lo ids p (smoothed ws x) x t first) was n is
put-smoothed lo ids p first e ws x t {n = n} {was = was} {is = is} y g put = subst (λ (v : List Float). Put (apexes_of e lo ids p v x t first) was n is) g put

-- ---- the way of a trace
module _ (e : RtExpandParams) (ws : List Float) (ids : List ℕ) (times : List Float) (p : ImPeak1D) (lo : ℕ) (x t : List Float) (first : ℕ) (was : List ℕ) where
  pub follow-zero : AllZero ≡ way_of x e.fallback_if_frames_lt → Put (followed e ws ids times p lo x t first) was 0 was
  unfolding by_way
  follow-zero h = rw (← h) (put-start was)

  pub follow-short : (n : ℕ) (is : List ℕ) → TooShort ≡ way_of x e.fallback_if_frames_lt
      → Put (fallback_peaks x lo ids times p e.fallback_frac_width first) was n is → Put (followed e ws ids times p lo x t first) was n is
  unfolding by_way
  follow-short n is h f = rw (← h) f

  pub follow-found : (n : ℕ) (is : List ℕ) → Smoothed ≡ way_of x e.fallback_if_frames_lt → (n ≡ 0 → ⊥)
      → Put (apexes_of e lo ids p (smoothed ws x) x t first) was n is → Put (followed e ws ids times p lo x t first) was n is
  unfolding by_way or_else
  follow-found n is h some f = rw (← h) (go (apexes_of e lo ids p (smoothed ws x) x t first) f)
    where
      go : (ps : List RtPeak1D) → Put ps was n is → Put (or_else ps (fallback_peaks x lo ids times p e.fallback_frac_width first)) was n is
      go [] g = absurd (some g.count)
      go (q ∷ ps) g = g

  pub follow-fallen : (n k : ℕ) (is left : List ℕ) → Smoothed ≡ way_of x e.fallback_if_frames_lt → n ≡ 0
      → Put (apexes_of e lo ids p (smoothed ws x) x t first) was n is
      → Put (fallback_peaks x lo ids times p e.fallback_frac_width first) is k left → Put (followed e ws ids times p lo x t first) was k left
  unfolding by_way or_else peak_words
  follow-fallen n k is left h none f g = rw (← h) (go (apexes_of e lo ids p (smoothed ws x) x t first) f)
    where
      go : (ps : List RtPeak1D) → Put ps was n is → Put (or_else ps (fallback_peaks x lo ids times p e.fallback_frac_width first)) was k left
      go [] b = subst (λ (l : List ℕ). Put (fallback_peaks x lo ids times p e.fallback_frac_width first) l k left) (b.words ∙ ap (λ (m : ℕ). drop (m * rt_size) was) none) g
      go (q ∷ ps) b = absurd (omega (arith, none, b.count))

-- where none was written, nothing has changed
pub none_written : (ps : List RtPeak1D) (was : List ℕ) (n : ℕ) (is : List ℕ) → Put ps was n is → n ≡ 0 → is ≡ was
unfolding peak_words
none_written [] was n is f e = f.words ∙ ap (λ (m : ℕ). drop (m * rt_size) was) e
none_written (q ∷ ps) was n is f e = absurd (omega (arith, e, f.count))
