-- The retention peaks of a mobility peak are apexes of its trace, placed in the run, whichever way it takes; so they lie in its window.
use mathlib.Core.Path.{◌≡◌, refl, sym, ap, ◌∙◌, subst}
use mathlib.Core.Bool.{Bool, true, false, cond}
use mathlib.Core.List.{List, [], ◌∷◌, ◌++◌, map}
use Prim.Native.Nat.{ℕ, zero, suc, ◌≤◌, ◌<◌, ◌+◌, ◌-◌, ◌*◌, min, max}
use native.Mathlib.Omega.{arith}
use lib.ListN.{length, get_or, length-map}
use lib.Dec.{lit<}
use lib.Ieee.{Float, binary32, le, of_bits}
use Rattle.numeric.specs.Arith.{𝟎, ◌⊗◌}
use Rattle.numeric.specs.Plain.{word}
use Rattle.rounding.specs.Rounding.{floor_f}
use Rattle.limits.specs.Limits.{exact_index}
use Rattle.row_smoothing.proofs.Laws.{smoothed-length}
use Rattle.row_record.specs.declared.ImPeak1D.{ImPeak1D}
use Rattle.row_spans.specs.Span.{span_of}
use Rattle.rt_record.specs.RtRecord.{rt_words, rt_peak_from, rt_peak_at, apex_from, rt_peak_of}
use Rattle.rt_record.specs.declared.RtApex.{RtApex}
use Rattle.rt_record.specs.declared.RtPeak1D.{RtPeak1D}
use Rattle.expand_placed.specs.Placed.{in_run, bounds_in, placed}
use Rattle.expand_placed.specs.PlacedLaws.{InFrames}
use Rattle.expand_placed.proofs.Laws.{sample-most, placed-inside}
use Rattle.rt_laws.proofs.RtAccount.{rt-account, qualifying-are}
use Rattle.sort_digits.proofs.SortedLaws.{at-index}
use Rattle.rt_params.specs.declared.RtExpandParams.{RtExpandParams}
use Rattle.rt_apex.specs.InTime.{local_peak_of}
use Rattle.std.specs.Prelude.{Some, None}
use Rattle.rt_fallback.specs.Fallback.{top_of, centroid, apex_of, bounds_of, fallback_of}
use Rattle.expand_trace.specs.declared.inner.Way.{Way}
use Rattle.expand_trace.specs.declared.inner.Way.TheVariants.{AllZero, TooShort, Smoothed}
use Rattle.expand_trace.specs.Trace.{way_of}
use Rattle.expand_trace.specs.FallbackPeaks.{apexes_in, placed_all, fallback_peaks, peak_words}
use Rattle.expand_trace.proofs.Peaks.{placed-length}
use Rattle.expand_one.proofs.Laws.{trace-length}
use Rattle.expand_peak.specs.Expanded.{Run, floor_of, searched, or_else, by_way, searched_peaks, peaks_over}
use Rattle.expand_laws.specs.ExpandAccount.{apex_frame, InWindow, raw_over, smooth_over, times_over, listed_over}
use Rattle.expand_laws.proofs.Words.{words-behind, placed_at}
use Rattle.std.proofs.lemmas.List.{get_or-map}
use Rattle.rt_apex.proofs.Laws.{local-index}

-- any apex
abbrev pub some_apex : RtApex
some_apex = (local_peak_of [] [] [] 0).apex

module _ (run : Run) (e : RtExpandParams) (ws : List Float) (p : ImPeak1D) (lo hi first : ℕ) where
  abbrev x : List Float
  x = raw_over run e p lo hi

  abbrev y : List Float
  y = smooth_over run e ws p lo hi

  abbrev t : List Float
  t = times_over run lo hi

  abbrev listed : List ℕ
  listed = listed_over run e ws p lo hi

  abbrev pub searched_apexes : List RtApex
  searched_apexes = map (λ i. (local_peak_of y x t i).apex) listed

  -- peaks that are these apexes of the trace
  pub record Placing (ps : List RtPeak1D) (apexes : List RtApex) : Type 0 where
    pub are : ps ≡ placed_all lo (length x) run.ids p apexes first
    pub low : (k : ℕ) → k < length apexes → (get_or apexes k some_apex).rt_idx < length x

  -- or some
  pub record Placed (ps : List RtPeak1D) : Type 0 where
    pub apexes : List RtApex
    pub placing : Placing ps apexes

  -- those of a search: listed apexes are places of the trace
  place-lt : (k : ℕ) → k < length listed → get_or listed k 0 < length x
  unfolding searched
  place-lt k h =
      let i = get_or listed k 0 in
      let account = rt-account (floor_of e y) e.min_sep_sec e.min_width_sec y x t in
      let q = (qualifying-are (floor_of e y) e.min_width_sec y x t i).0 (account.listed-qualify i (at-index listed k h)) in
      let high = q.candidate.high in
      let n = smoothed-length ws x in
      omega arith

  pub search-placing : Placing (searched_peaks run e ws p lo hi x first) searched_apexes
  unfolding searched_peaks
  search-placing =
      record {
        are = refl;
        low = λ k h.
            let n : k < length listed = subst (λ (m : ℕ). k < m) (length-map listed (λ i. (local_peak_of y x t i).apex)) h in
            subst (λ (m : ℕ). m < length x) (sym (ap (λ (a : RtApex). a.rt_idx) (get_or-map (λ i. (local_peak_of y x t i).apex) listed k 0 some_apex n) ∙ local-index y x t (get_or listed k 0))) (place-lt k n);
      }

  module _ (some : 0 < length x) (few : length x ≤ exact_index) where
    abbrev fallen : List RtPeak1D
    fallen = fallback_peaks x lo run.ids run.times p e.fallback_frac_width first

    -- the fallback's
    fall-placing : Placed fallen
    unfolding fallback_peaks fallback_of apex_of rt_peak_of apexes_in
    fall-placing = go (le (top_of x).height 𝟎)
      where
        q : RtPeak1D
        q = let top = top_of x in let s = span_of x x (e.fallback_frac_width ⊗ top.height) top.place in rt_peak_of (apex_of x run.times top s) (bounds_of run.ids p s.left s.right) p first

        only : (k : ℕ) → k < 1 → (get_or (q.apex ∷ []) k some_apex).rt_idx < length x
        only zero h = sample-most (length x) (floor_f (centroid x (top_of x).place)) some few
        only (suc k) h = absurd (omega arith)

        go : (b : Bool) → Placed (placed_all lo (length x) run.ids p (apexes_in (cond b None (Some q))) first)
        go true = record { apexes = []; placing = record { are = refl; low = λ k h. absurd (omega arith) } }
        go false = record { apexes = q.apex ∷ []; placing = record { are = refl; low = only } }

    -- whichever way is taken
    way-placing : (way : Way) (found : List RtPeak1D) → Placed found → Placed (by_way way fallen found)
    unfolding by_way or_else placed_all
    way-placing AllZero found a = record { apexes = []; placing = record { are = refl; low = λ k h. absurd (omega arith) } }
    way-placing TooShort found a = fall-placing
    way-placing Smoothed [] a = fall-placing
    way-placing Smoothed (q ∷ found) a = a

    pub over-placing : Placed (peaks_over run e ws p lo hi first)
    unfolding peaks_over
    over-placing =
        way-placing (way_of x e.fallback_if_frames_lt) (searched_peaks run e ws p lo hi x first) (record { apexes = searched_apexes; placing = search-placing })

  -- ---- as records
  module _ (ps : List RtPeak1D) (apexes : List RtApex) (g : Placing ps apexes) (front rest out : List ℕ) (from count : ℕ) (long : length front ≡ from * 22) (counted : count ≡ length ps) (words : out ≡ front ++ (peak_words ps ++ rest)) where
    apex-count : count ≡ length apexes
    apex-count = counted ∙ ap length g.are ∙ placed-length lo (length x) run.ids p apexes first

    abbrev apex_at : ℕ → RtApex
    apex_at k = get_or apexes k some_apex

    -- the peak at place k
    abbrev pub placed_for : ℕ → RtPeak1D
    placed_for k = placed lo (length x) run.ids p (apex_at k) (first + k)

    word-at : (k j : ℕ) → k < count → j < 22 → get_or out ((from + k) * 22 + j) 0 ≡ get_or (rt_words (placed_for k)) j 0
    word-at k j h l =
        ap (λ (w : List ℕ). get_or w ((from + k) * 22 + j) 0) words
        ∙ words-behind front ps rest from k j (placed_for k) long (omega (arith, counted)) l
        ∙ ap (λ (qs : List RtPeak1D). get_or (rt_words (get_or qs k (placed_for k))) j 0) g.are
        ∙ ap (λ (q : RtPeak1D). get_or (rt_words q) j 0) (placed_at lo (length x) run.ids p apexes first k some_apex (placed_for k) (omega (arith, apex-count)))

    -- its fields
    pub frame_is : (k : ℕ) → k < count → apex_frame out (from + k) ≡ lo + (apex_at k).rt_idx
    unfolding rt_peak_from apex_from placed rt_peak_of in_run
    frame_is k h = word-at k 0 h (lit< tt)

    pub time_is : (k : ℕ) → k < count → (rt_peak_at out (from + k)).apex.rt_sec ≡ of_bits binary32 (word (apex_at k).rt_sec)
    unfolding rt_peak_from apex_from placed rt_peak_of in_run
    time_is k h = ap (of_bits binary32) (word-at k 1 h (lit< tt))

    pub first-is : (k : ℕ) → k < count → (rt_peak_at out (from + k)).rt_lo ≡ (placed_for k).rt_lo
    unfolding rt_peak_from rt_peak_of
    first-is k h = word-at k 10 h (lit< tt)

    pub last-is : (k : ℕ) → k < count → (rt_peak_at out (from + k)).rt_hi ≡ (placed_for k).rt_hi
    unfolding rt_peak_from rt_peak_of
    last-is k h = word-at k 11 h (lit< tt)

    pub parent-is : (k : ℕ) → k < count → (rt_peak_at out (from + k)).parent_im_id ≡ p.id
    unfolding rt_peak_from rt_peak_of placed
    parent-is k h = word-at k 20 h (lit< tt)

    pub identity-is : (k : ℕ) → k < count → (rt_peak_at out (from + k)).id ≡ first + k
    unfolding rt_peak_from rt_peak_of placed
    identity-is k h = word-at k 21 h (lit< tt)

    abbrev number_of : ℕ → ℕ
    number_of i = get_or run.ids i 0

    low-is : (k : ℕ) → k < count → (rt_peak_at out (from + k)).frame_id_lo ≡ min (number_of (placed_for k).rt_lo) (number_of (placed_for k).rt_hi)
    unfolding rt_peak_from rt_peak_of placed bounds_in
    low-is k h = word-at k 12 h (lit< tt)

    high_is : (k : ℕ) → k < count → (rt_peak_at out (from + k)).frame_id_hi ≡ max (number_of (placed_for k).rt_lo) (number_of (placed_for k).rt_hi)
    unfolding rt_peak_from rt_peak_of placed bounds_in
    high_is k h = word-at k 13 h (lit< tt)

    -- it lies in the window
    pub in_window : 0 < length x → length x ≤ exact_index → (k : ℕ) → k < count → InWindow run lo hi (rt_peak_at out (from + k))
    in_window some few k h =
        let low = g.low k (omega (arith, apex-count)) in
        let q = placed-inside lo (length x) run.ids p (apex_at k) (first + k) some few low in
        let n = trace-length run e p lo hi in
        let frame = frame_is k h in
        record {
          inside = record {
            apex = record { low = omega arith; high = omega arith };
            first = subst (InFrames lo (hi + 1 - lo)) (sym (first-is k h)) (subst (λ (m : ℕ). InFrames lo m (placed_for k).rt_lo) n q.first);
            last = subst (InFrames lo (hi + 1 - lo)) (sym (last-is k h)) (subst (λ (m : ℕ). InFrames lo m (placed_for k).rt_hi) n q.last);
          };
          low-number = rw (first-is k h, last-is k h) (low-is k h);
          high-number = rw (first-is k h, last-is k h) (high_is k h);
        }
