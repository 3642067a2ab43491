-- The records of a mobility peak bear the listed apexes of the window's trace, on the ordinary path, and lie in its window on every path.
use mathlib.Core.Path.{◌≡◌, refl, sym, ap, ◌∙◌, subst}
use mathlib.Core.Bool.{Bool, true, false, cond}
use mathlib.Core.List.Memᴰ
use mathlib.Core.List.{List, [], ◌∷◌, ◌++◌, map}
use mathlib.Core.Logic.{⊎_elim}
use Prim.Native.Nat.{ℕ, suc, ◌≤◌, ◌<◌, ◌+◌, ◌-◌, ◌*◌, ◌^◌}
use native.Mathlib.Nat.{lt_of_le_of_lt}
use native.Mathlib.Omega.{arith}
use lib.ListN.{length, get_or, length-map, length-append}
use borrow.Author.Tests.{ltb-false}
use lib.Dec.{ltb, lit<}
use lib.Ieee.{Float, binary32, of_bits}
use Rattle.limits.specs.Limits.{max_frames, max_seconds, exact_index}
use Rattle.std.proofs.Common.{le-ltb}
use Rattle.refusal.proofs.Bools.{clash}
use Rattle.numeric.specs.Arith.{at}
use Rattle.numeric.specs.Numeric.{all_in_range}
use Rattle.numeric.specs.Plain.{word, AllFit}
use Rattle.numeric.proofs.Bounds.{one, mag, Num}
use Rattle.row_smoothing.specs.Smoothing.{sound_weights}
use Rattle.row_smoothing.proofs.Laws.{smoothed-length}
use Rattle.row_record.specs.declared.ImPeak1D.{ImPeak1D}
use Rattle.row_apex.specs.Apex.{is_candidate}
use Rattle.frames_windows.specs.Windows.{peak_window}
use Rattle.rt_search.specs.Retention.{rt_qualifying}
use Rattle.expand_laws.proofs.Zeros.{none-above}
use Rattle.row_search.specs.Account.{◌∈◌}
use Rattle.row_search.specs.Qualifying.{left_x, right_x}
use Rattle.row_laws.proofs.Enclosed.{left_at, right-at}
use Rattle.row_laws.proofs.Scans.{left-sample, right-sample}
use Rattle.rt_record.specs.RtRecord.{rt_peak_at, rt_peak_of}
use Rattle.rt_record.specs.declared.RtApex.{RtApex}
use Rattle.rt_record.specs.declared.RtPeak1D.{RtPeak1D}
use Rattle.expand_placed.specs.Placed.{bounds_in, placed}
use Rattle.std.specs.Prelude.{Option, Some, None}
use Rattle.expand_padded_window.specs.declared.Frames.{Frames}
use Rattle.expand_padded_window.proofs.Laws.{window-in}
use Rattle.rt_laws.specs.RtAccount.{RtAccounted}
use Rattle.rt_laws.proofs.RtAccount.{rt-account, qualifying-are}
use Rattle.sort_digits.proofs.SortedLaws.{at-index}
use Rattle.expand_many.proofs.Few.{fallback-few}
use Rattle.rt_params.specs.declared.RtExpandParams.{RtExpandParams}
use Rattle.rt_apex.specs.InTime.{apex_time, local_peak_of}
use Rattle.expand_trace.specs.declared.inner.Way.{Way}
use Rattle.expand_trace.specs.declared.inner.Way.TheVariants.{AllZero, TooShort, Smoothed}
use Rattle.expand_trace.specs.Trace.{trace_over, any_above, way_of}
use Rattle.expand_trace.specs.FallbackPeaks.{fallback_peaks, peak_words}
use Rattle.expand_trace.proofs.Peaks.{placed-length, words-length}
use Rattle.expand_one.specs.Steps.{max_summed, Followed}
use Rattle.expand_one.proofs.Laws.{trace-length, trace-at-most}
use Rattle.expand_peak.specs.Expanded.{Run, floor_of, searched, or_else, by_way, searched_peaks, peaks_over, peaks_in, window_in, expanded}
use Rattle.expand_laws.specs.ExpandAccount.{apex_frame, Borne, Encloses, ExpandAccounted, PeakAccounted, raw_over, smooth_over, times_over, listed_over, Ordinary}
use Rattle.expand_laws.proofs.Placing.{some_apex, Placing, search-placing, over-placing, frame_is, time_is, first-is, last-is, identity-is, parent-is, in_window}
use Rattle.expand_laws.proofs.Times.{apex-time-is, times-are, records-in-time}
use Rattle.std.proofs.lemmas.List.{get_or-map}
use Rattle.rt_apex.proofs.Laws.{local-index}

-- where a member stands
pub record Stands (l : List ℕ) (i : ℕ) : Type 0 where
  pub k : ℕ
  pub low : k < length l
  pub is : get_or l k 0 ≡ i

pub index_of : (l : List ℕ) (i : ℕ) → i ∈ l → Stands l i
index_of [] i m = absurd (Memᴰ.not-nil m)
index_of (j ∷ l) i m =
    ⊎_elim
    (λ (e : i ≡ j). record { k = 0; low = omega arith; is = sym e })
    (λ n. let r = index_of l i n in record { k = suc r.k; low = omega (arith, r.low); is = r.is })
    (Memᴰ.cases_cons m)

small : one * 2 ^ 82 < 2 ^ 253
unfolding one
small = lit< tt

-- a trace that is searched is not too short for it
abbrev is_smoothed : Way → Bool
is_smoothed AllZero = false
is_smoothed TooShort = false
is_smoothed Smoothed = true

way-long : (x : List Float) (least : ℕ) → Smoothed ≡ way_of x least → least ≤ length x
unfolding way_of
way-long x least h = go (any_above x) (ltb (length x) least) refl h
  where
    go : (b c : Bool) → ltb (length x) least ≡ c → Smoothed ≡ cond b (cond c TooShort Smoothed) AllZero → least ≤ length x
    go true true e h = clash true refl (ap is_smoothed h)
    go true false e h = ltb-false (length x) least e
    go false c e h = clash true refl (ap is_smoothed h)

-- ---- the ordinary path
module _ (run : Run) (e : RtExpandParams) (ws : List Float) (p : ImPeak1D) (first lo hi : ℕ) where
  abbrev x : List Float
  x = raw_over run e p lo hi

  abbrev y : List Float
  y = smooth_over run e ws p lo hi

  abbrev t : List Float
  t = times_over run lo hi

  abbrev listed : List ℕ
  listed = listed_over run e ws p lo hi

  abbrev found : List RtPeak1D
  found = searched_peaks run e ws p lo hi x first

  found-count : length found ≡ length listed
  unfolding searched_peaks
  found-count =
      placed-length lo (length x) run.ids p (map (λ i. (local_peak_of y x t i).apex) listed) first ∙ length-map listed (λ i. (local_peak_of y x t i).apex)

  -- no apex qualifies where no reading is above 0
  none-qualify : all_in_range max_summed run.index.readings ≡ true → any_above x ≡ false → (i : ℕ) → i ∈ rt_qualifying (floor_of e y) e.min_width_sec y x t → ⊥
  unfolding trace_over
  none-qualify readings none i m =
      let q = (qualifying-are (floor_of e y) e.min_width_sec y x t i).0 m in
      let no = none-above max_summed run.index (peak_window run.scale e.bin_pad p) lo (hi + 1 - lo) ws i (lit< tt) readings none in
      clash (is_candidate y i) q.candidate.is no

  -- so an apex is listed only where one is
  some-above : all_in_range max_summed run.index.readings ≡ true → 0 < length listed → any_above x ≡ true
  unfolding searched
  some-above readings some = go (any_above x) refl
    where
      go : (b : Bool) → any_above x ≡ b → b ≡ true
      go true is = refl
      go false is =
          absurd
          (none-qualify readings is (get_or listed 0 0)
          ((rt-account (floor_of e y) e.min_sep_sec e.min_width_sec y x t).listed-qualify (get_or listed 0 0) (at-index listed 0 some)))

  -- the peaks are those of the search
  peaks-are : all_in_range max_summed run.index.readings ≡ true → Ordinary run e ws p lo hi → expanded run e ws p first ≡ found
  unfolding expanded peaks_in peaks_over by_way or_else way_of
  peaks-are readings o =
      let long : ltb (length x) e.fallback_if_frames_lt ≡ false = le-ltb (length x) e.fallback_if_frames_lt (omega (arith, o.long, trace-length run e p lo hi)) in
      rw (← o.window, some-above readings o.some, long) (go found (subst (λ (n : ℕ). 0 < n) (sym found-count) o.some))
    where
      go : (l : List RtPeak1D) → 0 < length l → or_else l (fallback_peaks x lo run.ids run.times p e.fallback_frac_width first) ≡ l
      go [] h = absurd (omega arith)
      go (a ∷ l) h = refl

  account : RtAccounted (floor_of e y) e.min_sep_sec e.min_width_sec y x t
  account = rt-account (floor_of e y) e.min_sep_sec e.min_width_sec y x t

  module _ (front rest out : List ℕ) (from count : ℕ) (long : length front ≡ from * 22) (counted : count ≡ length found) (words : out ≡ front ++ (peak_words found ++ rest)) where
    count-is : count ≡ length listed
    count-is = counted ∙ found-count

    abbrev apexes : List RtApex
    apexes = map (λ i. (local_peak_of y x t i).apex) listed

    abbrev g : Placing run e ws p lo hi first found apexes
    g = search-placing run e ws p lo hi first

    -- record k is that of the k-th listed apex
    apex-is : (k : ℕ) → k < count → get_or apexes k some_apex ≡ (local_peak_of y x t (get_or listed k 0)).apex
    apex-is k h = get_or-map (λ i. (local_peak_of y x t i).apex) listed k 0 some_apex (omega (arith, count-is))

    frame_at : (k : ℕ) → k < count → apex_frame out (from + k) ≡ lo + get_or listed k 0
    frame_at k h =
        frame_is run e ws p lo hi first found apexes g front rest out from count long counted words k h
        ∙ ap (λ (a : RtApex). lo + a.rt_idx) (apex-is k h)
        ∙ ap (λ (i : ℕ). lo + i) (local-index y x t (get_or listed k 0))

    -- and its time
    time_at : (k : ℕ) → k < count → (rt_peak_at out (from + k)).apex.rt_sec ≡ of_bits binary32 (word (apex_time y t (get_or listed k 0)))
    time_at k h =
        time_is run e ws p lo hi first found apexes g front rest out from count long counted words k h
        ∙ ap (λ (a : RtApex). of_bits binary32 (word a.rt_sec)) (apex-is k h)
        ∙ ap (λ (s : Float). of_bits binary32 (word s)) (apex-time-is y x t (get_or listed k 0))

    -- an apex has a record exactly if it is listed
    borne : (i : ℕ) → Borne out from count (lo + i) → i ∈ listed
    borne i b =
        let k = b.place in
        let frame = frame_at k b.among in
        let same = b.bears in
        let e : get_or listed k 0 ≡ i = omega (arith, frame, same) in
        subst (λ (j : ℕ). j ∈ listed) e (at-index listed k (omega (arith, count-is, b.among)))

    bears : (i : ℕ) → i ∈ listed → Borne out from count (lo + i)
    bears i m =
        let r = index_of listed i m in
        let h : r.k < count = omega (arith, count-is, r.low) in
        record { place = r.k; among = h; bears = frame_at r.k h ∙ ap (λ (j : ℕ). lo + j) r.is }

    -- the crossings enclose an apex, so that the frames next to them do
    module _ (f : Followed run e) (sound : sound_weights ws ≡ true) (up : lo ≤ hi) (within : hi < length run.ids) (short : length run.ids ≤ max_frames) (timed : all_in_range max_seconds run.times ≡ true) where
      bounds : AllFit run.index.readings → AllFit ws → (i id : ℕ) → i < length x
          → ((placed lo (length x) run.ids p (local_peak_of y x t i).apex id).rt_lo ≤ lo + i)
          × (lo + i ≤ (placed lo (length x) run.ids p (local_peak_of y x t i).apex id).rt_hi)
      unfolding placed rt_peak_of bounds_in local_peak_of
      bounds fit wfit i id h =
          let most = trace-at-most run e ws p lo hi f fit wfit sound up within in
          let same : length y ≡ length x = smoothed-length ws x in
          let size = trace-length run e p lo hi in
          let n : length y ≤ 16384 = omega (arith, same, size, within, short) in
          let inside : i < length y = omega (arith, same, h) in
          let nums : (k : ℕ) → k < length y → Num (at y k) = λ k l. (most k l).0 in
          let under : (k : ℕ) → k < length y → mag (at y k) < 2 ^ 253 = λ k l. lt_of_le_of_lt (most k l).1 small in
          let L = left_at y nums under n i inside in
          let R = right-at y nums under n i inside in
          let a = left-sample (length y) i inside n (left_x y i) (right_x y i) L R in
          let b = right-sample (length y) i inside n (left_x y i) (right_x y i) L R in
          rw (← same) (omega arith, omega (arith, b.0))

      enclosed : AllFit run.index.readings → AllFit ws → (k : ℕ) → k < count → Encloses (rt_peak_at out (from + k))
      enclosed fit wfit k h =
          let i = get_or listed k 0 in
          let is : (get_or apexes k some_apex).rt_idx ≡ i = ap (λ (a : RtApex). a.rt_idx) (apex-is k h) ∙ local-index y x t i in
          let low : i < length x = subst (λ (m : ℕ). m < length x) is (g.low k (omega (arith, count-is, length-map listed (λ i. (local_peak_of y x t i).apex), h))) in
          let b = bounds fit wfit i (first + k) low in
          let frame = frame_at k h in
          let l = first-is run e ws p lo hi first found apexes g front rest out from count long counted words k h ∙ ap (λ (a : RtApex). (placed lo (length x) run.ids p a (first + k)).rt_lo) (apex-is k h) in
          let r = last-is run e ws p lo hi first found apexes g front rest out from count long counted words k h ∙ ap (λ (a : RtApex). (placed lo (length x) run.ids p a (first + k)).rt_hi) (apex-is k h) in
          record { low = omega (arith, l, b.0, frame); high = omega (arith, r, b.1, frame) }

      accounted : ExpandAccounted run e ws p lo hi from count out
      unfolding searched
      accounted =
          record {
            counted = count-is;
            frames = frame_at;
            apexes = account;
            missing = λ i m.
                let a = account.missing i m in
                ((λ none. a.0 (λ l. none (bears i l))), (λ why. λ b. a.1 why (borne i b)));
            ordered = enclosed;
            times = λ fit wfit tfit. times-are run e ws p lo hi f sound up within short timed fit wfit tfit (λ k. (rt_peak_at out (from + k)).apex.rt_sec) count count-is time_at;
            by-time = λ fit wfit tfit. records-in-time run e ws p lo hi f sound up within short timed fit wfit tfit (λ k. (rt_peak_at out (from + k)).apex.rt_sec) count count-is time_at;
          }

  -- ---- another path
  not-ordinary : Some (record { lo = lo; hi = hi }) ≡ window_in run e p → (Ordinary run e ws p lo hi → ⊥) → length (peaks_over run e ws p lo hi first) ≤ 1
  unfolding peaks_over by_way or_else
  not-ordinary w other = go (way_of x e.fallback_if_frames_lt) refl found refl
    where
      go : (way : Way) → way ≡ way_of x e.fallback_if_frames_lt → (l : List RtPeak1D) → l ≡ found
          → length (by_way way (fallback_peaks x lo run.ids run.times p e.fallback_frac_width first) l) ≤ 1
      go AllZero s l is = omega arith
      go TooShort s l is = fallback-few x lo run.ids run.times p e.fallback_frac_width first
      go Smoothed s [] is = fallback-few x lo run.ids run.times p e.fallback_frac_width first
      go Smoothed s (q ∷ l) is =
          absurd (other (record { window = w; long = omega (arith, way-long x e.fallback_if_frames_lt s, trace-length run e p lo hi); some = omega (arith, ap length is, found-count) }))

  -- and without a reading above 0 there is no peak
  none-over : any_above x ≡ false → length (peaks_over run e ws p lo hi first) ≡ 0
  unfolding peaks_over by_way way_of
  none-over none = rw none refl

-- ---- every path
module _ (run : Run) (e : RtExpandParams) (ws : List Float) (p : ImPeak1D) (first : ℕ)
    (f : Followed run e) (sound : sound_weights ws ≡ true) (numbers : p.frame_id_lo ≤ p.frame_id_hi) (short : length run.ids ≤ max_frames) (timed : all_in_range max_seconds run.times ≡ true)
    (front rest out : List ℕ) (from count : ℕ) (long : length front ≡ from * 22)
    (counted : count ≡ length (expanded run e ws p first)) (words : out ≡ front ++ (peak_words (expanded run e ws p first) ++ rest)) where
  no-window : None ≡ window_in run e p → count ≡ 0
  unfolding expanded peaks_in
  no-window w = counted ∙ rw (← w) refl

  over-is : (lo hi : ℕ) → Some (record { lo = lo; hi = hi }) ≡ window_in run e p → expanded run e ws p first ≡ peaks_over run e ws p lo hi first
  unfolding expanded peaks_in
  over-is lo hi w = rw (← w) refl

  all_there : (from + count) * 22 ≤ length out
  all_there =
      let ps = expanded run e ws p first in
      let l : length out ≡ length front + (length (peak_words ps) + length rest) = ap length words ∙ length-append front (peak_words ps ++ rest) ∙ ap (λ (n : ℕ). length front + n) (length-append (peak_words ps) rest) in
      omega (arith, l, long, counted, words-length ps)

  -- identities and parents, whichever way was taken
  named : (k : ℕ) → k < count → ((rt_peak_at out (from + k)).id ≡ first + k) × ((rt_peak_at out (from + k)).parent_im_id ≡ p.id)
  named k h = go (window_in run e p) refl
    where
      go : (w : Option Frames) → w ≡ window_in run e p → ((rt_peak_at out (from + k)).id ≡ first + k) × ((rt_peak_at out (from + k)).parent_im_id ≡ p.id)
      go None is = absurd (omega (arith, no-window is, h))
      go (Some w) is =
          let lo = w.lo in
          let hi = w.hi in
          let i = window-in run.ids p.frame_id_lo p.frame_id_hi e.rt_pad_frames lo hi numbers is in
          let n = trace-length run e p lo hi in
          let over = over-is lo hi is in
          let g = over-placing run e ws p lo hi first (omega (arith, n, i.0)) (omega (arith, n, i.1, short)) in
          let counted_over = counted ∙ ap length over in
          let words_over = words ∙ ap (λ (ps : List RtPeak1D). front ++ (peak_words ps ++ rest)) over in (
            identity-is run e ws p lo hi first (peaks_over run e ws p lo hi first) g.apexes g.placing front rest out from count long counted_over words_over k h,
            parent-is run e ws p lo hi first (peaks_over run e ws p lo hi first) g.apexes g.placing front rest out from count long counted_over words_over k h,
          )

  pub peak-accounted : PeakAccounted run e ws p first from count out
  peak-accounted =
      record {
        records = all_there;
        identities = named;
        none = no-window;
        window = λ lo hi w.
            let i = window-in run.ids p.frame_id_lo p.frame_id_hi e.rt_pad_frames lo hi numbers w in
            let n = trace-length run e p lo hi in
            let some : 0 < length (raw_over run e p lo hi) = omega (arith, n, i.0) in
            let few : length (raw_over run e p lo hi) ≤ exact_index = omega (arith, n, i.1, short) in
            let over = over-is lo hi w in
            let g = over-placing run e ws p lo hi first some few in
            in_window run e ws p lo hi first (peaks_over run e ws p lo hi first) g.apexes g.placing front rest out from count long
            (counted ∙ ap length over) (words ∙ ap (λ (ps : List RtPeak1D). front ++ (peak_words ps ++ rest)) over) some few;
        ordinary = λ lo hi o.
            let i = window-in run.ids p.frame_id_lo p.frame_id_hi e.rt_pad_frames lo hi numbers o.window in
            let are = peaks-are run e ws p first lo hi f.readings o in
            accounted run e ws p first lo hi front rest out from count long (counted ∙ ap length are) (words ∙ ap (λ (ps : List RtPeak1D). front ++ (peak_words ps ++ rest)) are)
            f sound i.0 i.1 short timed;
        none-above = λ lo hi w none. (counted ∙ ap length (over-is lo hi w) ∙ none-over run e ws p first lo hi none, none-qualify run e ws p first lo hi f.readings none);
        fallback = λ lo hi w other. omega (arith, counted, ap length (over-is lo hi w), not-ordinary run e ws p first lo hi w other);
      }
