-- How many retention peaks a mobility peak can have.
use mathlib.Core.Path.{◌≡◌, refl, ap, ◌∙◌}
use mathlib.Core.Bool.{Bool, true, false, cond}
use mathlib.Core.List.{List, [], ◌∷◌, map}
use Prim.Native.Nat.{ℕ, suc, ◌≤◌, ◌<◌, max}
use native.Mathlib.Omega.{arith}
use lib.ListN.{length, length-map, length-reverse}
use lib.Ieee.{Float}
use Rattle.row_smoothing.specs.Smoothing.{smoothed}
use Rattle.row_smoothing.proofs.Laws.{smoothed-length}
use Rattle.row_params.specs.Params.{most_peaks}
use Rattle.row_record.specs.declared.ImPeak1D.{ImPeak1D}
use Rattle.row_search.specs.Qualifying.{qualifying, kept}
use Rattle.row_search.proofs.Account.{all-kept}
use Rattle.row_search.proofs.QualifyingLaws.{qualifying-ascend, kept-count}
use Rattle.expand_padded_window.specs.declared.Frames.{Frames}
use Rattle.std.specs.Prelude.{Option, Some, None}
use Rattle.expand_padded_window.proofs.Laws.{window-in}
use Rattle.rt_choice.specs.Chosen.{passing}
use Rattle.rt_choice.specs.Ranking.{inserted_by, ordered_by}
use Rattle.rt_choice.specs.Times.{near_in_time}
use Rattle.rt_choice.proofs.ChosenLaws.{chosen-few, passing-few}
use Rattle.rt_apex.specs.InTime.{apex_time, local_peak_of}
use Rattle.rt_search.specs.Retention.{asks, is_wide, rt_qualifying, higher_first, earlier_first, chosen_apexes, has_shares, listed_apexes}
use Rattle.rt_params.specs.declared.RtExpandParams.{RtExpandParams}
use Rattle.rt_record.specs.declared.RtPeak1D.{RtPeak1D}
use Rattle.rt_fallback.specs.Fallback.{fallback_of}
use Rattle.expand_window.specs.Window.{cut}
use Rattle.expand_trace.specs.declared.inner.Way.{Way}
use Rattle.expand_trace.specs.declared.inner.Way.TheVariants.{AllZero, TooShort, Smoothed}
use Rattle.expand_trace.specs.Trace.{trace_over, way_of}
use Rattle.expand_trace.specs.FallbackPeaks.{apexes_in, fallback_peaks}
use Rattle.expand_trace.proofs.Peaks.{placed-length}
use Rattle.expand_peak.specs.Expanded.{Run, floor_of, searched, searched_peaks, or_else, by_way, peaks_over, peaks_in, window_in, expanded}
use Rattle.expand_one.specs.Steps.{most}
use Rattle.expand_one.proofs.Laws.{trace-length}

-- ---- a search

inserted-length : (first : ℕ → ℕ → Bool) (i : ℕ) (l : List ℕ) → length (inserted_by first i l) ≡ suc (length l)
unfolding inserted_by
inserted-length first i [] = refl
inserted-length first i (j ∷ l) = go (first j i) (inserted-length first i l)
  where
    go : (b : Bool) → length (inserted_by first i l) ≡ suc (length l) → length (cond b (j ∷ inserted_by first i l) (i ∷ (j ∷ l))) ≡ suc (suc (length l))
    go true h = ap suc h
    go false h = refl

ordered-length : (first : ℕ → ℕ → Bool) (l : List ℕ) → length (ordered_by first l) ≡ length l
unfolding ordered_by
ordered-length first [] = refl
ordered-length first (i ∷ l) = inserted-length first i (ordered_by first l) ∙ ap suc (ordered-length first l)

qualifying-few : (floor : Float) (y z : List Float) → length (qualifying (asks floor) y z) ≤ most_peaks (length y)
unfolding kept
qualifying-few floor y z =
    let qs = qualifying (asks floor) y z in
    let k : length (kept (asks floor) y z) ≡ length qs = ap length (all-kept 0 y qs (omega arith) (qualifying-ascend (asks floor) y z)) ∙ length-reverse qs in
    let c = kept-count (asks floor) y z in
    omega arith

pub listed-few : (floor sep min_width : Float) (y z t : List Float) → length (listed_apexes floor sep min_width y z t) ≤ most_peaks (length y)
unfolding listed_apexes chosen_apexes rt_qualifying
listed-few floor sep min_width y z t =
    let qs = qualifying (asks floor) y z in
    let ws = rt_qualifying floor min_width y z t in
    let cs = chosen_apexes floor sep min_width y z t in
    let a = qualifying-few floor y z in
    let b = passing-few (is_wide min_width y t) qs in
    let c = ordered-length (higher_first y) ws in
    let d = chosen-few (near_in_time (apex_time y t) sep) (ordered_by (higher_first y) ws) in
    let f = passing-few (has_shares y z cs) cs in
    let g = ordered-length (earlier_first y t) (passing (has_shares y z cs) cs) in
    omega (arith, a, b, c, d, f, g)

-- ---- a mobility peak

pub fallback-few : (x : List Float) (lo : ℕ) (ids : List ℕ) (times : List Float) (p : ImPeak1D) (frac : Float) (id : ℕ) → length (fallback_peaks x lo ids times p frac id) ≤ 1
unfolding fallback_peaks apexes_in
fallback-few x lo ids times p frac id =
    let f = fallback_of x ids times p frac id in
    let e = placed-length lo (length x) ids p (apexes_in f) id in
    let l = go f in
    omega arith
  where
    go : (f : Option RtPeak1D) → length (apexes_in f) ≤ 1
    go None = omega arith
    go (Some q) = omega arith

searched-few : (run : Run) (e : RtExpandParams) (ws : List Float) (p : ImPeak1D) (lo hi : ℕ) (x : List Float) (first : ℕ) → length (searched_peaks run e ws p lo hi x first) ≤ most_peaks (length x)
unfolding searched_peaks searched
searched-few run e ws p lo hi x first =
    let y = smoothed ws x in
    let t = cut lo hi run.times in
    let is = listed_apexes (floor_of e y) e.min_sep_sec e.min_width_sec y x t in
    let a = placed-length lo (length x) run.ids p (map (λ i. (local_peak_of y x t i).apex) is) first in
    let b = length-map is (λ i. (local_peak_of y x t i).apex) in
    let c = listed-few (floor_of e y) e.min_sep_sec e.min_width_sec y x t in
    let d = smoothed-length ws x in
    omega (arith, a, b, c, d)

way-few : (way : Way) (fallen found : List RtPeak1D) (n : ℕ) → length fallen ≤ 1 → length found ≤ n → length (by_way way fallen found) ≤ max 1 n
unfolding by_way or_else
way-few AllZero fallen found n f g = omega arith
way-few TooShort fallen found n f g = omega arith
way-few Smoothed fallen [] n f g = omega arith
way-few Smoothed fallen (q ∷ found) n f g = omega arith

over-few : (run : Run) (e : RtExpandParams) (ws : List Float) (p : ImPeak1D) (lo hi first : ℕ) → lo ≤ hi → hi < length run.ids → length (peaks_over run e ws p lo hi first) ≤ most (length run.ids)
unfolding peaks_over
over-few run e ws p lo hi first h k =
    let x = trace_over run.index run.scale e.bin_pad p lo hi in
    let l = trace-length run e p lo hi in
    let w = way-few (way_of x e.fallback_if_frames_lt)
    (fallback_peaks x lo run.ids run.times p e.fallback_frac_width first) (searched_peaks run e ws p lo hi x first) (most_peaks (length x))
    (fallback-few x lo run.ids run.times p e.fallback_frac_width first) (searched-few run e ws p lo hi x first) in
    omega (arith, w, l, h, k)

-- no more than a search of the whole run could have, or one
pub expanded-few : (run : Run) (e : RtExpandParams) (ws : List Float) (p : ImPeak1D) (first : ℕ) → p.frame_id_lo ≤ p.frame_id_hi → length (expanded run e ws p first) ≤ most (length run.ids)
unfolding expanded peaks_in
expanded-few run e ws p first h = go (window_in run e p) refl
  where
    go : (w : Option Frames) → w ≡ window_in run e p → length (peaks_in run e ws p first w) ≤ most (length run.ids)
    go None s = omega arith
    go (Some w) s =
        let i = window-in run.ids p.frame_id_lo p.frame_id_hi e.rt_pad_frames w.lo w.hi h s in
        over-few run e ws p w.lo w.hi first i.0 i.1
