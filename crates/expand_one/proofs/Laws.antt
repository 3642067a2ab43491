-- A smoothed trace holds numbers alone, and what following it asks.
use mathlib.Core.Path.{◌≡◌, refl, sym, ap, ◌∙◌, subst}
use mathlib.Core.Bool.{true}
use mathlib.Core.List.{List, ◌++◌}
use Prim.Native.Nat.{ℕ, ◌≤◌, ◌<◌, ◌+◌, ◌-◌, ◌*◌, ◌^◌}
use native.Mathlib.Omega.{arith}
use lib.Dec.{lit<, lit≤}
use lib.ListN.{length, take, drop, length-drop}
use lib.Seq.{length-take-le, take_at}
use lib.Ieee.{Float, of_bits}
use Rattle.limits.specs.Limits.{any_number}
use Rattle.numeric.specs.Arith.{at}
use Rattle.numeric.specs.Numeric.{all_in_range}
use Rattle.numeric.specs.Plain.{AllFit}
use Rattle.numeric.proofs.Bounds.{one, mag, AtMost, limit_f, in-at-most, all-range, num-plain}
use Rattle.numeric.proofs.Patterns.{range_at}
use Rattle.row_smoothing.specs.Smoothing.{smoothed, sound_weights}
use Rattle.row_smoothing.proofs.InRange.{AllAtMost, smoothed-at-most}
use Rattle.row_smoothing.proofs.Laws.{sound-count}
use Rattle.row_params.specs.Params.{most_peaks}
use Rattle.row_record.specs.declared.ImPeak1D.{ImPeak1D}
use Rattle.frames_sums.specs.Sums.{frame_sums}
use Rattle.frames_sums.proofs.Laws.{sums-length}
use Rattle.frames_sums.proofs.InRange.{unit, sums-at-most}
use Rattle.frames_windows.specs.Windows.{peak_window}
use Rattle.rt_params.specs.declared.RtExpandParams.{RtExpandParams}
use Rattle.expand_trace.specs.Trace.{trace_over}
use Rattle.expand_trace.specs.FallbackPeaks.{Put}
use Rattle.expand_trace.proofs.Peaks.{put-start}
use Rattle.std.specs.Prelude.{Some, None}
use Rattle.expand_window.specs.Window.{cut}
use Rattle.expand_peak.specs.Expanded.{Run, searched_peaks, peaks_over, peaks_in, window_in, expanded}
use Rattle.expand_peak.specs.Steps.{followed, Followable}
use Rattle.expand_one.specs.Steps.{max_summed, Followed, Expandable}

-- 2 ^ 58
mag-summed : mag (limit_f max_summed) ≡ one * 2 ^ 58
unfolding mag one of_bits
mag-summed = refl

-- the trace over the frames lo to hi: sums of 2 ^ 24 readings at most, so below 2 ^ 82, and smoothed likewise
pub trace-at-most : (run : Run) (e : RtExpandParams) (ws : List Float) (p : ImPeak1D) (lo hi : ℕ) → Followed run e → AllFit run.index.readings → AllFit ws → sound_weights ws ≡ true
    → lo ≤ hi → hi < length run.ids
    → AllAtMost (smoothed ws (trace_over run.index run.scale e.bin_pad p lo hi)) (one * 2 ^ 82)
unfolding trace_over
trace-at-most run e ws p lo hi f fit wfit sound h k =
    let ix = run.index in
    let frames = f.frames in
    let read : (i : ℕ) → i < length ix.readings → AtMost (at ix.readings i) (unit 58) =
    λ i l. subst (AtMost (at ix.readings i)) mag-summed (in-at-most max_summed (at ix.readings i) (lit< tt) (fit i l) (range_at max_summed ix.readings i f.readings l)) in
    let x = frame_sums ix (peak_window run.scale e.bin_pad p) lo (hi + 1 - lo) in
    let sums = sums-at-most ix (peak_window run.scale e.bin_pad p) 58 (lit≤ tt) read f.index f.few-points lo (hi + 1 - lo) (omega arith) in
    smoothed-at-most 82 (lit≤ tt) ws x sound wfit sums

pub trace-numbers : (run : Run) (e : RtExpandParams) (ws : List Float) (p : ImPeak1D) (lo hi : ℕ) → Followed run e → AllFit run.index.readings → AllFit ws → sound_weights ws ≡ true
    → lo ≤ hi → hi < length run.ids
    → all_in_range any_number (smoothed ws (trace_over run.index run.scale e.bin_pad p lo hi)) ≡ true
trace-numbers run e ws p lo hi f fit wfit sound h k =
    let y = smoothed ws (trace_over run.index run.scale e.bin_pad p lo hi) in
    all-range any_number y (λ i l. (num-plain (at y i) (trace-at-most run e ws p lo hi f fit wfit sound h k i l).0).ranged)

pub trace-length : (run : Run) (e : RtExpandParams) (p : ImPeak1D) (lo hi : ℕ) → length (trace_over run.index run.scale e.bin_pad p lo hi) ≡ hi + 1 - lo
unfolding trace_over
trace-length run e p lo hi = sums-length run.index (peak_window run.scale e.bin_pad p) lo (hi + 1 - lo)

-- the trace stands at the front of scratch
pub trace-front : (run : Run) (e : RtExpandParams) (p : ImPeak1D) (lo hi n : ℕ) (was is : List Float) → n ≡ hi + 1 - lo
    → is ≡ trace_over run.index run.scale e.bin_pad p lo hi ++ drop (hi + 1 - lo) was → take n is ≡ trace_over run.index run.scale e.bin_pad p lo hi
trace-front run e p lo hi n was is k h =
    let x = trace_over run.index run.scale e.bin_pad p lo hi in
    ap (take n) h ∙ take_at x (drop (hi + 1 - lo) was) n (trace-length run e p lo hi ∙ sym k)

-- what following it asks
pub followable : {first out samples : ℕ} (run : Run) (e : RtExpandParams) (ws : List Float) (p : ImPeak1D) (lo hi : ℕ) (x t : List Float)
    → Followed run e → Expandable run ws p first out → length run.ids ≤ samples → AllFit run.index.readings → AllFit ws
    → lo ≤ hi → hi < length run.ids → x ≡ trace_over run.index run.scale e.bin_pad p lo hi → t ≡ cut lo hi run.times
    → Followable x t ws lo run.ids run.times first out samples
followable run e ws p lo hi x t f s room fit wfit h k is cuts =
    let n : length x ≡ hi + 1 - lo = ap length is ∙ trace-length run e p lo hi in
    let axis = f.axis in
    let short = f.short in
    let m : length t ≡ hi + 1 - lo = ap length cuts ∙ length-take-le (hi + 1 - lo) (drop lo run.times) (rw (length-drop lo run.times) (omega arith)) in
    let named = s.named in
    let wide = s.room in
    let few : most_peaks (length x) ≤ most_peaks (length run.ids) = omega arith in
    record {
      some = omega arith;
      axis = axis;
      one = omega arith;
      search = record {
        numbers = rw is (trace-numbers run e ws p lo hi f fit wfit s.weights h k);
        few-weights = sound-count ws s.weights;
        cut = m ∙ sym n;
        frames = omega arith;
        short = short;
        named = omega arith;
        room = omega arith;
        search = omega arith;
      };
    }

-- the peaks over the frames are those of the trace
pub put-over : (run : Run) (e : RtExpandParams) (ws : List Float) (p : ImPeak1D) (lo hi first : ℕ) {was is : List ℕ} {n : ℕ} (x t : List Float)
    → x ≡ trace_over run.index run.scale e.bin_pad p lo hi → t ≡ cut lo hi run.times
    → Put (followed e ws run.ids run.times p lo x t first) was n is → Put (peaks_over run e ws p lo hi first) was n is
unfolding peaks_over searched_peaks
put-over run e ws p lo hi first {was = was} {is = is} {n = n} x t h k put =
    subst (λ (v : List Float). Put (followed e ws run.ids run.times p lo v (cut lo hi run.times) first) was n is) h
    (subst (λ (v : List Float). Put (followed e ws run.ids run.times p lo x v first) was n is) k put)

-- the peaks in a window
pub put-frames : (run : Run) (e : RtExpandParams) (ws : List Float) (p : ImPeak1D) (first lo hi : ℕ) {was is : List ℕ} {n : ℕ} → Some (record { lo = lo; hi = hi }) ≡ window_in run e p
    → Put (peaks_over run e ws p lo hi first) was n is → Put (expanded run e ws p first) was n is
unfolding expanded peaks_in
put-frames run e ws p first lo hi h put = rw (← h) put

pub put-no-frames : (run : Run) (e : RtExpandParams) (ws : List Float) (p : ImPeak1D) (first : ℕ) (was : List ℕ) → None ≡ window_in run e p → Put (expanded run e ws p first) was 0 was
unfolding expanded peaks_in
put-no-frames run e ws p first was h = rw (← h) (put-start was)
