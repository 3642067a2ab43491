-- The records of a mobility peak stand by time on the ordinary path: the listed apexes of the window's trace do.
use mathlib.Core.Path.{◌≡◌, refl, sym, ◌∙◌, subst}
use mathlib.Core.Bool.{true}
use mathlib.Core.List.{List}
use Prim.Native.Nat.{ℕ, ◌+◌, ◌-◌, ◌≤◌, ◌<◌}
use native.Mathlib.Omega.{arith}
use lib.Dec.{T}
use lib.ListN.{length, get_or, take, drop, length-drop}
use lib.Seq.{get_or-take, get_or-drop, length-take-le}
use lib.Ieee.{Float, nan, binary32, fits, of_bits}
use lib.Ieee.Bits.{of_bits-to_bits}
use Rattle.limits.specs.Limits.{max_frames, max_seconds}
use Rattle.numeric.specs.Numeric.{all_in_range}
use Rattle.numeric.specs.Plain.{word, AllFit}
use Rattle.numeric.proofs.Patterns.{all_take, all_drop}
use Rattle.row_smoothing.specs.Smoothing.{sound_weights}
use Rattle.row_record.specs.declared.ImPeak1D.{ImPeak1D}
use Rattle.rt_params.specs.declared.RtExpandParams.{RtExpandParams}
use Rattle.rt_apex.specs.InTime.{apex_time, local_peak_of}
use Rattle.sort_digits.proofs.SortedLaws.{at-index}
use Rattle.rt_laws.specs.TimesInOrder.{Times, ListedByTime, InTime}
use Rattle.rt_laws.proofs.TimesInOrder.{in-time, in-places}
use Rattle.expand_one.specs.Steps.{Followed}
use Rattle.expand_one.proofs.Laws.{trace-at-most}
use Rattle.expand_peak.specs.Expanded.{Run, floor_of, searched}
use Rattle.expand_laws.specs.ExpandAccount.{raw_over, smooth_over, times_over, listed_over}

-- the time of an apex
pub apex-time-is : (y z t : List Float) (i : ℕ) → (local_peak_of y z t i).apex.rt_sec ≡ apex_time y t i
unfolding local_peak_of
apex-time-is y z t i = refl

-- a part of a list of binary32 values holds no others
cut-fits : (n lo : ℕ) (t : List Float) → n ≤ length t - lo → AllFit t → AllFit (take n (drop lo t))
cut-fits n lo t h f i k =
    let l : length (take n (drop lo t)) ≡ n = length-take-le n (drop lo t) (rw (length-drop lo t) h) in
    subst (λ (x : Float). T (fits binary32 x)) (sym (get_or-take n (drop lo t) i nan (omega arith) ∙ get_or-drop lo t i nan)) (f (lo + i) (omega arith))

module _ (run : Run) (e : RtExpandParams) (ws : List Float) (p : ImPeak1D) (lo hi : ℕ) (f : Followed run e) (sound : sound_weights ws ≡ true)
    (up : lo ≤ hi) (within : hi < length run.ids) (short : length run.ids ≤ max_frames) (timed : all_in_range max_seconds run.times ≡ true)
    (fit : AllFit run.index.readings) (wfit : AllFit ws) (tfit : AllFit run.times) where
  abbrev x : List Float
  x = raw_over run e p lo hi

  abbrev y : List Float
  y = smooth_over run e ws p lo hi

  abbrev t : List Float
  t = times_over run lo hi

  abbrev listed : List ℕ
  listed = listed_over run e ws p lo hi

  times : Times t
  times =
      let a = f.axis in
      let h : hi + 1 - lo ≤ length run.times - lo = omega arith in
      let l : length t ≡ hi + 1 - lo = length-take-le (hi + 1 - lo) (drop lo run.times) (rw (length-drop lo run.times) h) in
      record {
        few = omega arith;
        ranged = all_take max_seconds (hi + 1 - lo) (drop lo run.times) (all_drop max_seconds lo run.times timed);
        held = cut-fits (hi + 1 - lo) lo run.times h tfit;
      }

  by-time : ListedByTime (floor_of e y) e.min_sep_sec e.min_width_sec y x t
  by-time = in-time (floor_of e y) e.min_sep_sec e.min_width_sec y x t (λ k h. (trace-at-most run e ws p lo hi f fit wfit sound up within k h).0) times

  -- of `count` records that bear the words of the apex times
  module _ (time : ℕ → Float) (count : ℕ) (counted : count ≡ length listed) (bears : (k : ℕ) → k < count → time k ≡ of_bits binary32 (word (apex_time y t (get_or listed k 0)))) where
    pub times-are : (k : ℕ) → k < count → time k ≡ apex_time y t (get_or listed k 0)
    unfolding searched
    times-are k h = bears k h ∙ of_bits-to_bits binary32 (apex_time y t (get_or listed k 0)) (by-time.clear (get_or listed k 0) (at-index listed k (omega arith))).held

    pub records-in-time : InTime time count
    unfolding searched
    records-in-time = in-places (floor_of e y) e.min_sep_sec e.min_width_sec y x t by-time time count counted times-are
