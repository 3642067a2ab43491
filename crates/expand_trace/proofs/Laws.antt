-- Traces value by value, and where the fallback's apex lies.
use mathlib.Core.Path.{◌≡◌, refl, sym, ap, ◌∙◌}
use mathlib.Core.Bool.{Bool, true, false, cond, ◌||◌}
use mathlib.Core.List.{List, [], ◌∷◌, ◌++◌, append-nil}
use Prim.Native.Nat.{ℕ, ◌≤◌, ◌<◌}
use Rattle.std.proofs.Math.Bool.{or-false, or_assoc}
use native.Mathlib.Omega.{arith}
use lib.ListN.{length, drop}
use Rattle.std.specs.List.{fold}
use lib.Ieee.{Float, lt, le}
use Rattle.limits.specs.Limits.{exact_index}
use Rattle.numeric.specs.Arith.{𝟎}
use Rattle.rounding.specs.Rounding.{floor_f}
use Rattle.row_record.specs.declared.ImPeak1D.{ImPeak1D}
use Rattle.rt_record.specs.RtRecord.{rt_size, rt_words, rt_peak_of}
use Rattle.rt_record.specs.declared.RtPeak1D.{RtPeak1D}
use Rattle.expand_placed.specs.Placed.{placed}
use Rattle.expand_placed.proofs.Laws.{sample-most}
use Rattle.std.specs.Prelude.{Option, Some, None}
use Rattle.rt_fallback.specs.Fallback.{top_of, centroid, apex_of, fallback_of}
use Rattle.expand_trace.specs.Trace.{any_above}
use Rattle.expand_trace.specs.FallbackPeaks.{apexes_in, placed_all, fallback_peaks, peak_words, Put}

-- ---- values above 0

pub any-fold : (x : List Float) (any : Bool) → fold (λ (any : Bool) (v : Float). any || lt 𝟎 v) any x ≡ (any || any_above x)
unfolding any_above
any-fold [] any = sym (or-false any)
any-fold (v ∷ vs) any = any-fold vs (any || lt 𝟎 v) ∙ or_assoc any (lt 𝟎 v) (any_above vs)

-- ---- the fallback

-- the index of its apex is one of the trace
abbrev index_in : Option RtPeak1D → ℕ
index_in (Some p) = p.apex.rt_idx
index_in None = 0

pub fallback-inside : (x : List Float) (ids : List ℕ) (times : List Float) (p : ImPeak1D) (frac : Float) (id : ℕ) → 0 < length x → length x ≤ exact_index
    → index_in (fallback_of x ids times p frac id) < length x
unfolding fallback_of apex_of rt_peak_of
fallback-inside x ids times p frac id some few = go (le (top_of x).height 𝟎) (rt_peak_of _ _ p id) (sample-most (length x) (floor_f (centroid x (top_of x).place)) some few)
  where
    go : (b : Bool) (q : RtPeak1D) → q.apex.rt_idx < length x → index_in (cond b None (Some q)) < length x
    go true q h = some
    go false q h = h

pub peak-inside : (x : List Float) (ids : List ℕ) (times : List Float) (p : ImPeak1D) (frac : Float) (id : ℕ) (q : RtPeak1D) → 0 < length x → length x ≤ exact_index
    → Some q ≡ fallback_of x ids times p frac id → q.apex.rt_idx < length x
peak-inside x ids times p frac id q some few e = omega (arith, ap index_in e, fallback-inside x ids times p frac id some few)

module _ (x : List Float) (lo : ℕ) (ids : List ℕ) (times : List Float) (p : ImPeak1D) (frac : Float) (id : ℕ) (was : List ℕ) where
  pub put_one : (q : RtPeak1D) (is : List ℕ) → Some q ≡ fallback_of x ids times p frac id → is ≡ rt_words (placed lo (length x) ids p q.apex id) ++ drop rt_size was
      → Put (fallback_peaks x lo ids times p frac id) was 1 is
  unfolding fallback_peaks apexes_in placed_all peak_words
  put_one q is e w = rw (← e) (record { count = refl; words = w ∙ ap (λ (l : List ℕ). l ++ drop rt_size was) (sym (append-nil (rt_words (placed lo (length x) ids p q.apex id)))) })

  pub put-none : None ≡ fallback_of x ids times p frac id → Put (fallback_peaks x lo ids times p frac id) was 0 was
  unfolding fallback_peaks apexes_in placed_all peak_words
  put-none e = rw (← e) (record { count = refl; words = refl })
