-- What expanding many mobility peaks asks, and what it leaves.
use Rattle.std.specs.Prelude.{◌≡◌, true, List, ◌++◌, ℕ, ◌+◌, ◌-◌, ◌*◌, ◌≤◌, ◌<◌, length, take, drop, Float}
use Rattle.limits.specs.Limits.{identities}
use Rattle.row_smoothing.specs.Smoothing.{sound_weights}
use Rattle.row_record.specs.Record.{size, peak_at}
use Rattle.rt_record.specs.RtRecord.{rt_size}
use Rattle.rt_record.specs.declared.RtPeak1D.{RtPeak1D}
use Rattle.expand_trace.specs.FallbackPeaks.{peak_words, Put}
use Rattle.expand_peak.specs.Expanded.{Run}
use Rattle.expand_one.specs.Steps.{most, Followed, Expandable}
use Rattle.expand_many.specs.Many.{Many, sum_to, weights_at, joined_to, counts_to}

-- The first n peaks can be expanded, with `out` words for the retention peaks and `counts` words for their counts.
pub record Ready (m : Many) (n out counts : ℕ) : Type 0 where
  pub run : Followed m.run m.params
  pub weights : (k : ℕ) → k < n → sound_weights (weights_at m k) ≡ true
  pub numbers : (k : ℕ) → k < n → (peak_at m.list k).frame_id_lo ≤ (peak_at m.list k).frame_id_hi
  pub peaks : n * size ≤ length m.list
  pub lengths : n ≤ length m.lengths
  pub joined : sum_to m.lengths n ≤ length m.weights
  pub named : m.first + n * most (length m.run.ids) ≤ identities
  pub room : n * most (length m.run.ids) * rt_size ≤ out
  pub counted : n ≤ counts

-- what is left: the joined retention peaks of the first n peaks, r of them, at the front of one list, and a count a peak at the
-- front of another
pub record Done (m : Many) (n : ℕ) (out counts : List ℕ) (r : ℕ) (out₁ counts₁ : List ℕ) : Type 0 where
  pub peaks : Put (joined_to m n) out r out₁
  pub counted : counts₁ ≡ counts_to m n ++ drop n counts

-- ---- one of them

-- The peak at place i can be expanded with the `len` weights from `at` on, behind the first `total` peaks of `out` words.
pub record Reachable (run : Run) (list : List ℕ) (i : ℕ) (weights : List Float) (at len first total out : ℕ) : Type 0 where
  pub there : i * size + size ≤ length list
  pub weighed : at + len ≤ length weights
  pub behind : total * rt_size ≤ out
  pub peak : Expandable run (take len (drop at weights)) (peak_at list i) first (out - total * rt_size)

-- r peaks that were written behind the first `total`
pub record PutBehind (ps : List RtPeak1D) (was : List ℕ) (total r : ℕ) (is : List ℕ) : Type 0 where
  pub count : r ≡ length ps
  pub words : is ≡ take (total * rt_size) was ++ (peak_words ps ++ drop (total * rt_size + r * rt_size) was)
