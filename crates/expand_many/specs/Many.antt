-- The retention peaks of many mobility peaks over a run: those of one after another, each expanded as it would be alone.
use Rattle.std.specs.Prelude.{List, [], ◌++◌, map, ℕ, zero, suc, ◌+◌, length, get_or, take, drop, Float}
use Rattle.row_record.specs.Record.{peak_at}
use Rattle.rt_params.specs.declared.RtExpandParams.{RtExpandParams}
use Rattle.rt_record.specs.declared.RtPeak1D.{RtPeak1D}
use Rattle.sort_digits.specs.Sorted.{up_to}
use Rattle.expand_peak.specs.Expanded.{Run, expanded}

-- what is handed in: a run, parameters, the words of a list of mobility peaks, the weights of all of them joined, how many weights
-- each peak has, and the first identity
pub record Many : Type 0 where
  pub run : Run
  pub params : RtExpandParams
  pub list : List ℕ
  pub weights : List Float
  pub lengths : List ℕ
  pub first : ℕ

abbrev pub many_of : Run → RtExpandParams → List ℕ → List Float → List ℕ → ℕ → Many
many_of run params list weights lengths first =
    record { run = run; params = params; list = list; weights = weights; lengths = lengths; first = first }

-- the sum of the first k of a list of lengths
unfoldable pub sum_to : List ℕ → ℕ → ℕ
sum_to lengths zero = 0
sum_to lengths (suc k) = sum_to lengths k + get_or lengths k 0

-- the weights of the peak at place k: its own, behind those of the peaks before it
unfoldable pub weights_at : Many → ℕ → List Float
weights_at m k = take (get_or m.lengths k 0) (drop (sum_to m.lengths k) m.weights)

-- the retention peaks of the peak at place k alone, with identities from `id` on
abbrev pub expanded_at : Many → ℕ → ℕ → List RtPeak1D
expanded_at m k id = expanded m.run m.params (weights_at m k) (peak_at m.list k) id

-- the retention peaks of the first k peaks, joined, with identities that run on over the joined list
unfoldable pub joined_to : Many → ℕ → List RtPeak1D
joined_to m zero = []
joined_to m (suc k) = joined_to m k ++ expanded_at m k (m.first + length (joined_to m k))

-- how many of them are of the peak at place k, and that for each of the first n
abbrev pub count_of : Many → ℕ → ℕ
count_of m k = length (expanded_at m k (m.first + length (joined_to m k)))

abbrev pub counts_to : Many → ℕ → List ℕ
counts_to m n = map (count_of m) (up_to n)
