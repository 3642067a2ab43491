-- The retention traces of many mobility peaks over one index.
use Rattle.std.specs.Prelude.{◌≡◌, cond, ◌&&◌, List, [], ◌++◌, ℕ, zero, suc, ◌*◌, ◌/◌, ◌%◌, leb, eqb, length, drop, Float, Result}
use Rattle.refusal.specs.declared.Refusal.{Refusal}
use Rattle.refusal.specs.Answers.{answer_by}
use Rattle.refusal.specs.Numbered.{says}
use Rattle.limits.specs.Limits.{max_reading, max_count, max_list}
use Rattle.row_record.specs.Record.{size, peak_at, all_sound}
use Rattle.tof_scale.specs.declared.TofScale.{TofScale}
use Rattle.tof_scale.specs.Tof.{sound_step, sound_ends, agreeing}
use Rattle.frames_index.specs.declared.numbers.Further.{Further}
use Rattle.frames_index.specs.FrameIndex.{Index, frames}
use Rattle.frames_index.specs.IndexNumber.{index_number, met}
use Rattle.frames_windows.specs.Windows.{peak_window}
use Rattle.frames_traces.specs.Traces.{trace_of}
use Rattle.frames_many_traces.specs.declared.numbers.Rooms.{Rooms}

-- the traces of the first n peaks of a list, one after another, each by the peak's TOF bounds and absolute scans
unfoldable pub traces_of : Index → TofScale → ℕ → List ℕ → ℕ → List Float
traces_of ix scale pad list zero = []
traces_of ix scale pad list (suc n) = traces_of ix scale pad list n ++ trace_of ix (peak_window scale pad (peak_at list n))

-- ---- numbers

-- an index, a scale, the words of a list of peaks, and the bins to take on either side of theirs
pub record Call : Type 0 where
  pub index : Index
  pub scale : TofScale
  pub list : List ℕ
  pub pad : ℕ

abbrev pub call_of : Index → TofScale → List ℕ → ℕ → Call
call_of ix scale list pad = record { index = ix; scale = scale; list = list; pad = pad }

-- how many peaks the list has, and how many sums their traces
abbrev pub peaks_in : Call → ℕ
peaks_in c = length c.list / size

abbrev pub sums_in : Call → ℕ
sums_in c = peaks_in c * frames c.index

-- What is asked besides the index. 1: whole records. 2: to 65,536 peaks. 4: a step from 1 to 65,536, a pad to 65,535. 5: the ends of the scale to
-- 4,194,303. 9: sound records. 20: room for all sums. 21: four words of scratch a peak. 22: a scale whose numbers agree.
abbrev pub many_asks : Call → Rooms → Further
many_asks c room =
    record met {
      lengths = eqb (length c.list % size) 0;
      sizes = leb (peaks_in c) max_list;
      values = sound_step c.scale.tof_step && leb c.pad max_count;
      axes = sound_ends c.scale;
      records = all_sound c.list (peaks_in c);
      room = leb (sums_in c) room.out;
      scratch = leb (4 * peaks_in c) room.windows;
      scale = agreeing c.scale;
    }

abbrev pub many_number : ℕ → Call → Rooms → ℕ
many_number limit c room = index_number limit c.index (many_asks c room)

-- ---- what is left of a call, with readings to 2^32

abbrev pub number_for : Call → List Float → List ℕ → ℕ
number_for c out windows = many_number max_reading c (record { out = length out; windows = length windows })

-- Accepted, with number 0: the traces of all peaks stand at the front, behind them what was there, and what the scratch holds before four
-- words a peak is open. Refused: all is as it was.
pub record Answered (c : Call) (out₀ : List Float) (windows₀ : List ℕ) (out : List Float) (windows : List ℕ) (answer : Result ℕ Refusal) : Type 0 where
  pub answered : says answer ≡ answer_by (number_for c out₀ windows₀) (peaks_in c)
  pub sums : out ≡ cond (eqb (number_for c out₀ windows₀) 0) (traces_of c.index c.scale c.pad c.list (peaks_in c) ++ drop (sums_in c) out₀) out₀
  pub scratch :
      drop (cond (eqb (number_for c out₀ windows₀) 0) (4 * peaks_in c) 0) windows
      ≡ drop (cond (eqb (number_for c out₀ windows₀) 0) (4 * peaks_in c) 0) windows₀
