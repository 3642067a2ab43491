-- Expansion's second call: which number it is answered with, and what is left of it.
use Rattle.std.specs.Prelude.{Result, ◌≡◌, ◌&&◌, List, [], ◌∷◌, ◌++◌, ℕ, ◌*◌, ◌/◌, ◌%◌, leb, eqb, length, drop, Float}
use Rattle.refusal.specs.Answers.{answer_by}
use Rattle.limits.specs.Limits.{max_reading, max_list}
use Rattle.row_record.specs.Record.{size, peak_at, all_sound}
use Rattle.tof_scale.specs.Tof.{sound_ends, agreeing}
use Rattle.frames_index.specs.declared.numbers.Further.{Further}
use Rattle.frames_index.specs.IndexNumber.{index_number}
use Rattle.rt_params.specs.declared.RtExpandParams.{RtExpandParams}
use Rattle.rt_record.specs.RtRecord.{rt_size}
use Rattle.rt_record.specs.declared.RtPeak1D.{RtPeak1D}
use Rattle.expand_trace.specs.FallbackPeaks.{peak_words}
use Rattle.expand_peak.specs.Expanded.{Run, expanded}
use Rattle.expand_one.specs.Steps.{most}
use Rattle.expand_many.specs.Many.{Many, many_of, joined_to, counts_to}
use Rattle.expand_numbers.specs.ExpandNumber.{paired_axes, sums_to, all_weights, sound_values, rising_axes, enough_room, enough_scratch}
use Rattle.refusal.specs.Numbered.{says}
use Rattle.refusal.specs.declared.Refusal.{Refusal}

-- the frames of a run
abbrev pub frames_of : Run → ℕ
frames_of run = length run.ids

-- the lent lists: one for the retention peaks, and three of scratch
pub record Lent : Type 0 where
  pub out : List ℕ
  pub raw : List Float
  pub smooth : List Float
  pub order : List ℕ

abbrev pub lent_of : List ℕ → List Float → List Float → List ℕ → Lent
lent_of out raw smooth order = record { out = out; raw = raw; smooth = smooth; order = order }

-- scratch past the frames of a run is what it was
pub record PastKept (n : ℕ) (was is : Lent) : Type 0 where
  pub raw : drop n is.raw ≡ drop n was.raw
  pub smooth : drop n is.smooth ≡ drop n was.smooth
  pub order : drop n is.order ≡ drop n was.order

-- ---- many mobility peaks

-- how many records a list of words has
abbrev pub peaks_in : Many → ℕ
peaks_in m = length m.list / size

-- What a call is asked besides its index, with the lent lists and the length of the column of counts. 1: whole records, a length a peak,
-- lengths that add up to the weights, and a frame number and a time a frame. 2: at most 65,536 peaks.
unfoldable pub many_asks : Many → Lent → ℕ → Further
many_asks m lent counts =
    let n = peaks_in m in
    let run = m.run in
    let f = frames_of run in
    record {
      lengths = eqb (length m.list % size) 0 && eqb (length m.lengths) n && sums_to m.lengths (length m.weights) && paired_axes (length run.index.starts) f (length run.times);
      sizes = leb n max_list;
      values = sound_values m.params run.scale.tof_step run.times m.first n (most f);
      axes = sound_ends run.scale;
      weights = all_weights m.lengths m.weights;
      order = rising_axes run.ids run.times;
      records = all_sound m.list n;
      room = enough_room n (most f) (length lent.out) && leb n counts;
      scratch = enough_scratch f (length lent.raw) (length lent.smooth) (length lent.order);
      scale = agreeing run.scale;
    }

-- the number, for readings up to 2^32
abbrev pub many_number : Many → Lent → ℕ → ℕ
many_number m lent counts = index_number max_reading m.run.index (many_asks m lent counts)

-- What the lists hold after the call was accepted: the words of the joined retention peaks at the front of `out`, a count a mobility peak
-- at the front of the column, and past that what they held.
pub record ManyWritten (m : Many) (was is : Lent) (counts₀ counts : List ℕ) : Type 0 where
  pub words : is.out ≡ peak_words (joined_to m (peaks_in m)) ++ drop (length (joined_to m (peaks_in m)) * rt_size) was.out
  pub column : counts ≡ counts_to m (peaks_in m) ++ drop (peaks_in m) counts₀
  pub past : PastKept (frames_of m.run) was is

-- The answer, and what the lists hold then. Accepted, with number 0: what is written. Refused: all as it was.
pub record ManyAnswered (m : Many) (was is : Lent) (counts₀ counts : List ℕ) (answer : Result ℕ Refusal) : Type 0 where
  pub answered : says answer ≡ answer_by (many_number m was (length counts₀)) (length (joined_to m (peaks_in m)))
  pub accepted : many_number m was (length counts₀) ≡ 0 → ManyWritten m was is counts₀ counts
  pub refused : (many_number m was (length counts₀) ≡ 0 → ⊥) → (is ≡ was) × (counts ≡ counts₀)

-- ---- one mobility peak

-- the call for a list of that peak alone
abbrev pub alone : Run → RtExpandParams → List ℕ → List Float → ℕ → Many
alone run e peak ws first = many_of run e peak ws (length ws ∷ []) first

-- Its number. 1: not one record. All others as for many peaks.
abbrev pub one_number : Run → RtExpandParams → List ℕ → List Float → ℕ → Lent → ℕ
one_number run e peak ws first lent = many_number (alone run e peak ws first) lent 1

-- the retention peaks of the peak whose words are handed in
abbrev pub peaks_of : Run → RtExpandParams → List ℕ → List Float → ℕ → List RtPeak1D
peaks_of run e peak ws first = expanded run e ws (peak_at peak 0) first

-- What the lists hold after the call was accepted.
pub record OneWritten (run : Run) (ps : List RtPeak1D) (was is : Lent) : Type 0 where
  pub words : is.out ≡ peak_words ps ++ drop (length ps * rt_size) was.out
  pub past : PastKept (frames_of run) was is

-- The answer, and what the lists hold then.
pub record OneAnswered (run : Run) (e : RtExpandParams) (peak : List ℕ) (ws : List Float) (first : ℕ) (was is : Lent) (answer : Result ℕ Refusal) : Type 0 where
  pub answered : says answer ≡ answer_by (one_number run e peak ws first was) (length (peaks_of run e peak ws first))
  pub accepted : one_number run e peak ws first was ≡ 0 → OneWritten run (peaks_of run e peak ws first) was is
  pub refused : (one_number run e peak ws first was ≡ 0 → ⊥) → is ≡ was
