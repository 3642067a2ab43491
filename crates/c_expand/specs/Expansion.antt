-- What the C entries of expansion answer: 64 times the count of retention peaks, or the number.
use Rattle.std.specs.Prelude.{◌≡◌, cond, List, ℕ, eqb, length, Float, Result, Ok, Err}
use Rattle.refusal.specs.declared.Refusal.{Refusal}
use Rattle.refusal.specs.Answers.{answer_by}
use Rattle.refusal.specs.NumberedLaws.{refusal_of}
use Rattle.tof_scale.specs.declared.TofScale.{TofScale}
use Rattle.rt_params.specs.declared.RtExpandParams.{RtExpandParams}
use Rattle.expand_peak.specs.Expanded.{Run}
use Rattle.expand_many.specs.Many.{Many, joined_to}
use Rattle.expand.specs.ExpandCall.{Lent, peaks_in, many_number, ManyAnswered, one_number, peaks_of, OneAnswered}
use Rattle.c_word.specs.Word.{word_of, itself, Told}

-- a scale that is handed over as four numbers
abbrev pub scale_of : ℕ → ℕ → ℕ → ℕ → TofScale
scale_of least most step bins = record { tof_min = least; tof_max = most; tof_step = step; num_bins = bins }

-- the answer with a number, or with the count of retention peaks where that is 0, and its word
abbrev pub answer_to : ℕ → ℕ → Result ℕ Refusal
answer_to number count = cond (eqb number 0) (Ok count) (Err (refusal_of number))

abbrev pub expand_word : ℕ → ℕ → ℕ
expand_word number count = word_of itself (answer_by number count)

-- ---- many mobility peaks

abbrev pub many_count : Many → ℕ
many_count m = length (joined_to m (peaks_in m))

-- The word, and what the five lists hold then: the same as `expand_many_im_peaks_along_rt` leaves in them.
pub record ManyTold (m : Many) (was is : Lent) (counts₀ counts : List ℕ) (r : ℕ) : Type 0 where
  pub word : r ≡ expand_word (many_number m was (length counts₀)) (many_count m)
  pub lists : ManyAnswered m was is counts₀ counts (answer_to (many_number m was (length counts₀)) (many_count m))

-- the word tells the number and the count: `many-told` in proofs/ExpandWords.antt
abbrev pub ManyWordTold : Type 0
ManyWordTold = (m : Many) (was : Lent) (counts : ℕ) → Told (many_number m was counts) (many_count m) (expand_word (many_number m was counts) (many_count m))

-- ---- one mobility peak

abbrev pub one_count : Run → RtExpandParams → List ℕ → List Float → ℕ → ℕ
one_count run e peak ws first = length (peaks_of run e peak ws first)

-- The word, and what the four lists hold then: the same as `expand_im_peak_along_rt` leaves in them.
pub record OneTold (run : Run) (e : RtExpandParams) (peak : List ℕ) (ws : List Float) (first : ℕ) (was is : Lent) (r : ℕ) : Type 0 where
  pub word : r ≡ expand_word (one_number run e peak ws first was) (one_count run e peak ws first)
  pub lists : OneAnswered run e peak ws first was is (answer_to (one_number run e peak ws first was) (one_count run e peak ws first))

-- the word tells the number and the count: `one_told`
abbrev pub OneWordTold : Type 0
OneWordTold =
    (run : Run) (e : RtExpandParams) (peak : List ℕ) (ws : List Float) (first : ℕ) (was : Lent)
    → Told (one_number run e peak ws first was) (one_count run e peak ws first) (expand_word (one_number run e peak ws first was) (one_count run e peak ws first))
