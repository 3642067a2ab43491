-- What the C entry of the traces of a list of peaks answers: 64 times the count of peaks, or the number.
use Rattle.std.specs.Prelude.{◌≡◌, cond, List, ℕ, eqb, Float, Result, Ok, Err}
use Rattle.refusal.specs.declared.Refusal.{Refusal}
use Rattle.refusal.specs.Answers.{answer_by}
use Rattle.refusal.specs.NumberedLaws.{refusal_of}
use Rattle.frames_many_traces.specs.ManyTraces.{Call, peaks_in, number_for}
use Rattle.frames_many_traces.specs.ManyTraces as many
use Rattle.c_word.specs.Word.{word_of, itself, Told}

-- the answer of `rt_traces_for_im_peaks_by_bounds`: the count of peaks, or the number
abbrev pub answer_to : Call → List Float → List ℕ → Result ℕ Refusal
answer_to c out windows = cond (eqb (number_for c out windows) 0) (Ok (peaks_in c)) (Err (refusal_of (number_for c out windows)))

abbrev pub many_word : Call → List Float → List ℕ → ℕ
many_word c out windows = word_of itself (answer_by (number_for c out windows) (peaks_in c))

-- The word, and what the two lists hold then: the same as `rt_traces_for_im_peaks_by_bounds` leaves in them.
pub record Answered (c : Call) (out₀ : List Float) (windows₀ : List ℕ) (out : List Float) (windows : List ℕ) (r : ℕ) : Type 0 where
  pub word : r ≡ many_word c out₀ windows₀
  pub lists : many.Answered c out₀ windows₀ out windows (answer_to c out₀ windows₀)

-- the word tells the number and the count of peaks: `many-told` in proofs/SumWords.antt
abbrev pub ManyTold : Type 0
ManyTold = (c : Call) (out : List Float) (windows : List ℕ) → Told (number_for c out windows) (peaks_in c) (many_word c out windows)
