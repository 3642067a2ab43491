-- What the C entry of a trace's retention peaks answers: 64 times their count, or the number.
use Rattle.std.specs.Prelude.{◌≡◌, cond, List, ℕ, eqb, length, Result, Ok, Err}
use Rattle.refusal.specs.Answers.{answer_by}
use Rattle.refusal.specs.NumberedLaws.{refusal_of}
use Rattle.refusal.specs.declared.Refusal.{Refusal}
use Rattle.rt_peaks.specs.Trace.{RtCall, peaks_of, number_for}
use Rattle.rt_peaks.specs.Trace as retention
use Rattle.c_word.specs.Word.{word_of, itself, Told}

-- the answer of `find_rt_peaks`: the count of peaks, or the number
abbrev pub answer_to : RtCall → List ℕ → List ℕ → Result ℕ Refusal
answer_to c out scratch = cond (eqb (number_for c out scratch) 0) (Ok (length (peaks_of c))) (Err (refusal_of (number_for c out scratch)))

abbrev pub search_word : RtCall → List ℕ → List ℕ → ℕ
search_word c out scratch = word_of itself (answer_by (number_for c out scratch) (length (peaks_of c)))

-- The word, and what the two lists hold then: the same as `find_rt_peaks` leaves in them.
pub record Answered (c : RtCall) (out₀ out scratch₀ scratch : List ℕ) (r : ℕ) : Type 0 where
  pub word : r ≡ search_word c out₀ scratch₀
  pub lists : retention.Answered c out₀ out scratch₀ scratch (answer_to c out₀ scratch₀)

-- the word tells the number and the count of peaks: `search-told` in proofs/SearchWords.antt
abbrev pub SearchTold : Type 0
SearchTold = (c : RtCall) (out scratch : List ℕ) → Told (number_for c out scratch) (length (peaks_of c)) (search_word c out scratch)
