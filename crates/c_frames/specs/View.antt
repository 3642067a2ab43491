-- What the C entry of a frame's part of an index answers: 64 times the count of bins, or the number.
use Rattle.std.specs.Prelude.{◌≡◌, cond, ℕ, eqb, Result, Ok, Err}
use Rattle.refusal.specs.declared.Refusal.{Refusal}
use Rattle.refusal.specs.Answers.{answer_by}
use Rattle.refusal.specs.NumberedLaws.{refusal_of}
use Rattle.frames_bins.specs.declared.inner.Counts.{Counts}
use Rattle.frames_view.specs.Answer.{Frame, Lent, number_for, counts_of}
use Rattle.frames_view.specs.Answer as view
use Rattle.c_word.specs.Word.{word_of, Told}

-- the answer of `build_frame_bin_view`: the counts of bins and of points, or the number
abbrev pub answer_to : Frame → Lent → Result Counts Refusal
answer_to f lent = cond (eqb (number_for f lent) 0) (Ok (counts_of f)) (Err (refusal_of (number_for f lent)))

-- Of the two counts the word has that of the bins. That of the points is told by the last offset, which is `base` and that count.
abbrev pub bins_in : Counts → ℕ
bins_in counts = counts.bins

-- the word of a frame
abbrev pub view_word : Frame → Lent → ℕ
view_word f lent = word_of bins_in (answer_by (number_for f lent) (counts_of f))

-- The word, and what the seven lists hold then: the same as `build_frame_bin_view` leaves in them.
pub record Answered (f : Frame) (was is : Lent) (r : ℕ) : Type 0 where
  pub word : r ≡ view_word f was
  pub lists : view.Answered f was is (answer_to f was)

-- the word tells the number and the count of bins: `view-told` in proofs/ViewWords.antt
abbrev pub ViewTold : Type 0
ViewTold = (f : Frame) (was : Lent) → Told (number_for f was) (counts_of f).bins (view_word f was)
