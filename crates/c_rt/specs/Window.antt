-- What the C entry of expansion's first call answers: 64 for a window and 0 for none, or the number. The window is written to a lent list
-- as three words: its first frame, its last, and the bit pattern of sigma.
use Rattle.std.specs.Prelude.{◌≡◌, cond, List, [], ◌∷◌, ◌++◌, ℕ, ◌<◌, eqb, ltb, length, drop, Option, Some, None, Float}
use Rattle.std.specs.Float.{binary32}
use Rattle.std.specs.Float.Ieee.{to_bits}
use Rattle.refusal.specs.Refusal.{Check, Lowest}
use Rattle.refusal.specs.Answers.{answer_by}
use Rattle.row_record.specs.Record.{peak_at}
use Rattle.rt_params.specs.declared.RtExpandParams.{RtExpandParams}
use Rattle.expand_window.specs.declared.inner.RtWindow.{RtWindow}
use Rattle.expand_window.specs.Window.{window_of, window_checks, window_number}
use Rattle.c_word.specs.Word.{word_of, Told}

-- the words of a window, and the count of windows
unfoldable pub window_words : Option RtWindow → List ℕ
window_words (Some w) = w.frames.lo ∷ w.frames.hi ∷ to_bits binary32 w.sigma ∷ []
window_words None = []

unfoldable pub window_count : Option RtWindow → ℕ
window_count (Some w) = 1
window_count None = 0

-- ---- the number

-- The checks of the first call, and that the list has room for a window: 20, whether there is one or not.
abbrev pub call_checks : List ℕ → List ℕ → List Float → RtExpandParams → ℕ → List Check
call_checks peak ids times e room = window_checks peak ids times e ++ (record { number = 20; applies = ltb room 3 } ∷ [])

-- which comes to: the number n of the first call, and where that is 0, number 20 if the list is too short
abbrev pub number_in : ℕ → ℕ → ℕ
number_in n room = cond (eqb n 0) (cond (ltb room 3) 20 0) n

abbrev pub call_number : List ℕ → List ℕ → List Float → RtExpandParams → ℕ → ℕ
call_number peak ids times e room = number_in (window_number peak ids times e) room

-- it is the lowest that applies: `call-lowest` in proofs/WindowWords.antt
abbrev pub CallLowest : Type 0
CallLowest =
    (peak ids : List ℕ) (times : List Float) (e : RtExpandParams) (room : ℕ) → 0 < call_number peak ids times e room
    → Lowest (call_checks peak ids times e room) (call_number peak ids times e room)

-- ---- the answer

abbrev pub call_word : List ℕ → List ℕ → List Float → RtExpandParams → ℕ → ℕ
call_word peak ids times e room = word_of window_count (answer_by (call_number peak ids times e room) (window_of ids times e (peak_at peak 0)))

-- a lent list with a window at its front, or as it was where there is none
abbrev pub with_window : List ℕ → Option RtWindow → List ℕ
with_window was w = window_words w ++ drop (length (window_words w)) was

-- what the lent list holds then; refused, it is as it was
abbrev pub list_after : List ℕ → List ℕ → List Float → RtExpandParams → List ℕ → List ℕ
list_after peak ids times e was = cond (eqb (call_number peak ids times e (length was)) 0) (with_window was (window_of ids times e (peak_at peak 0))) was

-- The word, and the lent list.
pub record Answered (peak ids : List ℕ) (times : List Float) (e : RtExpandParams) (was is : List ℕ) (r : ℕ) : Type 0 where
  pub word : r ≡ call_word peak ids times e (length was)
  pub out : is ≡ list_after peak ids times e was

-- the word tells the number and whether there is a window: `call-told` in proofs/WindowWords.antt
abbrev pub CallTold : Type 0
CallTold =
    (peak ids : List ℕ) (times : List Float) (e : RtExpandParams) (room : ℕ)
    → Told (call_number peak ids times e room) (window_count (window_of ids times e (peak_at peak 0))) (call_word peak ids times e room)
