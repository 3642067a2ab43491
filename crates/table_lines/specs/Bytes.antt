-- What is printed for bytes, of which some are there and any may follow.
use Rattle.std.specs.Prelude.{◌≡◌, true, false, cond, List, [], ◌++◌, ℕ, ◌≤◌, ◌+◌, length, take, drop}
use Rattle.table_text.specs.declared.Progress.{Progress}
use Rattle.table_text.specs.declared.Verdict.{Verdict}
use Rattle.table_text.specs.Sizes.{line_room}
use Rattle.table_text.specs.Table.{lines, printed_from}
use Rattle.table_text.specs.Lines.{no_lf}
use Rattle.table_peak_lines.specs.TableText.{peaks_text, table_text}
use Rattle.table_lines.specs.declared.inner.Fed.{Fed}
use Rattle.table_lines.specs.Refused.{Accepted, EndedBy}

-- What is printed for bytes, from what has been accepted before them on.
abbrev pub text_from : Progress → List ℕ → List ℕ
text_from s bytes = printed_from peaks_text s (lines bytes)

-- from the start on, it is the table: `whole-text` in proofs/Laws.antt
abbrev pub WholeText : Type 0
WholeText = (bytes : List ℕ) → text_from Progress.Start bytes ≡ table_text bytes

-- what is printed for the bytes that are left: nothing behind a refusal
abbrev pub text_left : Fed → List ℕ → List ℕ
text_left f left = cond f.goes_on (text_from f.progress left) []

-- The front of the buffer `out`, which was `out₀`, has the text of the bytes before a place.
pub record Put (s : Progress) (bytes out₀ out : List ℕ) (f : Fed) : Type 0 where
  pub from : f.from ≤ length bytes
  pub used : f.used ≤ length out₀
  -- behind the text nothing has changed
  pub past : drop f.used out ≡ drop f.used out₀
  -- whatever follows the bytes, that text comes first, and then what is printed for the bytes that are left
  pub text : (rest : List ℕ) → text_from s (bytes ++ rest) ≡ take f.used out ++ text_left f (drop f.from bytes ++ rest)
  -- no text for no line
  pub idle : f.from ≡ 0 → f.used ≡ 0
  -- the bytes before that place are lines that are accepted
  pub accepted : f.goes_on ≡ true → Accepted s (take f.from bytes) f.progress
  -- but where the table has ended, the last of them is refused
  pub refused : f.goes_on ≡ false → EndedBy s (take f.from bytes) f.progress

-- With room for one line more, no line that has an end is left.
abbrev pub Through : List ℕ → List ℕ → Fed → Type 0
Through bytes out f = f.goes_on ≡ true → f.used + line_room ≤ length out → no_lf (drop f.from bytes) ≡ true

-- after a line with a verdict
abbrev pub after_line : Progress → Verdict → ℕ → ℕ → Fed
after_line s (Verdict.Heading t) from used = record { progress = Progress.Rows t; goes_on = true; from = from; used = used }
after_line s (Verdict.Row t) from used = record { progress = Progress.Rows t; goes_on = true; from = from; used = used }
after_line s Verdict.Refused from used = record { progress = s; goes_on = false; from = from; used = used }
