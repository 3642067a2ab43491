-- The bytes that are held between two reads, the text that waits to be written, and how the table stands with all that has been read
-- and all that has been handed over.
use Rattle.std.specs.Prelude.{◌≡◌, true, false, cond, List, [], ◌++◌, ℕ, ◌≤◌, ◌<◌, ◌+◌, ◌-◌, length, take, drop}
use Rattle.table_text.specs.declared.Progress.{Progress}
use Rattle.table_text.specs.Sizes.{line_room}
use Rattle.table_text.specs.Print.{put_at}
use Rattle.table_text.specs.Lines.{no_lf}
use Rattle.table_peak_lines.specs.TableText.{table_text}
use Rattle.table_lines.specs.Bytes.{text_from}
use Rattle.table_lines.specs.Refused.{line_starts, Accepted, RefusedLast}
use Rattle.table_job.specs.declared.inner.Job.{Job}

-- ---- a job

-- before the first read
abbrev pub first : Job
first = record { progress = Progress.Start; from = 0; have = 0; seen = 0; waiting = 0; goes_on = true }

-- the bytes that are held
abbrev pub held : List ℕ → Job → List ℕ
held buf j = take (j.have - j.from) (drop j.from buf)

-- the same with these bytes at the front of their buffer, where they have no LF
abbrev pub at_front : Job → Job
at_front j = record { progress = j.progress; from = 0; have = j.have - j.from; seen = j.have - j.from; waiting = j.waiting; goes_on = true }

-- with k more bytes behind them
abbrev pub with_bytes : Job → ℕ → Job
with_bytes j k = record { progress = j.progress; from = j.from; have = j.have + k; seen = j.seen; waiting = j.waiting; goes_on = j.goes_on }

-- with no text that waits
abbrev pub handed_over : Job → Job
handed_over j = record { progress = j.progress; from = j.from; have = j.have; seen = j.seen; waiting = 0; goes_on = j.goes_on }

-- at the end of the table, with n more bytes of text and no byte held
abbrev pub over : Job → ℕ → Job
over j n = record { progress = j.progress; from = j.have; have = j.have; seen = 0; waiting = j.waiting + n; goes_on = false }

-- Its places lie in the buffer and in the room for text, the bytes that need not be searched again have no LF, and as long as the table
-- goes on, those that are held start a line.
pub record Within (buf : List ℕ) (room : ℕ) (j : Job) : Type 0 where
  pub order : j.from + j.seen ≤ j.have
  pub bytes : j.have ≤ length buf
  pub seen : no_lf (take j.seen (held buf j)) ≡ true
  pub start : j.goes_on ≡ true → line_starts (take j.from buf) ≡ true
  pub text : j.waiting ≤ room

-- A read is due: the bytes that are held are the start of a line, they stand at the front, and there is room for more of them and for
-- any line's text.
pub record Ready (buf : List ℕ) (room : ℕ) (j : Job) : Type 0 where
  pub front : j.from ≡ 0
  pub more : j.have < length buf
  pub line : no_lf (held buf j) ≡ true
  pub text : j.waiting + line_room ≤ room

-- The text x has been put behind the text that waits: `out` was `out₀`, and n bytes wait now.
pub record Added (out₀ out x : List ℕ) (waiting n : ℕ) : Type 0 where
  pub count : n ≡ waiting + length x
  pub room : n ≤ length out₀
  pub text : out ≡ put_at out₀ waiting x

-- ---- the table

-- Lines of the input are accepted, from its start on, which gives s, and these bytes follow them.
pub record Reached (input : List ℕ) (s : Progress) (bytes : List ℕ) : Type 0 where
  pub done : List ℕ
  pub split : input ≡ done ++ bytes
  pub accepted : Accepted Progress.Start done s

-- The bytes `input` have been read and the text `gone` has been handed over: whatever follows that input, the table is that text, then
-- the text that waits and, where the table goes on, what is printed for the bytes that are held and what follows. The progress is that
-- behind the lines before the bytes that are held or, where the table has ended, before the line that ended it.
pub record Stands (input gone buf out : List ℕ) (j : Job) : Type 0 where
  pub text : (rest : List ℕ) → table_text (input ++ rest) ≡ gone ++ (take j.waiting out ++ cond j.goes_on (text_from j.progress (held buf j ++ rest)) [])
  pub accepted : j.goes_on ≡ true → Reached input j.progress (held buf j)
  pub refused : j.goes_on ≡ false → (r : RefusedLast j.progress (take j.from buf)) × Reached input j.progress (r.line ++ held buf j)

-- All of the input has been read: its table is what has been handed over and what waits.
pub record Ends (input gone out : List ℕ) (j : Job) : Type 0 where
  pub text : table_text input ≡ gone ++ take j.waiting out

-- at the start nothing has been read, and nothing handed over: `stands-first` in proofs/Laws.antt
abbrev pub StandsFirst : Type 0
StandsFirst = (buf out : List ℕ) → Stands [] [] buf out first

-- after a read, which put k bytes behind those that are held: `stands_read`
abbrev pub StandsRead : Type 0
StandsRead =
    (input gone buf₀ buf out : List ℕ) (j : Job) (k : ℕ) → j.from ≡ 0 → take j.have buf ≡ take j.have buf₀ → Stands input gone buf₀ out j
    → Stands (input ++ take k (drop j.have buf)) gone buf out (with_bytes j k)

-- after a write of the text that waits: `stands-written`
abbrev pub StandsWritten : Type 0
StandsWritten = (input gone buf out : List ℕ) (j : Job) → Stands input gone buf out j → Stands input (gone ++ take j.waiting out) buf out (handed_over j)

-- a table that goes on no further is at its end, whatever was read besides: `ends-refused`
abbrev pub EndsRefused : Type 0
EndsRefused = (input gone buf out : List ℕ) (j : Job) → j.goes_on ≡ false → Stands input gone buf out j → Ends input gone out j
