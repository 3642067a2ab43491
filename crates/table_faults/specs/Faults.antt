-- Which fault of a line is told: in which of its fields, at which of its bytes, or in how many fields it has. Fields and columns are counted
-- from 1. Where there are several, the first in the order of these definitions is told.
use Rattle.std.specs.Prelude.{Option, Some, None, unwrap_or, option_map, position}
use Rattle.std.specs.Prelude.{Bool, true, false, cond, not, ◌&&◌, ◌||◌, List, [], ◌∷◌, ℕ, ◌+◌, ◌-◌, ltb, leb, eqb, length, take, get_or}
use Rattle.std.specs.Option.{option_or}
use Rattle.std.specs.List.{after_last}
use Rattle.std.specs.Char.{is_ascii_digit}
use Rattle.limits.specs.Limits.{max_count, last_row}
use Rattle.table_text.specs.Sizes.{max_number, max_fields}
use Rattle.table_text.specs.Text.{lf, fields, is_number}
use Rattle.table_text.specs.declared.Progress.{Progress}
use Rattle.table_text.specs.declared.RowsSoFar.{RowsSoFar}
use Rattle.table_text.specs.declared.Verdict.{Verdict}
use Rattle.table_text.specs.Table.{ends_in_cr, verdict}
use Rattle.table_faults.specs.declared.Kind.{Kind}
use Rattle.table_faults.specs.declared.Fault.{Fault}

-- ---- words

-- a fault, where a test passes
abbrev pub told : Bool → Fault → Option Fault
told b fault = cond b (Some fault) None

-- the first fault that is there
abbrev pub first_of : List (Option Fault) → Option Fault
first_of [] = None
first_of (o ∷ more) = option_or o (first_of more)

-- ---- a field

-- the highest number of field k of the first line or of a row, counted from 1
abbrev pub limit_of : Kind → ℕ → ℕ
limit_of Kind.Params k = cond (ltb 1 k) max_count max_number
limit_of Kind.Row k = max_number

-- all fields, the first of which is field k, are numbers to their limits
unfoldable pub all_within : Kind → ℕ → List (List ℕ) → Bool
all_within kind k [] = true
all_within kind k (f ∷ fs) = is_number (limit_of kind k) f && all_within kind (k + 1) fs

-- the first byte that is no digit, of a field that stands behind `at` bytes of its line
unfoldable pub other_byte : ℕ → List ℕ → Option Fault
other_byte at f = option_map (λ i. Fault.OtherByte (at + i + 1) (get_or f i 0)) (position (λ b. not (is_ascii_digit b)) f)

-- What is wrong with field k, behind `at` bytes, where it is no number to its limit. One of 1 to 8 digits is above it (`HighField`, Facts.antt).
unfoldable pub bad_field : ℕ → ℕ → ℕ → List ℕ → Fault
bad_field limit k at f =
    unwrap_or (first_of (told (eqb (length f) 0) (Fault.EmptyField k) ∷ other_byte at f ∷ told (ltb 8 (length f)) (Fault.Digits k) ∷ []))
    (Fault.TooHigh k limit)

-- what is wrong with field k, if anything
unfoldable pub field_fault : Kind → ℕ → ℕ → List ℕ → Option Fault
field_fault kind k at f = cond (is_number (limit_of kind k) f) None (Some (bad_field (limit_of kind k) k at f))

-- What is wrong with the first bad field of those from field k on, if one is bad. The first stands behind `at` bytes, and each of the others
-- behind a comma.
unfoldable pub fields_fault : Kind → ℕ → ℕ → List (List ℕ) → Option Fault
fields_fault kind k at [] = None
fields_fault kind k at (f ∷ fs) = option_or (field_fault kind k at f) (fields_fault kind (k + 1) (at + (length f + 1)) fs)

-- ---- a line, without its CR LF

-- the first line: a bad field, or not three fields
unfoldable pub params_fault : List ℕ → Option Fault
params_fault line =
    let n = length (fields line) in
    first_of (fields_fault Kind.Params 1 0 (fields line) ∷ told (not (eqb n 3)) (Fault.NotThree n) ∷ [])

-- a row: a bad field, more fields than a row may have, another count of fields than the rows before it, or as many rows before it as there may be
unfoldable pub row_fault : RowsSoFar → List ℕ → Option Fault
row_fault s line =
    let n = length (fields line) in
    first_of (
    fields_fault Kind.Row 1 0 (fields line)
    ∷ told (ltb max_fields n) (Fault.ManyFields n)
    ∷ told (not (eqb s.count 0) && not (eqb n s.count)) (Fault.OtherCount n s.count)
    ∷ told (ltb last_row s.rows) Fault.ManyRows
    ∷ [])

-- a line, behind what has been accepted
unfoldable pub line_fault : Progress → List ℕ → Option Fault
line_fault s [] = Some Fault.Blank
line_fault Progress.Start (b ∷ bs) = params_fault (b ∷ bs)
line_fault (Progress.Rows t) (b ∷ bs) = row_fault t (b ∷ bs)

-- the text that an LF ends: no CR ends it, or the line before the CR has a fault
unfoldable pub ended_fault : Progress → List ℕ → Option Fault
ended_fault s text = cond (ends_in_cr text) (line_fault s (take (length text - 1) text)) (Some Fault.BareLf)

-- ---- the last line of some bytes

-- the bytes after which a line without an end is refused
abbrev pub no_end : ℕ
no_end = 65536

-- what stands behind the last LF, or all where there is none
abbrev pub last_text : List ℕ → List ℕ
last_text bytes = after_last (λ b. eqb b lf) bytes

-- the last byte is LF
abbrev pub ends_in_lf : List ℕ → Bool
ends_in_lf bytes = eqb (get_or bytes (length bytes - 1) 0) lf

-- What is wrong with the last line of some bytes, if anything. With no byte there is no line. An LF at the end ends the last line. Without one,
-- the line is too long, or what is there of it has a fault.
unfoldable pub last_line_fault : Progress → List ℕ → Option Fault
last_line_fault s bytes =
    cond (eqb (length bytes) 0) (Some Fault.NoLine)
    (cond (ends_in_lf bytes) (ended_fault s (last_text (take (length bytes - 1) bytes)))
    (first_of (told (leb no_end (length (last_text bytes))) Fault.NoEnd ∷ line_fault s (last_text bytes) ∷ [])))

-- the same, or `Unlike` where nothing is wrong, which is so of no line that is refused (`LineFault` and others in Facts.antt)
abbrev pub last_fault_of : Progress → List ℕ → Fault
last_fault_of s bytes = unwrap_or (last_line_fault s bytes) Fault.Unlike

-- At the end of the input, with bytes behind the last line that has an end: what is wrong with them as a line, or that there is no line at all.
unfoldable pub end_fault_of : Progress → List ℕ → Option Fault
end_fault_of Progress.Start [] = Some Fault.NoLine
end_fault_of (Progress.Rows t) [] = None
end_fault_of s (b ∷ bytes) = line_fault s (b ∷ bytes)

-- ---- where a line is refused

-- a verdict is the refusal
abbrev pub refuses : Verdict → Bool
refuses (Verdict.Heading s) = false
refuses (Verdict.Row s) = false
refuses Verdict.Refused = true

-- a text that an LF ends is refused too where it does not end in CR
abbrev pub refused_ended : Progress → List ℕ → Bool
refused_ended s text = not (ends_in_cr text) || refuses (verdict s (take (length text - 1) text))

-- At the end of the input, with bytes behind the last line that has an end: the last line is refused, or there is none at all.
abbrev pub refused_at_end : Progress → List ℕ → Bool
refused_at_end Progress.Start [] = true
refused_at_end (Progress.Rows t) [] = false
refused_at_end s (b ∷ bytes) = refuses (verdict s (b ∷ bytes))
