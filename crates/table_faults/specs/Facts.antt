-- That a fault is found exactly where a line is refused, and that what is told of it holds.
use Rattle.std.specs.Prelude.{◌≡◌, ◌≢◌, Some, true, false, List, [], ◌∷◌, ◌++◌, ℕ, ◌-◌, ◌≤◌, ◌<◌, length, get_or, is_some}
use Rattle.std.specs.Char.{is_ascii_digit}
use Rattle.table_text.specs.Text.{comma, lf, all_digits, value}
use Rattle.table_text.specs.Table.{verdict}
use Rattle.table_text.specs.Lines.{no_lf}
use Rattle.table_text.specs.declared.Progress.{Progress}
use Rattle.table_faults.specs.declared.Kind.{Kind}
use Rattle.table_faults.specs.declared.Fault.{Fault}
use Rattle.table_faults.specs.Faults.{limit_of, field_fault, line_fault, ended_fault, end_fault_of, no_end, last_text, last_line_fault, last_fault_of, refuses, refused_ended, refused_at_end}

-- ---- a fault is found exactly where a line is refused

-- a line without its CR LF: `line-fault` in proofs/Facts.antt
abbrev pub LineFault : Type 0
LineFault = (s : Progress) (line : List ℕ) → is_some (line_fault s line) ≡ refuses (verdict s line)

-- a line that an LF ends: `ended-fault`
abbrev pub EndedFault : Type 0
EndedFault = (s : Progress) (text : List ℕ) → is_some (ended_fault s text) ≡ refused_ended s text

-- the end of the input: `end-fault`
abbrev pub EndFault : Type 0
EndFault = (s : Progress) (bytes : List ℕ) → is_some (end_fault_of s bytes) ≡ refused_at_end s bytes

-- ---- a field and a byte

-- A field that is told to be above its limit has 1 to 8 digits, and its number is above the limit: `high-field`.
abbrev pub HighField : Type 0
HighField =
    (kind : Kind) (k at : ℕ) (f : List ℕ) → field_fault kind k at f ≡ Some (Fault.TooHigh k (limit_of kind k))
    → (1 ≤ length f) × (length f ≤ 8) × (all_digits f ≡ true) × (limit_of kind k < value f)

-- A byte that is told stands at the column that is told, and is neither a digit nor a comma: `byte-there` in proofs/Columns.antt.
abbrev pub ByteThere : Type 0
ByteThere =
    (s : Progress) (line : List ℕ) (column byte : ℕ) → line_fault s line ≡ Some (Fault.OtherByte column byte)
    → (1 ≤ column) × (column ≤ length line) × (get_or line (column - 1) 0 ≡ byte) × (is_ascii_digit byte ≡ false) × (byte ≢ comma)

-- ---- the last line of some bytes

-- It is what stands behind the last LF: `last-behind` in proofs/Facts.antt.
abbrev pub LastBehind : Type 0
LastBehind = (before line : List ℕ) → no_lf line ≡ true → last_text (before ++ (lf ∷ line)) ≡ line

-- or all, where there is none: `last-alone`
abbrev pub LastAlone : Type 0
LastAlone = (line : List ℕ) → no_lf line ≡ true → last_text line ≡ line

-- Where the last byte is LF, it is the line that this LF ends: `last-ended`.
abbrev pub LastEnded : Type 0
LastEnded = (s : Progress) (bytes : List ℕ) → last_line_fault s (bytes ++ (lf ∷ [])) ≡ ended_fault s (last_text bytes)

-- Where that line is refused, the fault that is told is one that it has: `last-told`.
abbrev pub LastTold : Type 0
LastTold =
    (s : Progress) (bytes : List ℕ) → refused_ended s (last_text bytes) ≡ true
    → ended_fault s (last_text bytes) ≡ Some (last_fault_of s (bytes ++ (lf ∷ [])))

-- and of a line that is too long without an end, that it has none: `last-overlong`
abbrev pub LastOverlong : Type 0
LastOverlong = (s : Progress) (bytes : List ℕ) → no_lf bytes ≡ true → no_end ≤ length bytes → last_fault_of s bytes ≡ Fault.NoEnd

-- A fault that is found is never `Unlike`: `never-unlike`.
abbrev pub NeverUnlike : Type 0
NeverUnlike = (s : Progress) (bytes : List ℕ) → last_line_fault s bytes ≢ Some Fault.Unlike
