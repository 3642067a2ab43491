-- What holds of printed numbers and of the sizes of what is printed.
use Rattle.std.specs.Prelude.{◌≡◌, true, ℕ, suc, ◌+◌, ◌*◌, ◌^◌, ◌≤◌, ◌<◌, length, get_or}
use Rattle.row_params.specs.Params.{most_peaks}
use Rattle.row_record.specs.declared.ImPeak1D.{ImPeak1D}
use Rattle.table_text.specs.Sizes.{max_fields, max_line, line_bytes, put_room, line_room}
use Rattle.table_text.specs.Text.{all_digits, value}
use Rattle.table_text.specs.Print.{digits_of, decimal, peak_line}

-- the digits of a number give the number back: `value-decimal` in proofs/Facts.antt
abbrev pub DigitsBack : Type 0
DigitsBack = (n : ℕ) → n < 2 ^ 32 → value (decimal n) ≡ n

-- they are digits: `decimal-digits`
abbrev pub OnlyDigits : Type 0
OnlyDigits = (k n : ℕ) → all_digits (digits_of k n) ≡ true

-- and no zero stands in front of any number but 0: `first-digit`
abbrev pub NoLeadingZero : Type 0
NoLeadingZero = (k n : ℕ) → 0 < n → n < 10 ^ suc k → 48 < get_or (digits_of (suc k) n) 0 0

-- a peak's line has at most `line_bytes` bytes: `line-most`
abbrev pub LineMost : Type 0
LineMost = (p : ImPeak1D) → length (peak_line p) ≤ line_bytes

-- the longest row is one of as many fields of 8 digits as a row may have, each with a comma or the CR: `longest-row`
abbrev pub LongestRow : Type 0
LongestRow = max_line ≡ max_fields * (8 + 1)

-- the room for the text of a line is that for the lines of all peaks that a row can have, and `put_room`: `room-enough`
abbrev pub RoomEnough : Type 0
RoomEnough = line_room ≡ most_peaks max_fields * line_bytes + put_room
