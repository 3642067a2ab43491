-- Numbers that belong to the printed table alone, as in the code.
use Rattle.std.specs.Prelude.{ℕ}

-- ---- lines that are read

-- the highest number of a row, and the highest floor
abbrev pub max_number : ℕ
max_number = 16777215

-- the most fields that a row may have
abbrev pub max_fields : ℕ
max_fields = 4096

-- the bytes of the longest row, with its CR: as many fields of 8 digits, each with one byte behind it
abbrev pub max_line : ℕ
max_line = 36864

-- ---- text that is printed

-- the most bytes that the line of a peak has: five numbers of 10 digits and four words of 8, each with a comma, the last with
-- CR LF
abbrev pub line_bytes : ℕ
line_bytes = 92

-- the room that is asked for where the heading, the refusal or the line of a peak is written
abbrev pub put_room : ℕ
put_room = 96

-- the room that the text for any line that is read fits in: the lines of as many peaks as a row can have, and `put_room`
abbrev pub line_room : ℕ
line_room = 188420
