-- Worked cases, each by computation; they need not be read to know what is promised.
use Rattle.std.specs.Prelude.{Some, None}
use Rattle.std.specs.Prelude.{◌≡◌, refl, List, [], ◌∷◌, ◌++◌, map, ℕ, Float}
use Rattle.std.specs.Float.Ieee.{to_bits, of_bits, of_int}
use Rattle.row_record.specs.Record.{word, peak_from}
use Rattle.row_params.specs.declared.ImDetectParams.{ImDetectParams}
use Rattle.table_text.specs.declared.Progress.{Progress}
use Rattle.table_text.specs.declared.Verdict.{Verdict}
use Rattle.numeric.specs.Arith.{𝟏}
use Rattle.table_text.specs.Text.{fields, all_digits, value_from, is_number, all_numbers, is_row, readings, row_text, params_from, params_of}
use Rattle.table_text.specs.Print.{digits_of, decimal, hex_digit, ascii, heading, refusal, ended, places_of, floats_of, peak_line}
use Rattle.table_text.specs.Table.{lines, is_next, verdict, printed_from, table}

-- ---- lines that are read
params-line : params_of (ascii "1,2,1") ≡ Some (record { min_prom = 𝟏; min_distance_scans = 2; min_width_scans = 1 })
unfolding params_of params_from fields is_number all_digits value_from of_int of_bits
params-line = refl

params-two : params_of (ascii "1,2") ≡ None
unfolding params_of params_from fields
params-two = refl

params-four : params_of (ascii "1,2,1,1") ≡ None
unfolding params_of params_from fields
params-four = refl

params-far : params_of (ascii "1,65536,1") ≡ None
unfolding params_of params_from fields is_number all_digits value_from
params-far = refl

row_line : row_text (ascii "0,4,0,8,0") ≡ Some 5
unfolding is_row fields all_numbers is_number all_digits value_from
row_line = refl

row-readings : map word (readings (ascii "0,4,0,8,0")) ≡ 0 ∷ 0x4080_0000 ∷ 0 ∷ 0x4100_0000 ∷ 0 ∷ []
unfolding readings fields value_from of_int to_bits
row-readings = refl

leading-zero : row_text (ascii "01") ≡ Some 1
unfolding is_row fields all_numbers is_number all_digits value_from
leading-zero = refl

leading-zero-reading : map word (readings (ascii "01")) ≡ 0x3f80_0000 ∷ []
unfolding readings fields value_from of_int to_bits
leading-zero-reading = refl

highest-row : row_text (ascii "16777215") ≡ Some 1
unfolding is_row fields all_numbers is_number all_digits value_from
highest-row = refl

highest-reading : map word (readings (ascii "16777215")) ≡ 0x4b7f_ffff ∷ []
unfolding readings fields value_from of_int to_bits
highest-reading = refl

-- ---- lines that are refused
empty-line : row_text [] ≡ None
unfolding is_row fields all_numbers is_number
empty-line = refl

empty-field : row_text (ascii "1,,2") ≡ None
unfolding is_row fields all_numbers is_number all_digits value_from
empty-field = refl

blank : row_text (ascii " 1") ≡ None
unfolding is_row fields all_numbers is_number all_digits value_from
blank = refl

sign : row_text (ascii "-1") ≡ None
unfolding is_row fields all_numbers is_number all_digits value_from
sign = refl

quoted : row_text (ascii "\"1\"") ≡ None
unfolding is_row fields all_numbers is_number all_digits value_from
quoted = refl

nine-digits : row_text (ascii "000000001") ≡ None
unfolding is_row fields all_numbers is_number all_digits value_from
nine-digits = refl

too-high : row_text (ascii "16777216") ≡ None
unfolding is_row fields all_numbers is_number all_digits value_from
too-high = refl

-- ---- lines of a text
two-lines : lines (ascii "1,2,1\r\n0,4,0,8,0\r\n") ≡ ascii "1,2,1" ∷ ascii "0,4,0,8,0" ∷ []
unfolding lines
two-lines = refl

no_end : lines (ascii "1,2,1\r\n0,4,0,8,0") ≡ ascii "1,2,1" ∷ ascii "0,4,0,8,0" ∷ []
unfolding lines
no_end = refl

empty-lines : lines (ascii "\r\n\r\n") ≡ [] ∷ [] ∷ []
unfolding lines
empty-lines = refl

lone-cr : lines (ascii "1,2,1\r") ≡ ascii "1,2,1\r" ∷ []
unfolding lines
lone-cr = refl

lone-cr-bad : verdict Progress.Start (ascii "1,2,1\r") ≡ Verdict.Refused
unfolding verdict params_of params_from fields is_number all_digits value_from
lone-cr-bad = refl

lone-lf : lines (ascii "1,2,1\n0\r\n") ≡ ascii "1,2,1\n0" ∷ []
unfolding lines
lone-lf = refl

lone-lf-bad : verdict Progress.Start (ascii "1,2,1\n0") ≡ Verdict.Refused
unfolding verdict params_of params_from fields is_number all_digits value_from
lone-lf-bad = refl

-- ---- lines that are printed
first-peak : peak_line (peak_from
    (0 ∷ 0 ∷ 0 ∷ 0 ∷ 0 ∷ 0 ∷ 0 ∷ 0 ∷ 0 ∷ 0 ∷ 1 ∷ 0 ∷ 2 ∷ 1 ∷ 0 ∷ 2 ∷ 0 ∷ 0 ∷ 0x4080_0000 ∷ 0x4080_0000 ∷ 0x4080_0000 ∷ 0 ∷ 0 ∷ 1 ∷ 0x4040_0000
    ∷ 0x8000_0000 ∷ 0 ∷ [])
    0) ≡ ascii "0,1,0,2,1,40800000,40800000,40400000,80000000\r\n"
unfolding peak_from places_of floats_of digits_of hex_digit of_bits to_bits
first-peak = refl

highest-number : decimal 4294967295 ≡ ascii "4294967295"
unfolding digits_of
highest-number = refl

-- ---- whole texts, with the number of a row for the lines of its peaks
marks : ImDetectParams → ℕ → List Float → List ℕ
marks p k y = ended (decimal k)

no_text : table marks [] ≡ refusal
unfolding printed_from lines
no_text = refl

bad-first : table marks (ascii "1,2\r\n0,4,0,8,0\r\n") ≡ refusal
unfolding printed_from lines verdict params_of params_from fields
bad-first = refl

first_alone : table marks (ascii "1,2,1") ≡ heading
unfolding printed_from lines verdict params_of params_from fields is_number all_digits value_from
first_alone = refl

all-good : table marks (ascii "1,2,1\r\n0,4,0,8,0\r\n0,5,5,0,0\r\n") ≡ heading ++ ascii "0\r\n1\r\n"
unfolding printed_from lines verdict params_of params_from fields all_numbers is_number all_digits value_from is_row is_next marks digits_of
all-good = refl

other-count : table marks (ascii "1,2,1\r\n0,4,0,8,0\r\n0,5,5,0\r\n0,5,5,0,0\r\n") ≡ heading ++ ascii "0\r\nrefused,10\r\n"
unfolding printed_from lines verdict params_of params_from fields all_numbers is_number all_digits value_from is_row is_next marks digits_of
other-count = refl
