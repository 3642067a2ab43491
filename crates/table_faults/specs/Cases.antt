-- Worked cases, by computation; they need not be read to know what is promised.
use Rattle.std.specs.Prelude.{◌≡◌, refl, Some, None, List, ℕ, zero, suc, ◌++◌, [], replicate}
use Rattle.numeric.specs.Arith.{𝟏}
use Rattle.row_params.specs.declared.ImDetectParams.{ImDetectParams}
use Rattle.table_text.specs.Text.{fields, all_digits, value_from, is_number}
use Rattle.table_text.specs.Table.{ends_in_cr}
use Rattle.table_text.specs.Print.{ascii}
use Rattle.table_text.specs.declared.Progress.{Progress}
use Rattle.table_faults.specs.declared.Fault.{Fault}
use Rattle.table_faults.specs.Faults.{other_byte, bad_field, field_fault, fields_fault, params_fault, row_fault, line_fault, ended_fault, last_line_fault, last_fault_of, end_fault_of}

-- behind the first line and so many rows, each of so many fields
abbrev behind : ℕ → ℕ → Progress
behind rows count =
    let params : ImDetectParams = record { min_prom = 𝟏; min_distance_scans = 2; min_width_scans = 1 } in
    Progress.Rows (record { params = params; count = count; rows = rows })

-- ---- a field

good_params : line_fault Progress.Start (ascii "1,2,1") ≡ None
unfolding line_fault params_fault fields_fault field_fault bad_field other_byte fields is_number all_digits value_from
good_params = refl

empty_field : line_fault Progress.Start (ascii "1,,1") ≡ Some (Fault.EmptyField 2)
unfolding line_fault params_fault fields_fault field_fault bad_field other_byte fields is_number all_digits value_from
empty_field = refl

no_digit : line_fault Progress.Start (ascii "-1,2,1") ≡ Some (Fault.OtherByte 1 45)
unfolding line_fault params_fault fields_fault field_fault bad_field other_byte fields is_number all_digits value_from
no_digit = refl

-- columns count from the start of the line, and not of the field
second_field : line_fault (behind 1 2) (ascii "12,3x") ≡ Some (Fault.OtherByte 5 120)
unfolding line_fault row_fault fields_fault field_fault bad_field other_byte fields is_number all_digits value_from
second_field = refl

-- of two bad fields the first is told
two_bad_fields : line_fault (behind 1 3) (ascii "12,3x,") ≡ Some (Fault.OtherByte 5 120)
unfolding line_fault row_fault fields_fault field_fault bad_field other_byte fields is_number all_digits value_from
two_bad_fields = refl

-- and of a field that is too long and has another byte, the byte
byte_before_length : line_fault (behind 1 2) (ascii "0,12345678x") ≡ Some (Fault.OtherByte 11 120)
unfolding line_fault row_fault fields_fault field_fault bad_field other_byte fields is_number all_digits value_from
byte_before_length = refl

nine_digits : line_fault (behind 1 2) (ascii "0,000000001") ≡ Some (Fault.Digits 2)
unfolding line_fault row_fault fields_fault field_fault bad_field other_byte fields is_number all_digits value_from
nine_digits = refl

too_high : line_fault (behind 1 2) (ascii "16777215,16777216") ≡ Some (Fault.TooHigh 2 16777215)
unfolding line_fault row_fault fields_fault field_fault bad_field other_byte fields is_number all_digits value_from
too_high = refl

floor_too_high : line_fault Progress.Start (ascii "16777216,65536,1") ≡ Some (Fault.TooHigh 1 16777215)
unfolding line_fault params_fault fields_fault field_fault bad_field other_byte fields is_number all_digits value_from
floor_too_high = refl

distance_too_high : line_fault Progress.Start (ascii "16777215,65536,1") ≡ Some (Fault.TooHigh 2 65535)
unfolding line_fault params_fault fields_fault field_fault bad_field other_byte fields is_number all_digits value_from
distance_too_high = refl

width_too_high : line_fault Progress.Start (ascii "16777215,65535,65536") ≡ Some (Fault.TooHigh 3 65535)
unfolding line_fault params_fault fields_fault field_fault bad_field other_byte fields is_number all_digits value_from
width_too_high = refl

-- ---- how many fields

two_fields : line_fault Progress.Start (ascii "1,2") ≡ Some (Fault.NotThree 2)
unfolding line_fault params_fault fields_fault field_fault bad_field other_byte fields is_number all_digits value_from
two_fields = refl

other_count : line_fault (behind 1 3) (ascii "1,2") ≡ Some (Fault.OtherCount 2 3)
unfolding line_fault row_fault fields_fault field_fault bad_field other_byte fields is_number all_digits value_from
other_count = refl

first_row : line_fault (behind 0 0) (ascii "1,2") ≡ None
unfolding line_fault row_fault fields_fault field_fault bad_field other_byte fields is_number all_digits value_from
first_row = refl

-- a bad field is told before another count
field_before_count : line_fault (behind 1 3) (ascii "1,x") ≡ Some (Fault.OtherByte 3 120)
unfolding line_fault row_fault fields_fault field_fault bad_field other_byte fields is_number all_digits value_from
field_before_count = refl

-- a row of one field and n more
zeros : ℕ → List ℕ
zeros zero = ascii "0"
zeros (suc n) = ascii "0," ++ zeros n

most_fields : line_fault (behind 0 0) (zeros 4095) ≡ None
unfolding line_fault row_fault fields_fault field_fault bad_field other_byte fields is_number all_digits value_from zeros
most_fields = refl

many_fields : line_fault (behind 1 3) (zeros 4096) ≡ Some (Fault.ManyFields 4097)
unfolding line_fault row_fault fields_fault field_fault bad_field other_byte fields is_number all_digits value_from zeros
many_fields = refl

last_row : line_fault (behind 4194303 1) (ascii "0") ≡ None
unfolding line_fault row_fault fields_fault field_fault bad_field other_byte fields is_number all_digits value_from
last_row = refl

many_rows : line_fault (behind 4194304 1) (ascii "0") ≡ Some Fault.ManyRows
unfolding line_fault row_fault fields_fault field_fault bad_field other_byte fields is_number all_digits value_from
many_rows = refl

count_before_rows : line_fault (behind 4194304 1) (ascii "0,0") ≡ Some (Fault.OtherCount 2 1)
unfolding line_fault row_fault fields_fault field_fault bad_field other_byte fields is_number all_digits value_from
count_before_rows = refl

-- ---- lines

blank : line_fault Progress.Start [] ≡ Some Fault.Blank
unfolding line_fault
blank = refl

blank_line : last_line_fault (behind 1 1) (ascii "0\r\n\r\n") ≡ Some Fault.Blank
unfolding last_line_fault ended_fault ends_in_cr line_fault
blank_line = refl

-- a lone LF is told before a bad field
bare_lf : last_line_fault (behind 1 1) (ascii "0\r\nx\n") ≡ Some Fault.BareLf
unfolding last_line_fault ended_fault ends_in_cr
bare_lf = refl

lone_cr : last_line_fault (behind 1 1) (ascii "0\r1\r\n") ≡ Some (Fault.OtherByte 2 13)
unfolding last_line_fault ended_fault ends_in_cr line_fault row_fault fields_fault field_fault bad_field other_byte fields is_number all_digits value_from
lone_cr = refl

-- the last line of three
third_line : last_line_fault (behind 1 2) (ascii "1,2,1\r\n0,4\r\n0,4x\r\n") ≡ Some (Fault.OtherByte 4 120)
unfolding last_line_fault ended_fault ends_in_cr line_fault row_fault fields_fault field_fault bad_field other_byte fields is_number all_digits value_from
third_line = refl

only_line : last_line_fault Progress.Start (ascii "1,2\r\n") ≡ Some (Fault.NotThree 2)
unfolding last_line_fault ended_fault ends_in_cr line_fault params_fault fields_fault field_fault bad_field other_byte fields is_number all_digits value_from
only_line = refl

no_line : last_line_fault Progress.Start [] ≡ Some Fault.NoLine
unfolding last_line_fault
no_line = refl

no_end_of_line : last_line_fault (behind 1 2) (ascii "0,4\r\n" ++ replicate 65536 48) ≡ Some Fault.NoEnd
unfolding last_line_fault
no_end_of_line = refl

one_byte_less : last_line_fault (behind 1 2) (ascii "0,4\r\n" ++ replicate 65535 48) ≡ Some (Fault.Digits 1)
unfolding last_line_fault line_fault row_fault fields_fault field_fault bad_field other_byte fields is_number all_digits value_from
one_byte_less = refl

-- a line that is not refused
not_refused : last_fault_of (behind 1 2) (ascii "0,4\r\n0,5\r\n") ≡ Fault.Unlike
unfolding last_line_fault ended_fault ends_in_cr line_fault row_fault fields_fault field_fault bad_field other_byte fields is_number all_digits value_from
not_refused = refl

-- ---- the end of the input

no_first_line : end_fault_of Progress.Start [] ≡ Some Fault.NoLine
unfolding end_fault_of
no_first_line = refl

no_further_line : end_fault_of (behind 1 2) [] ≡ None
unfolding end_fault_of
no_further_line = refl

good_end : end_fault_of (behind 1 2) (ascii "0,4") ≡ None
unfolding end_fault_of line_fault row_fault fields_fault field_fault bad_field other_byte fields is_number all_digits value_from
good_end = refl

-- a CR that no LF follows
bad_end : end_fault_of (behind 1 2) (ascii "0,4\r") ≡ Some (Fault.OtherByte 4 13)
unfolding end_fault_of line_fault row_fault fields_fault field_fault bad_field other_byte fields is_number all_digits value_from
bad_end = refl
