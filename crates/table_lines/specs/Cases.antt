-- Worked cases, by computation; they need not be read to know what is promised.
use Rattle.std.specs.Prelude.{◌≡◌, refl, Some, None, true, false, [], ℕ}
use mathlib.Core.Logic.{inl}
use Rattle.std.specs.Float.Ieee.{of_bits, of_int}
use Rattle.numeric.specs.Arith.{𝟏}
use Rattle.row_params.specs.declared.ImDetectParams.{ImDetectParams}
use Rattle.table_text.specs.Text.{fields, all_digits, value_from, is_number, all_numbers, is_row, params_from, params_of}
use Rattle.table_text.specs.Print.{ascii}
use Rattle.table_text.specs.Table.{lines, ends_in_cr, is_next, verdict}
use Rattle.table_text.specs.Lines.{no_lf}
use Rattle.table_text.specs.declared.Progress.{Progress}
use Rattle.table_lines.specs.Refused.{accepted, line_starts, line_number, RefusedLast}

-- behind the first line and so many rows, each of two fields
abbrev behind : ℕ → Progress
behind rows =
    let params : ImDetectParams = record { min_prom = 𝟏; min_distance_scans = 2; min_width_scans = 1 } in
    Progress.Rows (record { params = params; count = 2; rows = rows })

no_line : accepted Progress.Start (lines []) ≡ Some Progress.Start
unfolding accepted lines
no_line = refl

three_lines : accepted Progress.Start (lines (ascii "1,2,1\r\n0,4\r\n5,0\r\n")) ≡ Some (behind 2)
unfolding accepted lines verdict params_of params_from fields is_number all_numbers is_row is_next all_digits value_from of_bits of_int
three_lines = refl

fourth_line : line_number (behind 2) ≡ 4
fourth_line = refl

other_count : accepted (behind 2) (lines (ascii "0,4\r\n5\r\n")) ≡ None
unfolding accepted lines verdict fields is_number all_numbers is_row is_next all_digits value_from
other_count = refl

-- a line starts behind an LF, and not behind a CR
behind_lf : line_starts (ascii "0,4\r\n") ≡ true
unfolding line_starts
behind_lf = refl

behind_cr : line_starts (ascii "0,4\r\n5\r") ≡ false
unfolding line_starts
behind_cr = refl

-- the second of two lines is refused
second_line : RefusedLast (behind 1) (ascii "0,4\r\n0,x\r\n")
unfolding line_starts no_lf verdict fields is_number all_numbers is_row all_digits value_from
second_line =
    record {
      before = ascii "0,4\r\n";
      line = ascii "0,x\r\n";
      split = refl;
      start = refl;
      refused = inl (record { text = ascii "0,x\r"; ended = refl; one = refl; refused = λ e. refl });
    }

-- and one that ends in LF alone, whatever it is
lone_lf : RefusedLast (behind 1) (ascii "0,4\r\n0,5\n")
unfolding line_starts no_lf ends_in_cr
lone_lf =
    record {
      before = ascii "0,4\r\n";
      line = ascii "0,5\n";
      split = refl;
      start = refl;
      refused = inl (record { text = ascii "0,5"; ended = refl; one = refl; refused = λ e. absurd (cc) });
    }
