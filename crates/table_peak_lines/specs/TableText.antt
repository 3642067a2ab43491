-- The text of the table: what is printed for each line that is read.
use Rattle.std.specs.Prelude.{◌≡◌, true, List, [], ◌∷◌, ◌++◌, ℕ, ◌-◌, ◌≤◌, take, Float}
use Rattle.limits.specs.Limits.{any_number}
use Rattle.table_text.specs.Sizes.{max_fields}
use Rattle.numeric.specs.Numeric.{all_in_range}
use Rattle.row_params.specs.declared.ImDetectParams.{ImDetectParams}
use Rattle.table_text.specs.declared.Progress.{Progress}
use Rattle.table_text.specs.declared.RowsSoFar.{RowsSoFar}
use Rattle.table_text.specs.declared.Verdict.{Verdict}
use Rattle.table_text.specs.Print.{heading, refusal}
use Rattle.table_text.specs.Text.{readings}
use Rattle.table_text.specs.Table.{verdict, printed_from, table}
use Rattle.table_peak_lines.specs.RowLines.{row_lines}

-- the lines of the peaks that the parameters p find in row k, whose readings are y
abbrev pub peaks_text : ImDetectParams → ℕ → List Float → List ℕ
peaks_text p k y = row_lines p k y

-- The table that is printed for bytes.
abbrev pub table_text : List ℕ → List ℕ
table_text bytes = table peaks_text bytes

-- what is printed for a line with a verdict
abbrev pub line_text : List ℕ → Verdict → List ℕ
line_text line (Verdict.Heading s) = heading
line_text line (Verdict.Row s) = peaks_text s.params (s.rows - 1) (readings line)
line_text line Verdict.Refused = refusal

-- the same, where the readings of an accepted row stand at the front of `row`
abbrev pub text_of : List Float → Verdict → List ℕ
text_of row (Verdict.Heading s) = heading
text_of row (Verdict.Row s) = peaks_text s.params (s.rows - 1) (take s.count row)
text_of row Verdict.Refused = refusal

-- an accepted row is one of at most 4,096 samples, and counted; its readings, numbers with a clear sign, stand at the front of `row`
pub record Counted (s : RowsSoFar) (row : List Float) : Type 0 where
  pub first : 1 ≤ s.rows
  pub most : s.count ≤ max_fields
  pub numbers : all_in_range any_number (take s.count row) ≡ true

abbrev pub Sound : List Float → Verdict → Type 0
Sound row v = (s : RowsSoFar) → v ≡ Verdict.Row s → Counted s row

-- ---- the table is what its lines give, one after another, as far as the first refusal

-- what comes behind a line with a verdict
abbrev pub behind_line : Verdict → List (List ℕ) → List ℕ
behind_line (Verdict.Heading s) more = printed_from peaks_text (Progress.Rows s) more
behind_line (Verdict.Row s) more = printed_from peaks_text (Progress.Rows s) more
behind_line Verdict.Refused more = []

-- `line-by-line` in proofs/TableLaws.antt
abbrev pub LineByLine : Type 0
LineByLine =
    (s : Progress) (line : List ℕ) (more : List (List ℕ))
    → printed_from peaks_text s (line ∷ more) ≡ line_text line (verdict s line) ++ behind_line (verdict s line) more
