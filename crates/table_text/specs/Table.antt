-- The whole text: how bytes split into lines, what each line is answered with, and what is printed.
use Rattle.std.specs.Prelude.{Option, Some, None}
use Rattle.std.specs.Prelude.{Bool, false, cond, ◌&&◌, ◌||◌, List, [], ◌∷◌, ◌++◌, ℕ, ◌+◌, ◌-◌, leb, eqb, Float}
use Rattle.limits.specs.Limits.{last_row}
use Rattle.row_params.specs.declared.ImDetectParams.{ImDetectParams}
use Rattle.table_text.specs.declared.RowsSoFar.{RowsSoFar}
use Rattle.table_text.specs.declared.Progress.{Progress}
use Rattle.table_text.specs.declared.Verdict.{Verdict}
use Rattle.table_text.specs.Text.{onto, lf, readings, row_text, params_of}
use Rattle.table_text.specs.Print.{heading, refusal}

-- ---- lines

abbrev pub cr : ℕ
cr = 13

-- The lines of a text, each ended by CR LF; the last may lack it, and behind a final CR LF there is no further line. A CR
-- with no LF behind it and an LF with no CR before it stay in their line: no digits, so they make it bad.
unfoldable pub lines : List ℕ → List (List ℕ)
lines [] = []
lines (b ∷ []) = (b ∷ []) ∷ []
lines (b ∷ c ∷ bs) = cond (eqb b cr && eqb c lf) ([] ∷ lines bs) (onto b (lines (c ∷ bs)))

-- the last byte of a text is CR
unfoldable pub ends_in_cr : List ℕ → Bool
ends_in_cr [] = false
ends_in_cr (b ∷ []) = eqb b cr
ends_in_cr (b ∷ c ∷ bs) = ends_in_cr (c ∷ bs)

-- ---- verdicts

-- the first line: the parameters
abbrev pub opened : Option ImDetectParams → Verdict
opened (Some p) = Verdict.Heading (record { params = p; count = 0; rows = 0 })
opened None = Verdict.Refused

-- as many fields as the first row has, which is itself of any count; and a place among 4,194,304 rows
unfoldable pub is_next : RowsSoFar → ℕ → Bool
is_next s n = (eqb s.count 0 || eqb n s.count) && leb s.rows last_row

-- each further line: a row
abbrev pub counted : RowsSoFar → Option ℕ → Verdict
counted s (Some n) = cond (is_next s n) (Verdict.Row (record { params = s.params; count = n; rows = s.rows + 1 })) Verdict.Refused
counted s None = Verdict.Refused

unfoldable pub verdict : Progress → List ℕ → Verdict
verdict Progress.Start line = opened (params_of line)
verdict (Progress.Rows s) line = counted s (row_text line)

-- ---- what is printed

-- at the end of the text: the refusal if there was no line at all
abbrev pub at_end : Progress → List ℕ
at_end Progress.Start = refusal
at_end (Progress.Rows s) = []

-- for a line: the heading, the lines of a row's peaks, or the refusal; and, but for the refusal, what comes for the rest
abbrev pub at_line : (ImDetectParams → ℕ → List Float → List ℕ) → List ℕ → Verdict → (Progress → List ℕ) → List ℕ
at_line peaks line (Verdict.Heading s) rest = heading ++ rest (Progress.Rows s)
at_line peaks line (Verdict.Row s) rest = peaks s.params (s.rows - 1) (readings line) ++ rest (Progress.Rows s)
at_line peaks line Verdict.Refused rest = refusal

unfoldable pub printed_from : (ImDetectParams → ℕ → List Float → List ℕ) → Progress → List (List ℕ) → List ℕ
printed_from peaks s [] = at_end s
printed_from peaks s (line ∷ more) = at_line peaks line (verdict s line) (λ t. printed_from peaks t more)

-- The text printed for lines, where `peaks p k y` are the lines of the peaks that the parameters p find in row k, whose
-- readings are y.
abbrev pub printed : (ImDetectParams → ℕ → List Float → List ℕ) → List (List ℕ) → List ℕ
printed peaks ls = printed_from peaks Progress.Start ls

-- and for bytes
abbrev pub table : (ImDetectParams → ℕ → List Float → List ℕ) → List ℕ → List ℕ
table peaks bytes = printed peaks (lines bytes)
