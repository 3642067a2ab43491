-- Which lines of some bytes are accepted, and that the last of them is refused.
use Rattle.std.specs.Prelude.{◌≡◌, Option, Some, None, Bool, true, ◌⊎◌, List, [], ◌∷◌, ◌++◌, ℕ, ◌+◌, ◌-◌, ◌<◌, eqb, length, take}
use Rattle.table_text.specs.declared.Progress.{Progress}
use Rattle.table_text.specs.declared.Verdict.{Verdict}
use Rattle.table_text.specs.Sizes.{max_line}
use Rattle.table_text.specs.Text.{lf}
use Rattle.table_text.specs.Table.{lines, ends_in_cr, verdict}
use Rattle.table_text.specs.Lines.{no_lf}

-- ---- lines that are accepted

-- what comes behind a line that is not refused
abbrev pub if_accepted : Verdict → (Progress → Option Progress) → Option Progress
if_accepted (Verdict.Heading t) next = next (Progress.Rows t)
if_accepted (Verdict.Row t) next = next (Progress.Rows t)
if_accepted Verdict.Refused next = None

-- what has been accepted behind some lines, where s has been before them; None where one of them is refused
unfoldable pub accepted : Progress → List (List ℕ) → Option Progress
accepted s [] = Some s
accepted s (line ∷ more) = if_accepted (verdict s line) (λ t. accepted t more)

-- a line starts behind some bytes: there is none of them, or the last is LF
unfoldable pub line_starts : List ℕ → Bool
line_starts [] = true
line_starts (b ∷ []) = eqb b lf
line_starts (b ∷ c ∷ bs) = line_starts (c ∷ bs)

-- Some bytes are whole lines, whatever follows them, and all are accepted: s has been accepted before them, and t behind them.
pub record Accepted (s : Progress) (bytes : List ℕ) (t : Progress) : Type 0 where
  pub whole : (rest : List ℕ) → lines (bytes ++ rest) ≡ lines bytes ++ lines rest
  pub start : line_starts bytes ≡ true
  pub state : accepted s (lines bytes) ≡ Some t

-- the number of the line that comes behind what has been accepted: that of row k is k + 2
abbrev pub line_number : Progress → ℕ
line_number Progress.Start = 1
line_number (Progress.Rows t) = t.rows + 2

-- it is one more than the lines that are accepted from the start on: `line-number` in proofs/Laws.antt
abbrev pub LineNumber : Type 0
LineNumber = (bytes : List ℕ) (s : Progress) → Accepted Progress.Start bytes s → line_number s ≡ length (lines bytes) + 1

-- ---- a line that is refused

-- It has an LF at its end, and s has been accepted before it: no CR stands before that LF, or what stands before CR LF is refused.
pub record RefusedLine (s : Progress) (line : List ℕ) : Type 0 where
  pub text : List ℕ
  pub ended : line ≡ text ++ (lf ∷ [])
  pub one : no_lf text ≡ true
  pub refused : ends_in_cr text ≡ true → verdict s (take (length text - 1) text) ≡ Verdict.Refused

-- It has no end, and more bytes than any accepted line has.
abbrev pub Overlong : List ℕ → Type 0
Overlong line = (no_lf line ≡ true) × (max_line < length line)

-- Some bytes end with a line that is refused, where s has been accepted before it.
pub record RefusedLast (s : Progress) (bytes : List ℕ) : Type 0 where
  pub before : List ℕ
  pub line : List ℕ
  pub split : bytes ≡ before ++ line
  pub start : line_starts before ≡ true
  pub refused : RefusedLine s line ⊎ Overlong line

-- Behind s, some bytes are lines that are accepted, which gives t, and then one that is refused.
pub record EndedBy (s : Progress) (bytes : List ℕ) (t : Progress) : Type 0 where
  pub before : List ℕ
  pub line : List ℕ
  pub split : bytes ≡ before ++ line
  pub accepted : Accepted s before t
  pub refused : RefusedLine t line
