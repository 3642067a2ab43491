-- What a reader that looks for LF after LF may rely on: where a line ends, which text is the last line, and that a CR or an LF that stands
-- alone, as every byte that is no digit and no comma, makes its line bad.
use Rattle.std.specs.Prelude.{Some, None}
use Rattle.std.specs.Prelude.{◌≡◌, Bool, true, false, not, ◌&&◌, List, [], ◌∷◌, ◌++◌, ℕ, ◌+◌, ◌-◌, ◌≤◌, ◌<◌, leb, eqb, length, take, drop}
use Rattle.table_text.specs.Sizes.{max_line}
use Rattle.table_text.specs.declared.Progress.{Progress}
use Rattle.table_text.specs.declared.Verdict.{Verdict}
use Rattle.table_text.specs.Text.{comma, lf, next_line}
use Rattle.table_text.specs.Table.{lines, ends_in_cr, verdict}

-- no LF stands in a text
unfoldable pub no_lf : List ℕ → Bool
no_lf [] = true
no_lf (b ∷ bs) = not (eqb b lf) && no_lf bs

-- ---- the first line of a text, by its first LF at place k

-- it stands in front of CR LF: `first-line` in proofs/Lines.antt
abbrev pub FirstLine : Type 0
FirstLine =
    (bs : List ℕ) (k : ℕ) → next_line bs 0 ≡ Some k → ends_in_cr (take k bs) ≡ true
    → lines bs ≡ take (k - 1) bs ∷ lines (drop (k + 1) bs)

-- or is refused, whatever has been accepted before: `first-line-bad`
abbrev pub FirstLineBad : Type 0
FirstLineBad =
    (bs : List ℕ) (k : ℕ) → next_line bs 0 ≡ Some k → ends_in_cr (take k bs) ≡ false
    → (line : List ℕ) × (more : List (List ℕ)) × (lines bs ≡ line ∷ more) × ((s : Progress) → verdict s line ≡ Verdict.Refused)

-- with no LF, the whole text is one line: `only-line`
abbrev pub OnlyLine : Type 0
OnlyLine = (bs : List ℕ) → next_line bs 0 ≡ None → 0 < length bs → lines bs ≡ bs ∷ []

-- ---- lines that are refused, as the first line and as any other

-- one with a byte that is no digit and no comma: `refused` in proofs/Lines.antt
abbrev pub ForeignRefused : Type 0
ForeignRefused =
    (s : Progress) (x : List ℕ) (b : ℕ) (y : List ℕ) → (leb 48 b && leb b 57) ≡ false → eqb b comma ≡ false
    → verdict s (x ++ (b ∷ y)) ≡ Verdict.Refused

-- one that, without its CR LF, has as many bytes as the longest row with its CR, or more: `long-refused`
abbrev pub LongRefused : Type 0
LongRefused = (s : Progress) (line : List ℕ) → max_line ≤ length line → verdict s line ≡ Verdict.Refused
