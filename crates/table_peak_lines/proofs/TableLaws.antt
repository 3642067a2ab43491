-- Laws of the text of a line.
use mathlib.Core.Path.{◌≡◌, refl, sym, ap, ◌∙◌}
use mathlib.Core.Bool.{Bool, true, false, cond}
use mathlib.Core.List.{List, ◌++◌, append-nil}
use Prim.Native.Nat.{ℕ, ◌≤◌, ◌+◌, ◌-◌}
use native.Mathlib.Omega.{arith}
use borrow.Author.Tests.{leb-true}
use lib.ListN.{length, take, drop, length-append, length-map, length-drop}
use lib.Seq.{take_at}
use lib.Ieee.{Float}
use Rattle.numeric.specs.Arith.{index_f}
use Rattle.numeric.specs.Numeric.{all_in_range}
use Rattle.refusal.proofs.Bools.{both}
use Rattle.table_text.specs.declared.Progress.{Progress}
use Rattle.table_text.specs.declared.RowsSoFar.{RowsSoFar}
use Rattle.table_text.specs.declared.Verdict.{Verdict}
use Rattle.std.proofs.Common.{Option, Some, None}
use Rattle.table_text.specs.Text.{fields, value, all_numbers, readings, is_row, row_text, params_of}
use Rattle.table_text.specs.Print.{refusal}
use Rattle.table_text.specs.Table.{verdict, is_next, counted, at_line, printed_from}
use Rattle.table_text.proofs.Laws.{row-counted, row-text, never-row}
use Rattle.table_text.proofs.Readings.{readings-range}
use Rattle.table_peak_lines.specs.TableText.{line_text, text_of, peaks_text, Sound, behind_line, LineByLine}

-- ---- verdicts
first-row : (s t : RowsSoFar) (x : Option ℕ) → counted s x ≡ Verdict.Row t → 1 ≤ t.rows
first-row s t None e = let z : ◌≡◌ {A = ℕ} 0 1 = cc in absurd (omega arith)
first-row s t (Some n) e = go (is_next s n) e
  where
    go : (b : Bool) → cond b (Verdict.Row (record { params = s.params; count = n; rows = s.rows + 1 })) Verdict.Refused ≡ Verdict.Row t → 1 ≤ t.rows
    go true e = let k : s.rows + 1 ≡ t.rows = cc in omega arith
    go false e = let z : ◌≡◌ {A = ℕ} 0 1 = cc in absurd (omega arith)

-- An accepted row: at most 4,096 readings, as many as are counted, and all of them numbers with a clear sign.
record Accepted (line : List ℕ) (t : RowsSoFar) : Type 0 where
  first : 1 ≤ t.rows
  most : t.count ≤ 4096
  count : length (readings line) ≡ t.count
  numbers : all_in_range 0x7f80_0000 (readings line) ≡ true

accepted : (s : Progress) (line : List ℕ) (t : RowsSoFar) → verdict s line ≡ Verdict.Row t → Accepted line t
unfolding verdict is_row readings
accepted Progress.Start line t e = absurd (never-row (params_of line) t e)
accepted (Progress.Rows s) line t e =
    let r = row-text line t.count (row-counted s t (row_text line) e) in
    let m = leb-true (length (fields line)) 4096 (both (all_numbers 16777215 (fields line)) r.0).1 in
    record {
      first = first-row s t (row_text line) e;
      most = omega (arith, r.1);
      count = length-map (fields line) (λ f. index_f (value f)) ∙ r.1;
      numbers = readings-range line r.0;
    }

-- the readings of an accepted row at the front of `row`
front-readings : (line : List ℕ) (t : RowsSoFar) (row row₀ : List Float) → Accepted line t → row ≡ readings line ++ drop t.count row₀ → take t.count row ≡ readings line
front-readings line t row row₀ a f = ap (take t.count) f ∙ take_at (readings line) (drop t.count row₀) t.count a.count

pub row-sound : (s : Progress) (line : List ℕ) (row row₀ : List Float) (v : Verdict) → v ≡ verdict s line
    → ((t : RowsSoFar) → v ≡ Verdict.Row t → row ≡ readings line ++ drop t.count row₀) → Sound row v
row-sound s line row row₀ v e f t k =
    let a = accepted s line t (sym e ∙ k) in
    record { first = a.first; most = a.most; numbers = rw (front-readings line t row row₀ a (f t k)) a.numbers }

pub line-text : (s : Progress) (line : List ℕ) (row row₀ : List Float) (v : Verdict) → v ≡ verdict s line
    → ((t : RowsSoFar) → v ≡ Verdict.Row t → row ≡ readings line ++ drop t.count row₀) → text_of row v ≡ line_text line v
line-text s line row row₀ (Verdict.Heading t) e f = refl
line-text s line row row₀ (Verdict.Row t) e f =
    ap (peaks_text t.params (t.rows - 1)) (front-readings line t row row₀ (accepted s line t (sym e)) (f t refl))
line-text s line row row₀ Verdict.Refused e f = refl

-- a text at the front of a buffer is not longer than the buffer
pub text-fits : (x out last : List ℕ) (k : ℕ) → k ≡ length x → last ≡ x ++ drop k out → length last ≡ length out → k ≤ length out
text-fits x out last k e l h =
    let m : length last ≡ length x + (length out - k) = ap length l ∙ simp (length-append, length-drop) in omega arith

-- the table is what its lines give, one after another, as far as the first refusal
pub line-by-line : LineByLine
unfolding printed_from
line-by-line s line more = go (verdict s line)
  where
    go : (v : Verdict) → at_line peaks_text line v (λ t. printed_from peaks_text t more) ≡ line_text line v ++ behind_line v more
    go (Verdict.Heading t) = refl
    go (Verdict.Row t) = refl
    go Verdict.Refused = sym (append-nil refusal)
