-- That a fault is found in the last line of bytes where that line is refused.
use Rattle.std.proofs.Common.{◌≡◌, ◌≢◌, refl, sym, ◌∙◌, ap, Bool, true, false, not, ◌||◌, ◌⊎◌, List, [], ◌∷◌, ◌++◌, ℕ, ◌-◌, length, take, Option, Some, None, arith, leb, eqb, append_assoc}
use Rattle.std.specs.Option.{unwrap_or, is_some}
use mathlib.Core.Logic.{inl, inr}
use borrow.Author.Tests.{eqb-true, eqb-false, leb-true, leb-false, not-true}
use Rattle.refusal.proofs.Bools.{clash, both}
use Rattle.table_text.specs.Text.{lf}
use Rattle.table_text.specs.Table.{ends_in_cr, verdict}
use Rattle.table_text.specs.Lines.{no_lf}
use Rattle.table_text.specs.declared.Progress.{Progress}
use Rattle.table_text.specs.declared.Verdict.{Verdict}
use Rattle.table_text.proofs.Lines.{long-refused}
use Rattle.table_faults.specs.declared.Fault.{Fault}
use Rattle.table_faults.specs.Faults.{no_end, last_text, line_fault, last_line_fault, last_fault_of, refuses, refused_ended}
use Rattle.table_faults.proofs.Facts.{line-fault, ended-fault, last-behind, last-alone, last-ended, never-unlike}
use Rattle.table_faults.proofs.Told.{last-long, last-open}
use Rattle.table_lines.specs.Refused.{line_starts, RefusedLine, Overlong, RefusedLast}

-- ---- the line behind some bytes that it starts behind
ends-lf : (b : ℕ) (bs : List ℕ) → line_starts (b ∷ bs) ≡ true → (x : List ℕ) × (b ∷ bs ≡ x ++ (lf ∷ []))
unfolding line_starts
ends-lf b [] h = ([], ap (λ (n : ℕ). n ∷ []) (eqb-true b lf h))
ends-lf b (c ∷ bs) h = let t = ends-lf c bs h in (b ∷ t.0, ap (λ (l : List ℕ). b ∷ l) t.1)

last_line : (before text : List ℕ) → line_starts before ≡ true → no_lf text ≡ true → last_text (before ++ text) ≡ text
last_line [] text h g = last-alone text g
last_line (b ∷ bs) text h g =
    let t = ends-lf b bs h in
    ap (λ (l : List ℕ). last_text (l ++ text)) t.1 ∙ ap last_text (append_assoc t.0 (lf ∷ []) text) ∙ last-behind t.0 text g

-- ---- a fault is found
refused-text : (s : Progress) (text : List ℕ) → (ends_in_cr text ≡ true → verdict s (take (length text - 1) text) ≡ Verdict.Refused) → refused_ended s text ≡ true
refused-text s text h = go (ends_in_cr text) h
  where
    go : (e : Bool) → (e ≡ true → verdict s (take (length text - 1) text) ≡ Verdict.Refused) → (not e || refuses (verdict s (take (length text - 1) text))) ≡ true
    go true h = ap refuses (h refl)
    go false h = refl

-- no line without an LF ends in one
last-byte : (b : ℕ) (bs : List ℕ) → (y : List ℕ) × (x : ℕ) × (b ∷ bs ≡ y ++ (x ∷ [])) × (no_lf (b ∷ bs) ≡ true → x ≡ lf → ⊥)
unfolding no_lf
last-byte b [] = ([], b, refl, λ h. eqb-false b lf (not-true _ (both (not (eqb b lf)) h).0))
last-byte b (c ∷ bs) =
    let t = last-byte c bs in
    (b ∷ t.0, t.1, ap (λ (l : List ℕ). b ∷ l) t.2, λ h. t.3 (both (not (eqb b lf)) h).1)

module _ (s : Progress) (bytes before : List ℕ) (starts : line_starts before ≡ true) where
  -- where an LF ends the line
  found-ended : (line : List ℕ) → bytes ≡ before ++ line → RefusedLine s line → is_some (last_line_fault s bytes) ≡ true
  found-ended line split r =
      let x = before ++ r.text in
      let e : bytes ≡ x ++ (lf ∷ []) = split ∙ ap (λ (l : List ℕ). before ++ l) r.ended ∙ sym (append_assoc before r.text (lf ∷ [])) in
      let h : refused_ended s (last_text x) ≡ true = rw (last_line before r.text starts r.one) (refused-text s r.text r.refused) in
      rw e (ap is_some (last-ended s x) ∙ ended-fault s (last_text x) ∙ h)

  -- and where it has no end
  found-open : (line : List ℕ) → bytes ≡ before ++ line → Overlong line → is_some (last_line_fault s bytes) ≡ true
  found-open [] split long = absurd (omega (arith, long.1))
  found-open (b ∷ bs) split long = go (leb no_end (length (last_text bytes))) refl
    where
      at : (y : List ℕ) × (x : ℕ) × (bytes ≡ y ++ (x ∷ [])) × (x ≡ lf → ⊥)
      at =
          let t = last-byte b bs in
          (before ++ t.0, t.1, split ∙ ap (λ (l : List ℕ). before ++ l) t.2 ∙ sym (append_assoc before t.0 (t.1 ∷ [])), t.3 long.0)

      line : last_text bytes ≡ b ∷ bs
      line = ap last_text split ∙ last_line before (b ∷ bs) starts long.0

      go : (e : Bool) → leb no_end (length (last_text bytes)) ≡ e → is_some (last_line_fault s bytes) ≡ true
      go true e = ap is_some (last-long s bytes at.0 at.1 at.2 at.3 (leb-true _ _ e))
      go false e =
          ap is_some (last-open s bytes at.0 at.1 at.2 at.3 (leb-false _ _ e) ∙ ap (line_fault s) line) ∙ line-fault s (b ∷ bs)
          ∙ ap refuses (long-refused s (b ∷ bs) (omega (arith, long.1)))

found-any : (s : Progress) (bytes : List ℕ) → RefusedLast s bytes → is_some (last_line_fault s bytes) ≡ true
found-any s bytes r = go r.refused
  where
    go : RefusedLine s r.line ⊎ Overlong r.line → is_some (last_line_fault s bytes) ≡ true
    go (inl q) = found-ended s bytes r.before r.start r.line r.split q
    go (inr q) = found-open s bytes r.before r.start r.line r.split q

pub found-last : (s : Progress) (bytes : List ℕ) → RefusedLast s bytes → last_line_fault s bytes ≡ Some (last_fault_of s bytes)
found-last s bytes r = go _ (found-any s bytes r)
  where
    go : (o : Option Fault) → is_some o ≡ true → o ≡ Some (unwrap_or o Fault.Unlike)
    go None e = clash true refl (sym e)
    go (Some x) e = refl

-- and it is one with a name
pub never-unlike-last : (s : Progress) (bytes : List ℕ) → RefusedLast s bytes → last_fault_of s bytes ≢ Fault.Unlike
never-unlike-last s bytes r e = never-unlike s bytes (found-last s bytes r ∙ ap Some e)
