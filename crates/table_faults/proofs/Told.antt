-- Laws of what is told of a field, of a line and of the last line of some bytes: one for each way that the code takes.
use mathlib.Core.Path.{◌≡◌, refl, sym, ◌∙◌, ap}
use mathlib.Core.Bool.{Bool, true, false, cond, not, ◌&&◌}
use mathlib.Core.List.{List, [], ◌∷◌, ◌++◌}
use Prim.Native.Nat.{ℕ, ◌≤◌, ◌<◌, ◌+◌, ◌-◌}
use native.Mathlib.Omega.{arith}
use borrow.Author.Tests.{lt-ltb, le-ltb, lt-leb, le-leb, eq-eqb, ne_eqb}
use lib.Dec.{leb, eqb}
use lib.ListN.{length, get_or, drop}
use Rattle.std.proofs.Common.{Option, Some, None, Result, Ok, Err}
use Rattle.std.proofs.lemmas.List.{take_at, length_push, get_or_push}
use Rattle.std.proofs.lemmas.List.Sums.{suffix_len_is}
use Rattle.std.specs.Char.{is_ascii_digit}
use Rattle.std.specs.List.{position, suffix_len}
use Rattle.std.specs.Option.{option_or, MatchOption}
use Rattle.std.specs.Result.{is_err, result_err, IsErrAnd}
use Rattle.limits.specs.Limits.{last_row}
use Rattle.table_text.specs.Sizes.{max_fields}
use Rattle.table_text.specs.Text.{lf, fields}
use Rattle.table_text.specs.declared.RowsSoFar.{RowsSoFar}
use Rattle.table_text.specs.declared.Progress.{Progress}
use Rattle.table_text.specs.Table.{cr, ends_in_cr}
use Rattle.table_text.proofs.Laws.{cr-none}
use Rattle.table_faults.specs.declared.Kind.{Kind}
use Rattle.table_faults.specs.declared.Fault.{Fault}
use Rattle.table_faults.specs.Faults.{told, first_of, no_end, other_byte, bad_field, fields_fault, params_fault, row_fault, line_fault, ended_fault, last_text, last_line_fault, end_fault_of}
use Rattle.table_faults.proofs.Laws.{error}

-- ---- a field
module _ (limit k at : ℕ) (f : List ℕ) where
  pub bad_empty : length f ≡ 0 → bad_field limit k at f ≡ Fault.EmptyField k
  unfolding bad_field
  bad_empty h = rw (eq-eqb _ _ h)

  module _ (h : length f ≡ 0 → ⊥) where
    pub bad_byte : (i : ℕ) → position (λ b. not (is_ascii_digit b)) f ≡ Some i → bad_field limit k at f ≡ Fault.OtherByte (at + i + 1) (get_or f i 0)
    unfolding bad_field other_byte
    bad_byte i e = rw (ne_eqb _ _ h, e)

    pub bad-long : position (λ b. not (is_ascii_digit b)) f ≡ None → 8 < length f → bad_field limit k at f ≡ Fault.Digits k
    unfolding bad_field other_byte
    bad-long e g = rw (ne_eqb _ _ h, e, lt-ltb _ _ g)

    pub bad-high : position (λ b. not (is_ascii_digit b)) f ≡ None → length f ≤ 8 → bad_field limit k at f ≡ Fault.TooHigh k limit
    unfolding bad_field other_byte
    bad-high e g = rw (ne_eqb _ _ h, e, le-ltb _ _ g)

-- where the number of a field is asked for
pub from_number : (b : Bool) (v : ℕ) (x : Fault) (o : Option ℕ) (r : Result ℕ Fault) → o ≡ cond b (Some v) None → MatchOption o (IsErrAnd r (λ e. e ≡ x)) (λ w. r ≡ Ok w) → result_err r ≡ cond b None (Some x)
from_number true v x None r h m = cc
from_number true v x (Some w) r h m = rw m
from_number false v x None r h m = error r x (one-sided r x m)
  where
    one-sided : (r : Result ℕ Fault) (x : Fault) → IsErrAnd r (λ e. e ≡ x) → (is_err r ≡ true) × IsErrAnd r (λ e. e ≡ x)
    one-sided (Ok v) x m = absurd m
    one-sided (Err e) x m = (refl, m)
from_number false v x (Some w) r h m = cc

-- ---- the first line
module _ (line : List ℕ) where
  pub params_bad : (x : Fault) → fields_fault Kind.Params 1 0 (fields line) ≡ Some x → params_fault line ≡ Some x
  unfolding params_fault
  params_bad x e = rw e

  module _ (e : fields_fault Kind.Params 1 0 (fields line) ≡ None) where
    pub params_count : (length (fields line) ≡ 3 → ⊥) → params_fault line ≡ Some (Fault.NotThree (length (fields line)))
    unfolding params_fault
    params_count h = rw (e, ne_eqb _ _ h)

    pub params-none : length (fields line) ≡ 3 → params_fault line ≡ None
    unfolding params_fault
    params-none h = rw (e, eq-eqb _ _ h)

-- ---- a row
module _ (s : RowsSoFar) (line : List ℕ) where
  pub row_bad : (x : Fault) → fields_fault Kind.Row 1 0 (fields line) ≡ Some x → row_fault s line ≡ Some x
  unfolding row_fault
  row_bad x e = rw e

  module _ (e : fields_fault Kind.Row 1 0 (fields line) ≡ None) where
    pub row_many : max_fields < length (fields line) → row_fault s line ≡ Some (Fault.ManyFields (length (fields line)))
    unfolding row_fault
    row_many h = rw (e, lt-ltb _ _ h)

    module _ (h : length (fields line) ≤ max_fields) where
      pub row_count : (not (eqb s.count 0) && not (eqb (length (fields line)) s.count)) ≡ true → row_fault s line ≡ Some (Fault.OtherCount (length (fields line)) s.count)
      unfolding row_fault
      row_count g = rw (e, le-ltb _ _ h, g)

      module _ (g : (not (eqb s.count 0) && not (eqb (length (fields line)) s.count)) ≡ false) where
        pub row-past : last_row < s.rows → row_fault s line ≡ Some Fault.ManyRows
        unfolding row_fault
        row-past r = rw (e, le-ltb _ _ h, g, lt-ltb _ _ r)

        pub row-none : s.rows ≤ last_row → row_fault s line ≡ None
        unfolding row_fault
        row-none r = rw (e, le-ltb _ _ h, g, le-ltb _ _ r)

-- ---- a line
pub line-blank : (s : Progress) (line : List ℕ) → length line ≡ 0 → line_fault s line ≡ Some Fault.Blank
unfolding line_fault
line-blank s [] h = refl
line-blank s (b ∷ bs) h = absurd (omega arith)

pub line-params : (line : List ℕ) → (length line ≡ 0 → ⊥) → line_fault Progress.Start line ≡ params_fault line
unfolding line_fault
line-params [] h = absurd (h refl)
line-params (b ∷ bs) h = refl

pub line_row : (t : RowsSoFar) (line : List ℕ) → (length line ≡ 0 → ⊥) → line_fault (Progress.Rows t) line ≡ row_fault t line
unfolding line_fault
line_row t [] h = absurd (h refl)
line_row t (b ∷ bs) h = refl

-- a line that an LF ends
ends-push : (line : List ℕ) (b : ℕ) → ends_in_cr (line ++ (b ∷ [])) ≡ eqb b cr
unfolding ends_in_cr
ends-push [] b = refl
ends-push (x ∷ []) b = refl
ends-push (x ∷ y ∷ ys) b = ends-push (y ∷ ys) b

pub ended-cr : (s : Progress) (text line : List ℕ) (b : ℕ) → text ≡ line ++ (b ∷ []) → b ≡ cr → ended_fault s text ≡ line_fault s line
unfolding ended_fault
ended-cr s text line b e h =
    let n : length line ≡ length (line ++ (b ∷ [])) - 1 = omega (arith, length_push line b) in
    rw (e, ends-push line b, eq-eqb _ _ h, take_at line (b ∷ []) _ n)

pub ended-bare : (s : Progress) (text line : List ℕ) (b : ℕ) → text ≡ line ++ (b ∷ []) → (b ≡ cr → ⊥) → ended_fault s text ≡ Some Fault.BareLf
unfolding ended_fault
ended-bare s text line b e h = rw (e, ends-push line b, ne_eqb _ _ h)

pub ended_none : (s : Progress) (text : List ℕ) → length text ≡ 0 → ended_fault s text ≡ Some Fault.BareLf
unfolding ended_fault
ended_none s text h = rw (sym (cr-none text h))

-- ---- the last line of some bytes

-- what stands behind the last LF, which stands before place n
pub last_from : (bytes : List ℕ) (n : ℕ) → n ≤ length bytes → ((k : ℕ) → n ≤ k → k < length bytes → get_or bytes k 0 ≡ lf → ⊥) → (0 < n → get_or bytes (n - 1) 0 ≡ lf) → drop n bytes ≡ last_text bytes
last_from bytes n le none at =
    let e : suffix_len (λ b. not (eqb b lf)) bytes ≡ length bytes - n =
    suffix_len_is _ bytes n 0 le (λ k a b. ap not (ne_eqb _ _ (none k a b))) (λ s. ap not (eq-eqb _ _ (at s))) in
    let m : n ≡ length bytes - suffix_len (λ b. not (eqb b lf)) bytes = omega arith in
    ap (λ k. drop k bytes) m

-- the place of the last LF, if there is one
abbrev pub LastLf : List ℕ → Option ℕ → Type 0
LastLf bytes o =
    MatchOption o ((k : ℕ) → k < length bytes → get_or bytes k 0 ≡ lf → ⊥)
    (λ i. (i < length bytes) × (get_or bytes i 0 ≡ lf) × ((k : ℕ) → i + 1 ≤ k → k < length bytes → get_or bytes k 0 ≡ lf → ⊥))

pub behind_lf : (bytes : List ℕ) (o : Option ℕ) (n : ℕ) → LastLf bytes o → MatchOption o (n ≡ 0) (λ i. n ≡ i + 1) → drop n bytes ≡ last_text bytes
behind_lf bytes None n h e = rw e (last_from bytes 0 (omega arith) (λ k a b. h k b) (λ s. absurd (omega arith)))
behind_lf bytes (Some i) n h e = rw e (last_from bytes (i + 1) (omega (arith, h.0)) h.2 (λ s. let p : i + 1 - 1 ≡ i = omega arith in rw p h.1))

-- where x is the last byte
last_byte : (line : List ℕ) (x : ℕ) → get_or (line ++ (x ∷ [])) (length (line ++ (x ∷ [])) - 1) 0 ≡ x
last_byte line x = get_or_push line x 0 _ (omega (arith, length_push line x))

pub last-none : (s : Progress) (bytes : List ℕ) → length bytes ≡ 0 → last_line_fault s bytes ≡ Some Fault.NoLine
unfolding last_line_fault
last-none s bytes h = rw (eq-eqb _ _ h)

module _ (s : Progress) (bytes text : List ℕ) (x : ℕ) (e : bytes ≡ text ++ (x ∷ [])) where
  pub last_ended : x ≡ lf → last_line_fault s bytes ≡ ended_fault s (last_text text)
  unfolding last_line_fault
  last_ended h =
      let n : length text ≡ length (text ++ (x ∷ [])) - 1 = omega (arith, length_push text x) in
      let some : length (text ++ (x ∷ [])) ≡ 0 → ⊥ = omega (arith, length_push text x) in
      rw (e, ne_eqb _ _ some, last_byte text x, eq-eqb _ _ h, take_at text (x ∷ []) _ n)

  module _ (h : x ≡ lf → ⊥) where
    open_line : last_line_fault s bytes ≡ first_of (told (leb no_end (length (last_text bytes))) Fault.NoEnd ∷ line_fault s (last_text bytes) ∷ [])
    unfolding last_line_fault
    open_line =
        let some : length (text ++ (x ∷ [])) ≡ 0 → ⊥ = omega (arith, length_push text x) in
        rw (e, ne_eqb _ _ some, last_byte text x, ne_eqb _ _ h)

    pub last-long : no_end ≤ length (last_text bytes) → last_line_fault s bytes ≡ Some Fault.NoEnd
    last-long g = open_line ∙ rw (le-leb _ _ g)

    pub last-open : length (last_text bytes) < no_end → last_line_fault s bytes ≡ line_fault s (last_text bytes)
    last-open g = open_line ∙ rw (lt-leb _ _ g) (whole (line_fault s (last_text bytes)))
      where
        whole : (o : Option Fault) → option_or o None ≡ o
        whole None = refl
        whole (Some x) = refl

-- ---- the end of the input
pub end-start : (bytes : List ℕ) → length bytes ≡ 0 → end_fault_of Progress.Start bytes ≡ Some Fault.NoLine
unfolding end_fault_of
end-start [] h = refl
end-start (b ∷ bs) h = absurd (omega arith)

pub end_rows : (t : RowsSoFar) (bytes : List ℕ) → length bytes ≡ 0 → end_fault_of (Progress.Rows t) bytes ≡ None
unfolding end_fault_of
end_rows t [] h = refl
end_rows t (b ∷ bs) h = absurd (omega arith)

pub end-line : (s : Progress) (bytes : List ℕ) → (length bytes ≡ 0 → ⊥) → end_fault_of s bytes ≡ line_fault s bytes
unfolding end_fault_of
end-line s [] h = absurd (h refl)
end-line Progress.Start (b ∷ bs) h = refl
end-line (Progress.Rows t) (b ∷ bs) h = refl
