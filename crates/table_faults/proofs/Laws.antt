-- Laws of the fields of a line, one after another, and of what a line with bad ones is answered with.
use mathlib.Core.Path.{◌≡◌, refl, sym, ◌∙◌, ap}
use mathlib.Core.Bool.{Bool, true, false, cond, not, ◌&&◌, ◌||◌}
use mathlib.Core.List.{List, [], ◌∷◌}
use Prim.Native.Nat.{ℕ, ◌≤◌, ◌<◌, ◌+◌}
use native.Mathlib.Omega.{arith}
use borrow.Author.Tests.{lt-leb, le-leb}
use lib.Dec.{leb, eqb}
use native.Mathlib.Numerals.{add-one}
use lib.ListN.{length, get_or, drop, drop_of_length-le}
use lib.Seq.{drop-cons}
use Rattle.refusal.proofs.Bools.{clash}
use Rattle.limits.specs.Limits.{max_count, last_row}
use Rattle.table_text.specs.Sizes.{max_number, max_fields}
use Rattle.table_text.specs.Text.{fields, is_number, all_numbers, is_row, row_text, params_text, params_from, params_of}
use Rattle.std.proofs.Common.{Some, None, Result, Ok, Err}
use Rattle.std.specs.Result.{is_ok, is_err, result_err, IsErrAnd, IfOk}
use Rattle.table_text.proofs.Lines.{total, total-line}
use Rattle.table_text.specs.declared.RowsSoFar.{RowsSoFar}
use Rattle.table_text.specs.declared.Progress.{Progress}
use Rattle.table_text.specs.Table.{is_next, opened, counted, verdict}
use Rattle.table_faults.specs.declared.Kind.{Kind}
use Rattle.table_faults.specs.declared.Fault.{Fault}
use Rattle.table_faults.specs.Faults.{limit_of, all_within, field_fault, fields_fault, refuses}

-- ---- results
pub err_or-ok : {A E : Type 0} (r : Result A E) (P : A → Type 0) → is_err r ≡ true → (is_ok r ≡ false) × IfOk r P
err_or-ok (Ok v) P h = clash true refl (sym h)
err_or-ok (Err e) P h = (refl, tt)

-- the error of a result that has one
pub error : {A E : Type 0} (r : Result A E) (e : E) → (is_err r ≡ true) × IsErrAnd r (λ x. x ≡ e) → result_err r ≡ Some e
error (Ok v) e h = absurd h.1
error (Err x) e h = ap Some h.1

-- ---- the fields of a line
-- the first n fields are numbers to their limits, and the next one begins at a place
pub record Seen (kind : Kind) (line : List ℕ) (n at : ℕ) : Type 0 where
  pub within : all_within kind 1 (fields line) ≡ all_within kind (n + 1) (drop n (fields line))
  pub fault : fields_fault kind 1 0 (fields line) ≡ fields_fault kind (n + 1) at (drop n (fields line))
  pub place : at + total (drop n (fields line)) ≡ length line + 1

pub seen-none : (kind : Kind) (line : List ℕ) → Seen kind line 0 0
seen-none kind line = record { within = refl; fault = refl; place = omega (arith, total-line line) }

module _ (kind : Kind) (line : List ℕ) (n at : ℕ) (s : Seen kind line n at) where
  -- the next field
  module _ (f : List ℕ) (h : n < length (fields line)) (e : f ≡ get_or (fields line) n f) where
    rest : drop n (fields line) ≡ f ∷ drop (n + 1) (fields line)
    rest = rw add-one (drop-cons (fields line) n f h) ∙ ap (λ (x : List ℕ). x ∷ drop (n + 1) (fields line)) (sym e)

    pub seen-room : at + (length f + 1) ≤ length line + 1
    unfolding total
    seen-room = let p : at + total (f ∷ drop (n + 1) (fields line)) ≡ length line + 1 = rw rest at s.place in omega (arith, p)

    within_here : all_within kind 1 (fields line) ≡ all_within kind (n + 1) (f ∷ drop (n + 1) (fields line))
    within_here = rw rest at s.within

    fault_here : fields_fault kind 1 0 (fields line) ≡ fields_fault kind (n + 1) at (f ∷ drop (n + 1) (fields line))
    fault_here = rw rest at s.fault

    pub seen-next : is_number (limit_of kind (n + 1)) f ≡ true → field_fault kind (n + 1) at f ≡ None → Seen kind line (n + 1) (at + (length f + 1))
    unfolding all_within fields_fault total
    seen-next g e =
        let p : at + total (f ∷ drop (n + 1) (fields line)) ≡ length line + 1 = rw rest at s.place in
        record { within = within_here ∙ rw g; fault = fault_here ∙ rw e; place = omega (arith, p) }

    pub seen-bad : is_number (limit_of kind (n + 1)) f ≡ false → all_within kind 1 (fields line) ≡ false
    unfolding all_within
    seen-bad g = within_here ∙ rw g

    pub seen-fault : (x : Fault) → field_fault kind (n + 1) at f ≡ Some x → fields_fault kind 1 0 (fields line) ≡ Some x
    unfolding fields_fault
    seen-fault x g = fault_here ∙ rw g

  module _ (e : n ≡ length (fields line)) where
    none_left : drop n (fields line) ≡ []
    none_left = let g : length (fields line) ≤ n = omega (arith, e) in drop_of_length-le (fields line) g

    pub seen-all : all_within kind 1 (fields line) ≡ true
    unfolding all_within
    seen-all = s.within ∙ rw none_left

    pub seen-good : fields_fault kind 1 0 (fields line) ≡ None
    unfolding fields_fault
    seen-good = s.fault ∙ rw none_left

-- ---- what a line is answered with
rows_alike : (k : ℕ) (fs : List (List ℕ)) → all_within Kind.Row k fs ≡ all_numbers max_number fs
unfolding all_within all_numbers
rows_alike k [] = refl
rows_alike k (f ∷ fs) = rw (rows_alike (k + 1) fs)

-- a row
pub row-bad : (s : RowsSoFar) (line : List ℕ) → all_within Kind.Row 1 (fields line) ≡ false → refuses (counted s (row_text line)) ≡ true
unfolding is_row
row-bad s line b = let n = sym (rows_alike 1 (fields line)) ∙ b in rw n

pub row-wide : (s : RowsSoFar) (line : List ℕ) → max_fields < length (fields line) → refuses (counted s (row_text line)) ≡ true
unfolding is_row
row-wide s line h = rw (lt-leb (length (fields line)) max_fields h) (go (all_numbers max_number (fields line)))
  where
    go : (c : Bool) → refuses (counted s (cond (c && false) (Some (length (fields line))) None)) ≡ true
    go true = refl
    go false = refl

pub row_out : (s : RowsSoFar) (line : List ℕ) → is_next s (length (fields line)) ≡ false → refuses (counted s (row_text line)) ≡ true
row_out s line b = go (is_row line)
  where
    go : (c : Bool) → refuses (counted s (cond c (Some (length (fields line))) None)) ≡ true
    go true = rw b
    go false = refl

pub row-good : (s : RowsSoFar) (line : List ℕ) → all_within Kind.Row 1 (fields line) ≡ true → length (fields line) ≤ max_fields → is_next s (length (fields line)) ≡ true → refuses (counted s (row_text line)) ≡ false
unfolding is_row
row-good s line a h b = let n = sym (rows_alike 1 (fields line)) ∙ a in rw (n, le-leb (length (fields line)) max_fields h, b)

-- the parameters
three : (a b c : Bool) (u v w : ℕ) → refuses (opened (params_text (cond a (Some u) None) (cond b (Some v) None) (cond c (Some w) None))) ≡ not (a && (b && (c && true)))
three true true true u v w = refl
three true true false u v w = refl
three true false c u v w = refl
three false b c u v w = refl

params-three : (fs : List (List ℕ)) → all_within Kind.Params 1 fs ≡ false → refuses (opened (params_from fs)) ≡ true
unfolding params_from all_within
params-three [] h = refl
params-three (a ∷ []) h = refl
params-three (a ∷ b ∷ []) h = refl
params-three (a ∷ b ∷ c ∷ []) h = three (is_number max_number a) (is_number max_count b) (is_number max_count c) _ _ _ ∙ ap not h
params-three (a ∷ b ∷ c ∷ d ∷ fs) h = refl

params-count : (fs : List (List ℕ)) → (length fs ≡ 3 → ⊥) → refuses (opened (params_from fs)) ≡ true
unfolding params_from
params-count [] h = refl
params-count (a ∷ []) h = refl
params-count (a ∷ b ∷ []) h = refl
params-count (a ∷ b ∷ c ∷ []) h = absurd (h refl)
params-count (a ∷ b ∷ c ∷ d ∷ fs) h = refl

params-right : (fs : List (List ℕ)) → all_within Kind.Params 1 fs ≡ true → length fs ≡ 3 → refuses (opened (params_from fs)) ≡ false
unfolding params_from all_within
params-right [] h n = absurd (omega arith)
params-right (a ∷ []) h n = absurd (omega arith)
params-right (a ∷ b ∷ []) h n = absurd (omega arith)
params-right (a ∷ b ∷ c ∷ []) h n = three (is_number max_number a) (is_number max_count b) (is_number max_count c) _ _ _ ∙ ap not h
params-right (a ∷ b ∷ c ∷ d ∷ fs) h n = absurd (omega arith)

module _ (line : List ℕ) where
  pub first-bad : all_within Kind.Params 1 (fields line) ≡ false → refuses (opened (params_of line)) ≡ true
  unfolding params_of
  first-bad h = params-three (fields line) h

  pub first_count : (length (fields line) ≡ 3 → ⊥) → refuses (opened (params_of line)) ≡ true
  unfolding params_of
  first_count h = params-count (fields line) h

  pub first_good : all_within Kind.Params 1 (fields line) ≡ true → length (fields line) ≡ 3 → refuses (opened (params_of line)) ≡ false
  unfolding params_of
  first_good h n = params-right (fields line) h n

-- ---- a row of n fields that may not come next, or may
out_of : (a b c : Bool) → (not a && not b) ≡ true → ((a || b) && c) ≡ false
out_of false false c h = refl
out_of false true c h = clash false h refl
out_of true b c h = clash false h refl

in_place : (a b : Bool) → (not a && not b) ≡ false → ((a || b) && true) ≡ true
in_place false false h = clash true refl h
in_place false true h = refl
in_place true b h = refl

behind : (a b : Bool) → ((a || b) && false) ≡ false
behind true b = refl
behind false true = refl
behind false false = refl

pub next-count : (s : RowsSoFar) (n : ℕ) → (not (eqb s.count 0) && not (eqb n s.count)) ≡ true → is_next s n ≡ false
unfolding is_next
next-count s n h = out_of (eqb s.count 0) (eqb n s.count) (leb s.rows last_row) h

pub next-rows : (s : RowsSoFar) (n : ℕ) → last_row < s.rows → is_next s n ≡ false
unfolding is_next
next-rows s n h = rw (lt-leb s.rows last_row h) (behind (eqb s.count 0) (eqb n s.count))

pub next-good : (s : RowsSoFar) (n : ℕ) → (not (eqb s.count 0) && not (eqb n s.count)) ≡ false → s.rows ≤ last_row → is_next s n ≡ true
unfolding is_next
next-good s n h r = rw (le-leb s.rows last_row r) (in_place (eqb s.count 0) (eqb n s.count) h)

-- ---- a blank line
pub blank : (s : Progress) (line : List ℕ) → length line ≡ 0 → refuses (verdict s line) ≡ true
unfolding verdict params_of params_from is_row all_numbers is_number fields
blank Progress.Start [] h = refl
blank (Progress.Rows t) [] h = refl
blank s (b ∷ bs) h = absurd (omega arith)

pub at-start : (line : List ℕ) → verdict Progress.Start line ≡ opened (params_of line)
unfolding verdict
at-start line = refl

pub at_rows : (t : RowsSoFar) (line : List ℕ) → verdict (Progress.Rows t) line ≡ counted t (row_text line)
unfolding verdict
at_rows t line = refl
