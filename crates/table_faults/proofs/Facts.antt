-- A fault is found exactly where a line is refused: the statements are in specs/Facts.antt.
use Rattle.std.proofs.Common.{◌≡◌, refl, sym, ◌∙◌, ap, Bool, true, false, not, ◌&&◌, ◌||◌, cond, List, [], ◌∷◌, ◌++◌, ℕ, zero, suc, ◌+◌, ◌-◌, ◌≤◌, ◌<◌, length, get_or, take, Option, Some, None, arith, eqb, ltb, leb, length-append, append_assoc, subst}
use Rattle.std.specs.List.{position, position_from}
use Rattle.std.proofs.lemmas.Iterator.Adapters.{position_from-zero}
use Rattle.std.specs.Char.{is_ascii_digit}
use Rattle.std.specs.Option.{is_some, option_or, option_map, unwrap_or}
use borrow.Author.Tests.{ltb-true, ltb-false, eqb-true, eqb-false, ne_eqb, le-leb, leb-false, not-true}
use Rattle.std.proofs.lemmas.List.{length_push, get_or_push, drop_at, get_or-append_right}
use Rattle.std.proofs.Math.ListN.{get_or-append}
use Rattle.refusal.proofs.Bools.{clash, both}
use Rattle.limits.specs.Limits.{last_row}
use Rattle.table_text.specs.Sizes.{max_fields}
use Rattle.table_text.specs.Text.{lf, fields, all_digits, value, is_number, row_text, params_of}
use Rattle.table_text.specs.Lines.{no_lf}
use Rattle.table_text.specs.Table.{ends_in_cr, opened, counted, verdict}
use Rattle.table_text.specs.declared.Progress.{Progress}
use Rattle.table_text.specs.declared.RowsSoFar.{RowsSoFar}
use Rattle.table_faults.specs.declared.Kind.{Kind}
use Rattle.table_faults.specs.declared.Fault.{Fault}
use Rattle.table_faults.specs.Faults.{told, first_of, no_end, ends_in_lf, limit_of, all_within, bad_field, other_byte, field_fault, fields_fault, params_fault, row_fault, line_fault, ended_fault, last_text, last_line_fault, end_fault_of, refuses}
use Rattle.table_faults.specs.Facts.{LineFault, EndedFault, EndFault, HighField, LastBehind, LastAlone, LastEnded, LastTold, LastOverlong, NeverUnlike}
use Rattle.table_faults.proofs.Laws.{first-bad, first_count, first_good, row-bad, row-wide, row_out, row-good, next-count, next-rows, next-good, blank, at-start, at_rows}
use Rattle.table_faults.proofs.Told.{last_from, last_ended}

-- ---- the first fault of some
some-first : (o p : Option Fault) → is_some (option_or o p) ≡ (is_some o || is_some p)
some-first None p = refl
some-first (Some x) p = refl

some_told : (b : Bool) (x : Fault) → is_some (told b x) ≡ b
some_told true x = refl
some_told false x = refl

-- ---- fields
some-field : (kind : Kind) (k at : ℕ) (f : List ℕ) → is_some (field_fault kind k at f) ≡ not (is_number (limit_of kind k) f)
unfolding field_fault
some-field kind k at f = go (is_number (limit_of kind k) f) _
  where
    go : (b : Bool) (x : Fault) → is_some (cond b None (Some x)) ≡ not b
    go true x = refl
    go false x = refl

some-fields : (kind : Kind) (k at : ℕ) (fs : List (List ℕ)) → is_some (fields_fault kind k at fs) ≡ not (all_within kind k fs)
unfolding fields_fault all_within
some-fields kind k at [] = refl
some-fields kind k at (f ∷ fs) =
    some-first (field_fault kind k at f) _
    ∙ rw (some-field kind k at f, some-fields kind (k + 1) (at + (length f + 1)) fs) (go (is_number (limit_of kind k) f) (all_within kind (k + 1) fs))
  where
    go : (a b : Bool) → (not a || not b) ≡ not (a && b)
    go true b = refl
    go false b = refl

-- ---- the parameters
some-params : (line : List ℕ) → is_some (params_fault line) ≡ refuses (opened (params_of line))
unfolding params_fault
some-params line = simp (some-first, some_told, some-fields) (go (all_within Kind.Params 1 (fields line)) (eqb (length (fields line)) 3) refl refl)
  where
    go : (a b : Bool) → all_within Kind.Params 1 (fields line) ≡ a → eqb (length (fields line)) 3 ≡ b → (not a || (not b || false)) ≡ refuses (opened (params_of line))
    go false b g h = sym (first-bad line g)
    go true false g h = sym (first_count line (eqb-false _ _ h))
    go true true g h = sym (first_good line g (eqb-true _ _ h))

-- ---- a row
some_row : (s : RowsSoFar) (line : List ℕ) → is_some (row_fault s line) ≡ refuses (counted s (row_text line))
unfolding row_fault
some_row s line =
    let n = length (fields line) in
    simp (some-first, some_told, some-fields) (go (all_within Kind.Row 1 (fields line)) (ltb max_fields n) (not (eqb s.count 0) && not (eqb n s.count)) (ltb last_row s.rows) refl refl refl refl)
  where
    go : (a b c d : Bool) → all_within Kind.Row 1 (fields line) ≡ a → ltb max_fields (length (fields line)) ≡ b
        → (not (eqb s.count 0) && not (eqb (length (fields line)) s.count)) ≡ c → ltb last_row s.rows ≡ d
        → (not a || (b || (c || (d || false)))) ≡ refuses (counted s (row_text line))
    go false b c d e f g h = sym (row-bad s line e)
    go true true c d e f g h = sym (row-wide s line (ltb-true _ _ f))
    go true false true d e f g h = sym (row_out s line (next-count s _ g))
    go true false false true e f g h = sym (row_out s line (next-rows s _ (ltb-true _ _ h)))
    go true false false false e f g h = sym (row-good s line e (ltb-false _ _ f) (next-good s _ g (ltb-false _ _ h)))

-- ---- a line
pub line-fault : LineFault
unfolding line_fault
line-fault s [] = sym (blank s [] refl)
line-fault Progress.Start (b ∷ bs) = some-params (b ∷ bs) ∙ ap refuses (sym (at-start (b ∷ bs)))
line-fault (Progress.Rows t) (b ∷ bs) = some_row t (b ∷ bs) ∙ ap refuses (sym (at_rows t (b ∷ bs)))

pub ended-fault : EndedFault
unfolding ended_fault
ended-fault s text = go (ends_in_cr text)
  where
    go : (e : Bool) → is_some (cond e (line_fault s (take (length text - 1) text)) (Some Fault.BareLf)) ≡ (not e || refuses (verdict s (take (length text - 1) text)))
    go true = line-fault s (take (length text - 1) text)
    go false = refl

pub end-fault : EndFault
unfolding end_fault_of
end-fault Progress.Start [] = refl
end-fault (Progress.Rows t) [] = refl
end-fault Progress.Start (b ∷ bs) = line-fault Progress.Start (b ∷ bs)
end-fault (Progress.Rows t) (b ∷ bs) = line-fault (Progress.Rows t) (b ∷ bs)

-- ---- a field above its limit
digits_from : (i : ℕ) (f : List ℕ) → position_from (λ b. not (is_ascii_digit b)) i f ≡ None → all_digits f ≡ true
unfolding all_digits
digits_from i [] h = refl
digits_from i (b ∷ bs) h = go (is_ascii_digit b) (digits_from (i + 1) bs) h
  where
    go : (d : Bool) → (position_from (λ b. not (is_ascii_digit b)) (i + 1) bs ≡ None → all_digits bs ≡ true)
        → cond (not d) (Some i) (position_from (λ b. not (is_ascii_digit b)) (i + 1) bs) ≡ None → (d && all_digits bs) ≡ true
    go true e h = e h
    go false e h = cc

above : (limit : ℕ) (f : List ℕ) → is_number limit f ≡ false → 1 ≤ length f → length f ≤ 8 → all_digits f ≡ true → limit < value f
unfolding is_number
above limit f h a b c = leb-false (value f) limit (rw (le-leb 1 (length f) a, le-leb (length f) 8 b, c) at h)

pub high-field : HighField
unfolding field_fault bad_field other_byte
high-field kind k at f h =
    go (is_number (limit_of kind k) f) (eqb (length f) 0) (position (λ b. not (is_ascii_digit b)) f) (ltb 8 (length f)) refl refl refl refl h
  where
    go : (n e : Bool) (o : Option ℕ) (d : Bool)
        → is_number (limit_of kind k) f ≡ n → eqb (length f) 0 ≡ e → position (λ b. not (is_ascii_digit b)) f ≡ o → ltb 8 (length f) ≡ d
        → cond n None (Some (unwrap_or (first_of (told e (Fault.EmptyField k) ∷ option_map (λ i. Fault.OtherByte (at + i + 1) (get_or f i 0)) o ∷ told d (Fault.Digits k) ∷ [])) (Fault.TooHigh k (limit_of kind k))))
        ≡ Some (Fault.TooHigh k (limit_of kind k))
        → (1 ≤ length f) × (length f ≤ 8) × (all_digits f ≡ true) × (limit_of kind k < value f)
    go true e o d a b p g h = absurd (cc)
    go false true o d a b p g h = absurd (cc)
    go false false (Some i) d a b p g h = absurd (cc)
    go false false None true a b p g h = absurd (cc)
    go false false None false a b p g h =
        let ne = eqb-false _ _ b in
        let some : 1 ≤ length f = omega arith in
        let short = ltb-false _ _ g in
        let digits = digits_from 0 f (sym (position_from-zero (λ b. not (is_ascii_digit b)) f) ∙ p) in
        (some, short, digits, above (limit_of kind k) f a some short digits)

-- ---- the last line of some bytes
no-lf-at : (line : List ℕ) → no_lf line ≡ true → (k : ℕ) → k < length line → get_or line k 0 ≡ lf → ⊥
unfolding no_lf
no-lf-at [] h k a = absurd (omega arith)
no-lf-at (b ∷ bs) h zero a = eqb-false b lf (not-true _ (both (not (eqb b lf)) h).0)
no-lf-at (b ∷ bs) h (suc k) a = no-lf-at bs (both (not (eqb b lf)) h).1 k (omega arith)

pub last-alone : LastAlone
last-alone line h = sym (last_from line 0 (omega arith) (λ k a b. no-lf-at line h k b) (λ s. absurd (omega arith)))

pub last-behind : LastBehind
last-behind before line h =
    let front = before ++ (lf ∷ []) in
    let n = length before + 1 in
    let long : length front ≡ n = length_push before lf in
    let all = length-append front line in
    let at : get_or (front ++ line) (length before) 0 ≡ lf =
    get_or-append front line 0 (length before) (omega arith) ∙ get_or_push before lf 0 _ refl in
    let same : n - 1 ≡ length before = omega arith in
    rw (← append_assoc before (lf ∷ []) line) (
    sym (last_from (front ++ line) n (omega arith) (λ k a b e. no-lf-at line h (k - n) (omega arith) (sym (get_or-append_right front line n k 0 long a) ∙ e))
    (λ s. rw same at)) ∙ drop_at front line n long)

pub last-ended : LastEnded
last-ended s bytes = last_ended s (bytes ++ (lf ∷ [])) bytes lf refl refl

found : (o : Option Fault) (x : Fault) → is_some o ≡ true → o ≡ Some (unwrap_or o x)
found None x h = clash true refl (sym h)
found (Some y) x h = refl

pub last-told : LastTold
last-told s bytes h =
    found _ Fault.Unlike (ended-fault s (last_text bytes) ∙ h) ∙ ap (λ o. Some (unwrap_or o Fault.Unlike)) (sym (last-ended s bytes))

pub last-overlong : LastOverlong
unfolding last_line_fault
last-overlong s bytes h g =
    let some : length bytes ≡ 0 → ⊥ = omega arith in
    let other = ne_eqb _ _ (no-lf-at bytes h (length bytes - 1) (omega arith)) in
    rw (ne_eqb _ _ some, other, last-alone bytes h, le-leb _ _ g)

-- ---- a fault that is found is not `Unlike`
abbrev Named : Option Fault → Type 0
Named None = Unit {0}
Named (Some Fault.Unlike) = ⊥
Named (Some x) = Unit {0}

named_first : (o p : Option Fault) → Named o → Named p → Named (option_or o p)
named_first None p h g = g
named_first (Some x) p h g = h

named_told : (b : Bool) (x : Fault) → Named (Some x) → Named (told b x)
named_told true x h = h
named_told false x h = tt

named_other : (at : ℕ) (f : List ℕ) → Named (other_byte at f)
unfolding other_byte
named_other at f = go (position (λ b. not (is_ascii_digit b)) f)
  where
    go : (o : Option ℕ) → Named (option_map (λ i. Fault.OtherByte (at + i + 1) (get_or f i 0)) o)
    go None = tt
    go (Some i) = tt

named-field : (kind : Kind) (k at : ℕ) (f : List ℕ) → Named (field_fault kind k at f)
unfolding field_fault bad_field
named-field kind k at f =
    go (is_number (limit_of kind k) f) _ (named_first (told (eqb (length f) 0) (Fault.EmptyField k)) _ (named_told (eqb (length f) 0) _ tt)
    (named_first (other_byte at f) _ (named_other at f) (named_first (told (ltb 8 (length f)) (Fault.Digits k)) _ (named_told (ltb 8 (length f)) _ tt) tt)))
  where
    go : (b : Bool) (o : Option Fault) → Named o → Named (cond b None (Some (unwrap_or o (Fault.TooHigh k (limit_of kind k)))))
    go true o h = tt
    go false None h = tt
    go false (Some x) h = h

named-fields : (kind : Kind) (k at : ℕ) (fs : List (List ℕ)) → Named (fields_fault kind k at fs)
unfolding fields_fault
named-fields kind k at [] = tt
named-fields kind k at (f ∷ fs) = named_first _ _ (named-field kind k at f) (named-fields kind (k + 1) (at + (length f + 1)) fs)

named-line : (s : Progress) (line : List ℕ) → Named (line_fault s line)
unfolding line_fault params_fault row_fault
named-line s [] = tt
named-line Progress.Start (b ∷ bs) =
    let n = length (fields (b ∷ bs)) in
    named_first _ _ (named-fields Kind.Params 1 0 (fields (b ∷ bs))) (named_first (told (not (eqb n 3)) (Fault.NotThree n)) None (named_told (not (eqb n 3)) _ tt) tt)
named-line (Progress.Rows t) (b ∷ bs) =
    let n = length (fields (b ∷ bs)) in
    let c = not (eqb t.count 0) && not (eqb n t.count) in
    named_first _ _ (named-fields Kind.Row 1 0 (fields (b ∷ bs))) (
    named_first (told (ltb max_fields n) (Fault.ManyFields n)) _ (named_told (ltb max_fields n) _ tt) (
    named_first (told c (Fault.OtherCount n t.count)) _ (named_told c _ tt) (
    named_first (told (ltb last_row t.rows) Fault.ManyRows) None (named_told (ltb last_row t.rows) _ tt) tt)))

named_ended : (s : Progress) (text : List ℕ) → Named (ended_fault s text)
unfolding ended_fault
named_ended s text = go (ends_in_cr text)
  where
    go : (e : Bool) → Named (cond e (line_fault s (take (length text - 1) text)) (Some Fault.BareLf))
    go true = named-line s (take (length text - 1) text)
    go false = tt

named-last : (s : Progress) (bytes : List ℕ) → Named (last_line_fault s bytes)
unfolding last_line_fault
named-last s bytes =
    go (eqb (length bytes) 0) (ends_in_lf bytes) _ _ (named_ended s (last_text (take (length bytes - 1) bytes)))
    (named_first (told (leb no_end (length (last_text bytes))) Fault.NoEnd) _ (named_told (leb no_end (length (last_text bytes))) _ tt)
    (named_first (line_fault s (last_text bytes)) None (named-line s (last_text bytes)) tt))
  where
    go : (a b : Bool) (o p : Option Fault) → Named o → Named p → Named (cond a (Some Fault.NoLine) (cond b o p))
    go true b o p h g = tt
    go false true o p h g = h
    go false false o p h g = g

pub never-unlike : NeverUnlike
never-unlike s bytes e = subst Named e (named-last s bytes)
