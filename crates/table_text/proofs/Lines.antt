-- What a reader that looks for LF after LF may rely on: where a line ends, which text is the last line, and that a CR or an LF
-- that stands alone, as every byte that is no digit and no comma, makes its line bad.
use Rattle.std.proofs.Common.{Some, None}
use mathlib.Core.Path.{◌≡◌, refl, sym, ◌∙◌, ap}
use mathlib.Core.Bool.{Bool, true, false, cond, not, ◌&&◌}
use mathlib.Core.List.{List, [], ◌∷◌, ◌++◌, append_assoc}
use Prim.Native.Nat.{ℕ, suc, ◌≤◌, ◌<◌, ◌+◌, ◌-◌, ◌*◌}
use native.Mathlib.Omega.{arith}
use native.Mathlib.Nat.{zero-add}
use native.Mathlib.Numerals.{sub-one}
use borrow.Author.Tests.{eqb-true, leb-true, le-leb, lt-leb}
use lib.Dec.{leb, eqb}
use lib.ListN.{length, take, drop}
use lib.Seq.{take_at, take-take, drop-append-add}
use Rattle.limits.specs.Limits.{max_count}
use Rattle.refusal.proofs.Bools.{clash}
use Rattle.table_text.specs.Sizes.{max_number, max_fields, max_line}
use Rattle.table_text.specs.declared.Progress.{Progress}
use Rattle.table_text.specs.declared.Verdict.{Verdict}
use Rattle.table_text.specs.Text.{comma, onto, fields, all_digits, value, is_number, all_numbers, is_row, params_text, params_from, params_of, lf, lf_from, next_line}
use Rattle.table_text.specs.Table.{cr, lines, ends_in_cr, verdict}
use Rattle.table_text.specs.Lines.{no_lf, FirstLine, FirstLineBad, OnlyLine, ForeignRefused, LongRefused}
use Rattle.std.proofs.Math.Bool.{and-false}

-- ---- where a line ends

-- what stands in front of the first LF, if it ends in CR, is the first line with its CR
pub line-ends : (x rest : List ℕ) → no_lf x ≡ true → lines (x ++ (cr ∷ lf ∷ rest)) ≡ x ∷ lines rest
unfolding lines no_lf
line-ends [] rest h = refl
line-ends (b ∷ []) rest h = go (eqb b cr)
  where
    go : (e : Bool) → cond (e && false) ([] ∷ lines (lf ∷ rest)) ((b ∷ []) ∷ lines rest) ≡ (b ∷ []) ∷ lines rest
    go true = refl
    go false = refl
line-ends (b ∷ c ∷ x) rest h = go (eqb b cr) (eqb b lf) (eqb c lf) h (line-ends (c ∷ x) rest)
  where
    go : (d e f : Bool) → (not e && (not f && no_lf x)) ≡ true → ((not f && no_lf x) ≡ true → lines (c ∷ (x ++ (cr ∷ lf ∷ rest))) ≡ (c ∷ x) ∷ lines rest)
        → cond (d && f) ([] ∷ lines (x ++ (cr ∷ lf ∷ rest))) (onto b (lines (c ∷ (x ++ (cr ∷ lf ∷ rest))))) ≡ (b ∷ c ∷ x) ∷ lines rest
    go d true f h r = clash false h refl
    go d false true h r = clash false h refl
    go true false false h r = ap (onto b) (r h)
    go false false false h r = ap (onto b) (r h)

-- a text with no LF, but for the empty one, is one line
pub last_line : (x : List ℕ) → no_lf x ≡ true → 0 < length x → lines x ≡ x ∷ []
unfolding lines no_lf
last_line [] h p = absurd (omega arith)
last_line (b ∷ []) h p = refl
last_line (b ∷ c ∷ x) h p = go (eqb b cr) (eqb b lf) (eqb c lf) h (last_line (c ∷ x))
  where
    go : (d e f : Bool) → (not e && (not f && no_lf x)) ≡ true → ((not f && no_lf x) ≡ true → 0 < suc (length x) → lines (c ∷ x) ≡ (c ∷ x) ∷ [])
        → cond (d && f) ([] ∷ lines x) (onto b (lines (c ∷ x))) ≡ (b ∷ c ∷ x) ∷ []
    go d true f h r = clash false h refl
    go d false true h r = clash false h refl
    go true false false h r = ap (onto b) (r h (omega arith))
    go false false false h r = ap (onto b) (r h (omega arith))

-- else the first line goes on with that LF
pub lone-lf : (x rest : List ℕ) → no_lf x ≡ true → ends_in_cr x ≡ false
    → (y : List ℕ) × (ls : List (List ℕ)) × (lines (x ++ (lf ∷ rest)) ≡ (x ++ (lf ∷ y)) ∷ ls)
unfolding lines no_lf ends_in_cr
lone-lf [] [] h e = ([], [], refl)
lone-lf [] (c ∷ rest) h e = go (lines (c ∷ rest))
  where
    go : (m : List (List ℕ)) → (y : List ℕ) × (ls : List (List ℕ)) × (onto lf m ≡ (lf ∷ y) ∷ ls)
    go [] = ([], [], refl)
    go (f ∷ fs) = (f, fs, refl)
lone-lf (b ∷ []) rest h e = go (lone-lf [] rest refl refl)
  where
    go : (y : List ℕ) × (ls : List (List ℕ)) × (lines (lf ∷ rest) ≡ (lf ∷ y) ∷ ls)
        → (y : List ℕ) × (ls : List (List ℕ)) × (lines (b ∷ lf ∷ rest) ≡ (b ∷ lf ∷ y) ∷ ls)
    go t = (t.0, t.1, rw e (ap (onto b) t.2))
lone-lf (b ∷ c ∷ x) rest h e = go (eqb b cr) (eqb b lf) (eqb c lf) h (lone-lf (c ∷ x) rest)
  where
    go : (d m n : Bool) → (not m && (not n && no_lf x)) ≡ true
        → ((not n && no_lf x) ≡ true → ends_in_cr (c ∷ x) ≡ false → (y : List ℕ) × (ls : List (List ℕ)) × (lines (c ∷ (x ++ (lf ∷ rest))) ≡ (c ∷ (x ++ (lf ∷ y))) ∷ ls))
        → (y : List ℕ) × (ls : List (List ℕ)) × (cond (d && n) ([] ∷ lines (x ++ (lf ∷ rest))) (onto b (lines (c ∷ (x ++ (lf ∷ rest))))) ≡ (b ∷ c ∷ (x ++ (lf ∷ y))) ∷ ls)
    go d true n h r = clash false h refl
    go d false true h r = clash false h refl
    go true false false h r = let t = r h e in (t.0, t.1, ap (onto b) t.2)
    go false false false h r = let t = r h e in (t.0, t.1, ap (onto b) t.2)

-- ---- the place that `next_line` gives
pub lf-at : (j : ℕ) (l : List ℕ) (k : ℕ) → lf_from j l ≡ Some k
    → (x : List ℕ) × (rest : List ℕ) × (l ≡ x ++ (lf ∷ rest)) × (k ≡ j + length x) × (no_lf x ≡ true)
unfolding lf_from no_lf
lf-at j [] k h = let z : ◌≡◌ {A = ℕ} 0 1 = cc in absurd (omega arith)
lf-at j (b ∷ bs) k h = go (eqb b lf) refl h (lf-at (j + 1) bs k)
  where
    go : (e : Bool) → eqb b lf ≡ e → cond e (Some j) (lf_from (j + 1) bs) ≡ Some k
        → (lf_from (j + 1) bs ≡ Some k → (x : List ℕ) × (rest : List ℕ) × (bs ≡ x ++ (lf ∷ rest)) × (k ≡ j + 1 + length x) × (no_lf x ≡ true))
        → (x : List ℕ) × (rest : List ℕ) × (b ∷ bs ≡ x ++ (lf ∷ rest)) × (k ≡ j + length x) × (no_lf x ≡ true)
    go true e h r = let i : k ≡ j = cc in ([], bs, ap (λ (z : ℕ). z ∷ bs) (eqb-true b lf e), omega arith, refl)
    go false e h r = let t = r h in (b ∷ t.0, t.1, ap (λ (z : List ℕ). b ∷ z) t.2, omega (arith, t.3), rw e t.4)

pub lf-missing : (j : ℕ) (l : List ℕ) → lf_from j l ≡ None → no_lf l ≡ true
unfolding lf_from no_lf
lf-missing j [] h = refl
lf-missing j (b ∷ bs) h = go (eqb b lf) h (lf-missing (j + 1) bs)
  where
    go : (e : Bool) → cond e (Some j) (lf_from (j + 1) bs) ≡ None → (lf_from (j + 1) bs ≡ None → no_lf bs ≡ true) → (not e && no_lf bs) ≡ true
    go true h r = let z : ◌≡◌ {A = ℕ} 0 1 = cc in absurd (omega arith)
    go false h r = r h

-- a text that ends in CR, and the text in front of that
cr-last : (x : List ℕ) → ends_in_cr x ≡ true → x ≡ take (length x - 1) x ++ (cr ∷ [])
unfolding ends_in_cr
cr-last [] h = clash false h refl
cr-last (b ∷ []) h = ap (λ (z : ℕ). z ∷ []) (eqb-true b cr h)
cr-last (b ∷ c ∷ x) h = rw (sub-one (suc (suc (length x)))) (ap (λ (z : List ℕ). b ∷ z) (rw (sub-one (suc (length x))) at (cr-last (c ∷ x) h)))

no-lf-front : (x y : List ℕ) → no_lf (x ++ y) ≡ true → no_lf x ≡ true
unfolding no_lf
no-lf-front [] y h = refl
no-lf-front (b ∷ x) y h = go (not (eqb b lf)) h (no-lf-front x y)
  where
    go : (e : Bool) → (e && no_lf (x ++ y)) ≡ true → (no_lf (x ++ y) ≡ true → no_lf x ≡ true) → (e && no_lf x) ≡ true
    go true h r = r h
    go false h r = h

-- ---- bad lines
all_of_digits : List (List ℕ) → Bool
all_of_digits [] = true
all_of_digits (f ∷ fs) = all_digits f && all_of_digits fs

stays-bad : (b : ℕ) (fs : List (List ℕ)) → all_of_digits fs ≡ false → all_of_digits (onto b fs) ≡ false
unfolding all_of_digits all_digits
stays-bad b [] h = clash true refl h
stays-bad b (f ∷ fs) h = go (leb 48 b && leb b 57) (all_digits f) h
  where
    go : (e d : Bool) → (d && all_of_digits fs) ≡ false → (e && d && all_of_digits fs) ≡ false
    go true d h = h
    go false d h = refl

made-bad : (b : ℕ) (fs : List (List ℕ)) → (leb 48 b && leb b 57) ≡ false → all_of_digits (onto b fs) ≡ false
unfolding all_of_digits all_digits
made-bad b [] h = rw h
made-bad b (f ∷ fs) h = rw h

bad-fields : (x : List ℕ) (b : ℕ) (y : List ℕ) → (leb 48 b && leb b 57) ≡ false → eqb b comma ≡ false → all_of_digits (fields (x ++ (b ∷ y))) ≡ false
unfolding fields all_of_digits all_digits
bad-fields [] b y h e = rw e (made-bad b (fields y) h)
bad-fields (d ∷ x) b y h e = go (eqb d comma) (bad-fields x b y h e)
  where
    go : (m : Bool) → all_of_digits (fields (x ++ (b ∷ y))) ≡ false → all_of_digits (cond m ([] ∷ fields (x ++ (b ∷ y))) (onto d (fields (x ++ (b ∷ y))))) ≡ false
    go true r = r
    go false r = stays-bad d (fields (x ++ (b ∷ y))) r

number_digits : (limit : ℕ) (f : List ℕ) → all_digits f ≡ false → is_number limit f ≡ false
unfolding is_number
number_digits limit f h = rw h (go (leb 1 (length f)) (leb (length f) 8))
  where
    go : (a b : Bool) → (a && b && false && leb (value f) limit) ≡ false
    go true true = refl
    go true false = refl
    go false b = refl

bad-numbers : (limit : ℕ) (fs : List (List ℕ)) → all_of_digits fs ≡ false → all_numbers limit fs ≡ false
unfolding all_of_digits all_numbers
bad-numbers limit [] h = clash true refl h
bad-numbers limit (f ∷ fs) h = go (all_digits f) refl h (bad-numbers limit fs)
  where
    go : (d : Bool) → all_digits f ≡ d → (d && all_of_digits fs) ≡ false → (all_of_digits fs ≡ false → all_numbers limit fs ≡ false)
        → (is_number limit f && all_numbers limit fs) ≡ false
    go true e h r = rw (r h) (and-false (is_number limit f))
    go false e h r = rw (number_digits limit f e)

-- fields that are not all numbers are no parameters
wider : (f : List ℕ) → is_number max_count f ≡ true → is_number max_number f ≡ true
unfolding is_number
wider f h = go (leb 1 (length f) && leb (length f) 8 && all_digits f) (leb (value f) max_count) refl h
  where
    go : (a b : Bool) → leb (value f) max_count ≡ b → (a && b) ≡ true → (a && leb (value f) max_number) ≡ true
    go true true e h = let k : value f ≤ max_count = leb-true (value f) max_count e in le-leb (value f) max_number (omega arith)
    go true false e h = clash false h refl
    go false b e h = h

no-params : (fs : List (List ℕ)) → all_numbers max_number fs ≡ false → params_from fs ≡ None
unfolding params_from all_numbers
no-params [] h = refl
no-params (a ∷ []) h = refl
no-params (a ∷ b ∷ []) h = refl
no-params (a ∷ b ∷ c ∷ []) h = go (is_number max_number a) refl (is_number max_count b) refl (is_number max_count c) refl
  where
    go : (x : Bool) → is_number max_number a ≡ x → (y : Bool) → is_number max_count b ≡ y → (z : Bool) → is_number max_count c ≡ z
        → params_text (cond x (Some (value a)) None) (cond y (Some (value b)) None) (cond z (Some (value c)) None) ≡ None
    go false e y f z g = refl
    go true e false f z g = refl
    go true e true f false g = refl
    go true e true f true g = clash (is_number max_number a && (is_number max_number b && (is_number max_number c && true))) (rw (e, wider b f, wider c g)) h
no-params (a ∷ b ∷ c ∷ d ∷ fs) h = refl

-- a line with a byte that is no digit and no comma is refused, as the first line and as any other
pub refused : ForeignRefused
unfolding verdict params_of is_row
refused Progress.Start x b y h e = rw (no-params (fields (x ++ (b ∷ y))) (bad-numbers max_number (fields (x ++ (b ∷ y))) (bad-fields x b y h e)))
refused (Progress.Rows s) x b y h e = rw (bad-numbers max_number (fields (x ++ (b ∷ y))) (bad-fields x b y h e))

pub lf-refused : (s : Progress) (x y : List ℕ) → verdict s (x ++ (lf ∷ y)) ≡ Verdict.Refused
lf-refused s x y = refused s x lf y refl refl

pub cr-refused : (s : Progress) (x y : List ℕ) → verdict s (x ++ (cr ∷ y)) ≡ Verdict.Refused
cr-refused s x y = refused s x cr y refl refl

-- ---- long lines: more than 4,096 fields of 8 digits with their commas

-- the bytes of fields, and of each a comma or the end behind it
unfoldable pub total : List (List ℕ) → ℕ
total [] = 0
total (f ∷ fs) = length f + 1 + total fs

pub total-line : (line : List ℕ) → total (fields line) ≡ length line + 1
unfolding total fields
total-line [] = refl
total-line (b ∷ bs) = go (eqb b comma) (fields bs) (total-line bs)
  where
    go : (e : Bool) (fs : List (List ℕ)) → total fs ≡ length bs + 1 → total (cond e ([] ∷ fs) (onto b fs)) ≡ suc (length bs) + 1
    go true fs h = omega arith
    go false [] h = absurd (omega arith)
    go false (f ∷ fs) h = omega arith

-- every line has a field, so the count 0 is that of no row
pub some-field : (line : List ℕ) → 1 ≤ length (fields line)
unfolding total
some-field line = go (fields line) (total-line line)
  where
    go : (fs : List (List ℕ)) → total fs ≡ length line + 1 → 1 ≤ length fs
    go [] h = absurd (omega arith)
    go (f ∷ fs) h = omega arith

total-most : (fs : List (List ℕ)) → all_numbers max_number fs ≡ true → total fs ≤ 9 * length fs
unfolding total all_numbers is_number
total-most [] h = omega arith
total-most (f ∷ fs) h = go (leb 1 (length f)) (leb (length f) 8) refl (all_digits f) (leb (value f) max_number) h (total-most fs)
  where
    go : (a b : Bool) → leb (length f) 8 ≡ b → (c d : Bool) → (a && b && c && d && all_numbers max_number fs) ≡ true
        → (all_numbers max_number fs ≡ true → total fs ≤ 9 * length fs) → length f + 1 + total fs ≤ 9 * suc (length fs)
    go false b e c d h r = clash false h refl
    go true false e c d h r = clash false h refl
    go true true e false d h r = clash false h refl
    go true true e true false h r = clash false h refl
    go true true e true true h r = let k : length f ≤ 8 = leb-true (length f) 8 e in let m : total fs ≤ 9 * length fs = r h in omega arith

long-params : (fs : List (List ℕ)) → max_line < total fs → params_from fs ≡ None
unfolding params_from
long-params [] h = refl
long-params (a ∷ []) h = refl
long-params (a ∷ b ∷ []) h = refl
long-params (a ∷ b ∷ c ∷ []) h = go (all_numbers max_number (a ∷ b ∷ c ∷ [])) refl
  where
    go : (e : Bool) → all_numbers max_number (a ∷ b ∷ c ∷ []) ≡ e → params_from (a ∷ b ∷ c ∷ []) ≡ None
    go true e = let m : total (a ∷ b ∷ c ∷ []) ≤ 9 * 3 = total-most (a ∷ b ∷ c ∷ []) e in absurd (omega arith)
    go false e = no-params (a ∷ b ∷ c ∷ []) e
long-params (a ∷ b ∷ c ∷ d ∷ fs) h = refl

long-row : (fs : List (List ℕ)) → max_line < total fs → (all_numbers max_number fs && leb (length fs) max_fields) ≡ false
long-row fs h = go (all_numbers max_number fs) refl
  where
    go : (e : Bool) → all_numbers max_number fs ≡ e → (e && leb (length fs) max_fields) ≡ false
    go true e = let m : total fs ≤ 9 * length fs = total-most fs e in lt-leb (length fs) max_fields (omega arith)
    go false e = refl

-- a line that, without its CR LF, has as many bytes as the longest row with its CR is refused, and so is any longer one
pub long-refused : LongRefused
unfolding verdict params_of is_row
long-refused Progress.Start line h = let t = total-line line in rw (long-params (fields line) (omega (arith, t)))
long-refused (Progress.Rows s) line h = let t = total-line line in rw (long-row (fields line) (omega (arith, t)))

-- ---- the first line of a text, by its first LF

front : (bs : List ℕ) (k : ℕ) (h : next_line bs 0 ≡ Some k) → take k bs ≡ (lf-at 0 bs k h).0
front bs k h =
    let t = lf-at 0 bs k h in
    ap (take k) t.2 ∙ take_at t.0 (lf ∷ t.1) k (sym (t.3 ∙ zero-add (length t.0)))

-- it stands in front of CR LF
pub first-line : FirstLine
first-line bs k h e =
    let t = lf-at 0 bs k h in
    let x = t.0 in
    let n : k ≡ length x = t.3 ∙ zero-add (length x) in
    let y = take (length x - 1) x in
    let a : x ≡ y ++ (cr ∷ []) = cr-last x (ap ends_in_cr (sym (front bs k h)) ∙ e) in
    let b : bs ≡ y ++ (cr ∷ lf ∷ t.1) = t.2 ∙ ap (λ (z : List ℕ). z ++ (lf ∷ t.1)) a ∙ append_assoc y (cr ∷ []) (lf ∷ t.1) in
    let d : drop (k + 1) bs ≡ t.1 = ap (drop (k + 1)) t.2 ∙ ap (λ (z : ℕ). drop (z + 1) (x ++ (lf ∷ t.1))) n ∙ drop-append-add x (lf ∷ t.1) 1 in
    let f : take (k - 1) bs ≡ y = sym (take-take (k - 1) k bs (omega arith)) ∙ ap (take (k - 1)) (front bs k h) ∙ ap (λ (z : ℕ). take (z - 1) x) n in
    rw (d, f) (ap lines b ∙ line-ends y t.1 (no-lf-front y (cr ∷ []) (ap no_lf (sym a) ∙ t.4)))

-- or is refused, whatever has been accepted before
pub first-line-bad : FirstLineBad
first-line-bad bs k h e =
    let t = lf-at 0 bs k h in
    let u = lone-lf t.0 t.1 t.4 (ap ends_in_cr (sym (front bs k h)) ∙ e) in
    (t.0 ++ (lf ∷ u.0), u.1, ap lines t.2 ∙ u.2, λ s. lf-refused s t.0 u.0)

-- with no LF, the whole text is one line
pub only-line : OnlyLine
only-line bs h p = last_line bs (lf-missing 0 bs h) p
