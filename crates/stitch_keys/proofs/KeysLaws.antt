-- What holds of keys and of the table that has them.
use mathlib.Core.Path.{◌≡◌, refl, sym, ap, ◌∙◌}
use mathlib.Core.List.{List, [], ◌∷◌, ◌++◌, append_assoc, append-nil}
use Prim.Native.Nat.{ℕ, zero, suc, ◌+◌, ◌*◌, ◌≤◌}
use native.Mathlib.Omega.{arith}
use native.Mathlib.Nat.{suc-mul, zero-mul, add_comm}
use lib.Dec.{lit≤}
use lib.ListN.{length, take, drop, length-append}
use lib.Seq.{take_at, drop-append-add}
use Rattle.row_record.specs.declared.ImPeak1D.{ImPeak1D}
use Rattle.stitch_peaks.specs.PeakList.{nth}
use Rattle.sort_digits.specs.Sorted.{row, up_to}
use Rattle.sort_digits.proofs.SortedLaws.{sort-same}
use Rattle.sort_digits.proofs.UpTo.{upto-lt}
use Rattle.stitch_keys.specs.declared.KeyRule.{KeyRule}
use Rattle.stitch_keys.specs.declared.KeyRule.TheVariants.{First, Second, Identity}
use Rattle.stitch_keys.specs.Keys.{key_of, width_of, key_table}
use Rattle.stitch_keys.specs.KeysLaws.{KeyWidth, TableRow, TableSorts}

pub key-width : KeyWidth
unfolding key_of width_of
key-width (First params) p = refl
key-width Second p = refl
key-width Identity p = refl

-- no key has more than 8 numbers
pub width-most : (rule : KeyRule) → width_of rule ≤ 8
unfolding width_of
width-most (First params) = lit≤ tt
width-most Second = lit≤ tt
width-most Identity = lit≤ tt

pub table-length : (rule : KeyRule) (ps : List ImPeak1D) → length (key_table rule ps) ≡ length ps * width_of rule
unfolding key_table
table-length rule [] = sym (zero-mul (width_of rule))
table-length rule (p ∷ ps) =
    length-append (key_of rule p) (key_table rule ps) ∙ rw (key-width rule p, table-length rule ps, suc-mul (length ps) (width_of rule)) (add_comm (width_of rule) (length ps * width_of rule))

pub table-append : (rule : KeyRule) (ps qs : List ImPeak1D) → key_table rule (ps ++ qs) ≡ key_table rule ps ++ key_table rule qs
unfolding key_table
table-append rule [] qs = refl
table-append rule (p ∷ ps) qs =
    ap (λ (l : List ℕ). key_of rule p ++ l) (table-append rule ps qs) ∙ sym (append_assoc (key_of rule p) (key_table rule ps) (key_table rule qs))

pub table-one : (rule : KeyRule) (ps : List ImPeak1D) (p : ImPeak1D) → key_table rule (ps ++ (p ∷ [])) ≡ key_table rule ps ++ key_of rule p
unfolding key_table
table-one rule ps p = table-append rule ps (p ∷ []) ∙ ap (λ (l : List ℕ). key_table rule ps ++ l) (append-nil (key_of rule p))

pub table-row : TableRow
unfolding key_table row
table-row rule [] rest k h = absurd (omega arith)
table-row rule (p ∷ ps) rest zero h =
    let w = width_of rule in
    let z : zero * w ≡ 0 = zero-mul w in
    rw (z, append_assoc (key_of rule p) (key_table rule ps) rest) (take_at (key_of rule p) (key_table rule ps ++ rest) w (key-width rule p))
table-row rule (p ∷ ps) rest (suc k) h =
    let w = width_of rule in
    let l = key_table rule ps ++ rest in
    let e : suc k * w ≡ length (key_of rule p) + k * w = suc-mul k w ∙ add_comm (k * w) w ∙ ap (λ n. n + k * w) (sym (key-width rule p)) in
    ap (λ n. take w (drop n ((key_of rule p ++ key_table rule ps) ++ rest))) e
    ∙ ap (λ m. take w (drop (length (key_of rule p) + k * w) m)) (append_assoc (key_of rule p) (key_table rule ps) rest)
    ∙ ap (take w) (drop-append-add (key_of rule p) l (k * w))
    ∙ table-row rule ps rest k (omega arith)

pub table-sorts : TableSorts
table-sorts rule ps rest =
    sort-same (row (key_table rule ps ++ rest) (width_of rule)) (λ k. key_of rule (nth ps k)) (up_to (length ps))
    (λ p q i j. rw (table-row rule ps rest p (upto-lt (length ps) p i), table-row rule ps rest q (upto-lt (length ps) q j)))
