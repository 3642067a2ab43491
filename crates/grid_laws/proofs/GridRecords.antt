-- The records of a grid's list are those of its rows, one after another.
use mathlib.Core.Path.{◌≡◌, refl, sym, ap, ◌∙◌, subst}
use mathlib.Core.Bool.{Bool, true, false}
use mathlib.Core.List.{List, ◌++◌, append_assoc}
use mathlib.Core.Logic.{inl, inr}
use Prim.Native.Nat.{ℕ, zero, suc, ◌+◌, ◌-◌, ◌*◌, ◌≤◌, ◌<◌, min}
use native.Mathlib.Nat.{zero-add}
use native.Mathlib.Omega.{arith}
use borrow.Author.Tests.{ltb-true, ltb-false}
use lib.Dec.{T, ltb}
use lib.ListN.{length, get_or, take, drop, length-take, length-drop}
use lib.Seq.{get_or-append-add, get_or-take, get_or-drop}
use lib.Ieee.{Float, nan, binary32, fits}
use Rattle.numeric.specs.Plain.{AllFit}
use Rattle.row_record.specs.declared.ImPeak1D.{ImPeak1D}
use Rattle.row_record.specs.Record.{size, peak_at}
use Rattle.row_record.proofs.RoundTrip.{own-words}
use Rattle.row_smoothed.proofs.Laws.{searched-fits}
use Rattle.row_laws.specs.RowRecords.{nth}
use Rattle.row_laws.proofs.RowRecords.{bears, record-at, kept-ascend}
use Rattle.tof_scale.specs.Tof.{row_place}
use Rattle.grid_rows.specs.Grid.{Grid, row_of, searched_of, listed_in, words_in, count_from, words_from, count_to, words_to}
use Rattle.grid_rows.proofs.Laws.{words-length}
use Rattle.grid_laws.specs.GridRecords.{Bears, RowsBear, Placed, AllPlaced, Before, RowsAscend, RowsWhole}

-- ---- counts and words, row after row
pub count-step : (g : Grid) (n : ℕ) → count_to g (suc n) ≡ count_to g n + length (listed_in g n)
unfolding count_from
count-step g n = rw zero-add

words_step : (g : Grid) (n : ℕ) → words_to g (suc n) ≡ words_to g n ++ words_in g n (g.first + count_to g n)
unfolding words_from
words_step g n = rw zero-add

pub count-rise : (g : Grid) (m n : ℕ) → m ≤ n → count_to g m ≤ count_to g n
count-rise g m zero h = let e : m ≡ 0 = omega arith in rw e (omega arith)
count-rise g m (suc n) h = go (ltb m (suc n)) refl (count-rise g m n)
  where
    go : (b : Bool) → ltb m (suc n) ≡ b → (m ≤ n → count_to g m ≤ count_to g n) → count_to g m ≤ count_to g (suc n)
    go true e again = let l = ltb-true m (suc n) e in omega (arith, again (omega arith), count-step g n)
    go false e again = let k : m ≡ suc n = omega (arith, ltb-false m (suc n) e) in rw k (omega arith)

-- ---- the words of a row, and what follows them
record RowIn (g : Grid) (rows : ℕ) (rest : List ℕ) (r : ℕ) : Type 0 where
  after : List ℕ
  is : words_to g rows ++ rest ≡ words_to g r ++ (words_in g r (g.first + count_to g r) ++ after)

row_in : (g : Grid) (rows : ℕ) (rest : List ℕ) (r : ℕ) → r < rows → RowIn g rows rest r
row_in g zero rest r h = absurd (omega arith)
row_in g (suc n) rest r h = go (ltb r n) refl (row_in g n (words_in g n (g.first + count_to g n) ++ rest) r)
  where
    split : words_to g (suc n) ++ rest ≡ words_to g n ++ (words_in g n (g.first + count_to g n) ++ rest)
    split = ap (λ (l : List ℕ). l ++ rest) (words_step g n) ∙ append_assoc (words_to g n) (words_in g n (g.first + count_to g n)) rest

    go : (b : Bool) → ltb r n ≡ b → (r < n → RowIn g n (words_in g n (g.first + count_to g n) ++ rest) r) → RowIn g (suc n) rest r
    go true e again = let a = again (ltb-true r n e) in record { after = a.after; is = split ∙ a.is }
    go false e again =
        let k : r ≡ n = omega (arith, ltb-false r n e) in
        subst (RowIn g (suc n) rest) (sym k) (record { after = rest; is = split })

-- records behind n others
behind : (W R : List ℕ) (n k : ℕ) → length W ≡ n * size → peak_at (W ++ R) (n + k) ≡ peak_at R k
behind W R n k h =
    own-words (W ++ R) R ((n + k) * size) (k * size) (λ j l.
    let e : (n + k) * size + j ≡ length W + (k * size + j) = omega arith in
    ap (λ (i : ℕ). get_or (W ++ R) i 0) e ∙ get_or-append-add W R (k * size + j) 0)

-- the record at the k-th place of row r, among the words of that row
at_row : (g : Grid) (rows : ℕ) (rest : List ℕ) (r k : ℕ) (a : RowIn g rows rest r)
    → peak_at (words_to g rows ++ rest) (count_to g r + k) ≡ peak_at (words_in g r (g.first + count_to g r) ++ a.after) k
at_row g rows rest r k a =
    ap (λ (l : List ℕ). peak_at l (count_to g r + k)) a.is
    ∙ behind (words_to g r) (words_in g r (g.first + count_to g r) ++ a.after) (count_to g r) k (words-length g 0 r)

pub rows-bear : RowsBear
rows-bear g rows rest r k h l =
    let a = row_in g rows rest r h in
    let b = bears (row_place g.scale r) g.bounds g.mobility g.scans (searched_of g r) (row_of g r) (g.first + count_to g r) (listed_in g r) a.after k l in
    subst (Bears g r k) (sym (at_row g rows rest r k a)) (record { row = b.row; apex = b.apex; identity = b.identity })

-- ---- every place
pub all_placed : AllPlaced
unfolding count_from
all_placed g zero j h = absurd (omega arith)
all_placed g (suc n) j h = go (ltb j (count_to g n)) refl (all_placed g n j)
  where
    go : (b : Bool) → ltb j (count_to g n) ≡ b → (j < count_to g n → Placed g n j) → Placed g (suc n) j
    go true e again =
        let a = again (ltb-true j (count_to g n) e) in
        let l = a.among-rows in
        record { row = a.row; k = a.k; among-rows = omega arith; among-listed = a.among-listed; place = a.place }
    go false e again =
        let l = ltb-false j (count_to g n) e in
        record { row = n; k = j - count_to g n; among-rows = omega arith; among-listed = omega (arith, count-step g n); place = omega arith }

-- ---- the order
same_row : (g : Grid) (r s k l : ℕ) → r ≡ s → k < l → l < length (listed_in g s) → nth (listed_in g r) k < nth (listed_in g s) l
unfolding listed_in
same_row g r s k l e h m = rw e (kept-ascend g.params (searched_of g s) (row_of g s) k l h m)

module _ (g : Grid) (rows : ℕ) (rest : List ℕ) (i j : ℕ) (order : i < j) (a : Placed g rows i) (b : Placed g rows j) where
  abbrev p : ImPeak1D
  p = peak_at (words_to g rows ++ rest) i

  abbrev q : ImPeak1D
  q = peak_at (words_to g rows ++ rest) j

  bears-at : (n : ℕ) (c : Placed g rows n) → Bears g c.row c.k (peak_at (words_to g rows ++ rest) n)
  bears-at n c =
      subst (λ (m : ℕ). Bears g c.row c.k (peak_at (words_to g rows ++ rest) m)) (sym c.place)
      (rows-bear g rows rest c.row c.k c.among-rows c.among-listed)

  -- a later place is in no earlier row
  no-earlier : b.row < a.row → ⊥
  no-earlier h =
      omega (arith, order, a.place, b.place, b.among-listed, count-step g b.row, count-rise g (suc b.row) a.row (omega arith))

  ascend : Before p q
  ascend = go (ltb a.row b.row) refl
    where
      s : Bears g a.row a.k p
      s = bears-at i a

      t : Bears g b.row b.k q
      t = bears-at j b

      go : (u : Bool) → ltb a.row b.row ≡ u → Before p q
      go true e = inl (omega (arith, s.row, t.row, ltb-true a.row b.row e))
      go false e =
          let r : a.row ≡ b.row = omega (arith, ltb-false a.row b.row e, no-earlier) in
          let c : count_to g a.row ≡ count_to g b.row = ap (count_to g) r in
          let l : a.k < b.k = omega (arith, order, a.place, b.place) in
          let m = same_row g a.row b.row a.k b.k r l b.among-listed in
          inr (s.row ∙ r ∙ sym t.row, omega (arith, s.apex, t.apex))

pub rows-ascend : RowsAscend
rows-ascend g rows rest i j l h = ascend g rows rest i j l (all_placed g rows i (omega arith)) (all_placed g rows j h)

-- ---- the whole record
part-fits : (n m : ℕ) (y : List Float) → AllFit y → AllFit (take n (drop m y))
part-fits n m y f i h =
    let l : (i < n) × (m + i < length y) = inside (rw (length-take, length-drop) at h) in
    subst (λ (x : Float). T (fits binary32 x)) (sym (get_or-take n (drop m y) i nan l.0 ∙ get_or-drop m y i nan)) (f (m + i) l.1)
  where
    inside : i < min n (length y - m) → (i < n) × (m + i < length y)
    inside k = (omega arith, omega arith)

pub row_fits : (g : Grid) (r : ℕ) → AllFit g.used → AllFit (row_of g r)
row_fits g r f = part-fits g.cols (r * g.cols) g.used f

pub rows_whole : RowsWhole
rows_whole g rows u m rest r k h l =
    let a = row_in g rows rest r h in
    let f = row_fits g r u in
    at_row g rows rest r k a
    ∙ record-at (row_place g.scale r) g.bounds g.mobility g.scans (searched_of g r) (row_of g r) (searched-fits g.weights (row_of g r) f) f m (g.first + count_to g r) (listed_in g r) a.after k l
