-- The records of a grid's list, as words and as bytes, account for its qualifying apexes.
use Rattle.refusal.specs.declared.Refusal.{Refusal}
use Rattle.refusal.proofs.NumberedLaws.{which as told_by}
use Rattle.std.specs.Prelude.{Result, Ok, Err}
use mathlib.Core.Path.{◌≡◌, refl, sym, ap, ◌∙◌, subst}
use mathlib.Core.Bool.{Bool}
use mathlib.Core.List.{List, [], ◌++◌}
use mathlib.Core.Logic.{⊎_elim, inl, inr}
use Prim.Native.Nat.{ℕ, suc, ◌+◌, ◌-◌, ◌*◌, ◌/◌, ◌^◌, ◌≤◌, ◌<◌}
use native.Mathlib.Omega.{arith}
use lib.ListN.{length, get_or, take, drop, length-append, length-take, get_or-append}
use lib.Seq.{take_at}
use Rattle.row_record.specs.Record.{size, size_in_bytes, peak_from, peak_at}
use Rattle.row_record.specs.declared.ImPeak1D.{ImPeak1D}
use Rattle.row_search.specs.Account.{◌∈◌, Leads, GivesWay, listed, step}
use Rattle.row_search.specs.Qualifying.{kept}
use Rattle.row_search.proofs.Account.{kept-qualify}
use Rattle.row_search.proofs.QualifyingLaws.{qualifying-listed}
use Rattle.row_laws.specs.RowRecords.{nth}
use Rattle.row_laws.proofs.RowAccount.{row-accounted}
use Rattle.row_smoothed.proofs.Laws.{searched-length}
use Rattle.sort_digits.proofs.SortedLaws.{at-index}
use Rattle.row.specs.Written.{stride}
use Rattle.grid_rows.specs.Grid.{Grid, row_of, searched_of, listed_in, count_to, words_to}
use Rattle.grid_rows.proofs.Laws.{words-length}
use Rattle.grid.specs.Answer.{number_for}
use Rattle.grid.proofs.GridNumberLaws.{none-for}
use Rattle.grid.proofs.Laws.{sizes-held}
use Rattle.grid_laws.proofs.GridRecords.{count-step, count-rise, rows-bear, all_placed, rows-ascend}
use Rattle.grid_word_bytes.specs.Bytes.{words_of, bytes_of}
use Rattle.grid_word_bytes.proofs.BytesLaws.{words-front, bytes-length, words-length as read_length}
use Rattle.grid_byte_rows.specs.AsBytes.{as_bytes}
use Rattle.c_grid_stitch.specs.Entry.{also, entry_checks, entry_number}
use Rattle.c_grid_stitch.proofs.Laws.{entry_zero}
use Rattle.c_word.proofs.Words.{below, first_below}
use Rattle.stitch_laws.proofs.StitchAccount.{which}
use Rattle.expand_laws.proofs.ExpandAccount.{index_of}
use Rattle.account.specs.Demand3.{qualifying_in, Listed, Onward, arrived, later, Chain, GridAccounted, GridsAccounted, GridCallsAccounted}

-- ---- the records of the definition

module _ (g : Grid) (rows : ℕ) (rest : List ℕ) where
  abbrev record_at : ℕ → ImPeak1D
  record_at j = peak_at (words_to g rows ++ rest) j

  -- each bears a qualifying apex of a row
  record InRow (j : ℕ) : Type 0 where
    row : ℕ
    low : row < rows
    row_is : (record_at j).tof_row ≡ row
    index_in : (record_at j).scan ∈ qualifying_in g row

  in_row : (j : ℕ) → j < count_to g rows → InRow j
  unfolding listed_in kept
  in_row j h =
      let p = all_placed g rows j h in
      let b = rows-bear g rows rest p.row p.k p.among-rows p.among-listed in
      let l = p.among-listed in
      let ks = listed_in g p.row in
      let y = searched_of g p.row in
      let among : nth ks p.k ∈ ks = at-index ks (length ks - 1 - p.k) (omega arith) in
      let is : (record_at j).scan ≡ nth ks p.k = ap (λ (n : ℕ). (record_at n).scan) p.place ∙ b.apex in
      record {
        row = p.row;
        low = p.among-rows;
        row_is = ap (λ (n : ℕ). (record_at n).tof_row) p.place ∙ b.row;
        index_in =
            subst (λ (n : ℕ). n ∈ qualifying_in g p.row) (sym is)
            (kept-qualify g.params.min_distance_scans y (qualifying_in g p.row) (nth ks p.k) among);
      }

-- an index of a qualifying apex is one of the row
index-low : (g : Grid) (r i : ℕ) → i ∈ qualifying_in g r → i < g.cols
index-low g r i m =
    let c = (qualifying-listed g.params (searched_of g r) (row_of g r) i m).0 in
    let low = c.low in
    let high = c.high in
    let n : length (searched_of g r) ≡ length (row_of g r) = searched-length g.weights (row_of g r) in
    let short : length (row_of g r) ≤ g.cols = rw length-take (omega arith) in
    omega arith

-- ---- a list whose records bear the same rows and indices

module _ (g : Grid) (rows : ℕ) (rest out : List ℕ) (count : ℕ) (counted : count ≡ count_to g rows) (records : count * size ≤ length out)
    (row_same : (j : ℕ) → j < count → (peak_at out j).tof_row ≡ (record_at g rows rest j).tof_row)
    (index_same : (j : ℕ) → j < count → (peak_at out j).scan ≡ (record_at g rows rest j).scan) where
  -- the apexes that are kept are listed
  kept-listed : (r i : ℕ) → r < rows → i ∈ listed_in g r → Listed out count r i
  kept-listed r i h m =
      let ks = listed_in g r in
      let s = index_of ks i m in
      let low = s.low in
      let k = length ks - 1 - s.k in
      let back : length ks - 1 - k ≡ s.k = omega arith in
      let b = rows-bear g rows rest r k h (omega arith) in
      let l : count_to g r + k < count = omega (arith, counted, count-step g r, count-rise g (suc r) rows (omega arith)) in
      record {
        place = count_to g r + k;
        among = l;
        bears-row = row_same (count_to g r + k) l ∙ b.row;
        bears-index = index_same (count_to g r + k) l ∙ b.apex ∙ ap (λ (j : ℕ). get_or ks j 0) back ∙ s.is;
      }

  -- so that a chain that leads to a kept one leads to a listed one
  module _ (r : ℕ) (h : r < rows) where
    onward : {c : ℕ} → Leads g.params.min_distance_scans (searched_of g r) (qualifying_in g r) (listed_in g r) c → Onward g out count r c
    onward {c = c} (listed m) = arrived {c = c} (kept-listed r c h m)
    onward {c = c} (step to q up near high more) = later {c = c} to (record { qualifies = q; short = omega arith }) up high (onward more)

    chain : (i : ℕ) → GivesWay g.params.min_distance_scans (searched_of g r) (qualifying_in g r) (listed_in g r) i → Chain g out count r i
    chain i w =
        record { to = w.to; other = w.other; first = record { qualifies = w.qualifies; short = w.near }; no_lower = w.no_lower; onward = onward w.leads }

  at-record : (j : ℕ) → j < count → InRow g rows rest j
  at-record j h = in_row g rows rest j (omega (arith, counted, h))

  grid-accounted : GridAccounted g rows count out
  unfolding listed_in
  grid-accounted =
      record {
        records = records;
        rows_are = λ k h. let a = at-record k h in omega (arith, row_same k h, a.row_is, a.low);
        only-qualifying = λ k h.
            let a = at-record k h in
            let same : (peak_at out k).tof_row ≡ a.row = row_same k h ∙ a.row_is in
            rw (same, index_same k h) a.index_in;
        ascending = λ j k l h.
            let before = rows-ascend g rows rest j k l (omega (arith, counted, h)) in
            let i : j < count = omega arith in
            rw (row_same j i, row_same k h, index_same j i, index_same k h) before;
        explained = λ r i h m.
            ⊎_elim (λ k. inl (kept-listed r i h k)) (λ w. inr (chain r h i w)) (row-accounted g.params (searched_of g r) (row_of g r) i m);
      }

-- ---- as words

abbrev is_count : Result ℕ Refusal → ℕ
is_count (Ok n) = n
is_count (Err e) = 0

words_long : (g : Grid) (rows : ℕ) → length (words_to g rows) ≡ count_to g rows * size
words_long g rows = words-length g 0 rows

pub grids-accounted : GridsAccounted
grids-accounted g rows out₀ out s₀ s count a =
    let number = number_for g rows out₀ s₀ in
    let e : number ≡ 0 = sym (ap (λ x. x.number) a.answered) in
    let counted : count ≡ count_to g rows = ap is_count (rw e at (told_by ℕ (Ok count) number (count_to g rows) a.answered)) in
    let rest = drop (count_to g rows * size) out₀ in
    let words : out ≡ words_to g rows ++ rest = rw e at a.words in
    let long : length (words_to g rows) ≡ count * size = words_long g rows ∙ ap (λ (n : ℕ). n * size) (sym counted) in (
      ap (take (count * size)) words ∙ take_at (words_to g rows) rest (count * size) long,
      grid-accounted g rows rest out count counted (rw words (rw length-append (omega (arith, long))))
          (λ j h. ap (λ (l : List ℕ). (peak_at l j).tof_row) words) (λ j h. ap (λ (l : List ℕ). (peak_at l j).scan) words),
    )

-- ---- as bytes

entry-small : (whole : Bool) (flag : ℕ) (g : Grid) (rows room : ℕ) → entry_number whole flag g rows room < 64
unfolding entry_number also below
entry-small whole flag g rows room = first_below 64 (entry_checks whole flag g rows room) refl

module _ (g : Grid) (rows : ℕ) (behind : List ℕ) (few-rows : rows ≤ 4194304) (few-columns : g.cols ≤ 16384) where
  abbrev ws : List ℕ
  ws = words_to g rows

  -- a word of record j, where it is below 2 ^ 32
  word_same : (j k : ℕ) → j < count_to g rows → k < size → get_or (ws ++ []) (j * size + k) 0 < 2 ^ 32
      → get_or (words_of (bytes_of ws ++ behind)) (j * size + k) 0 ≡ get_or (ws ++ []) (j * size + k) 0
  word_same j k h l small =
      let n : j * size + k < length ws = omega (arith, words_long g rows, h, l) in
      let same = get_or-append ws [] 0 (j * size + k) n in
      words-front ws behind (j * size + k) n (rw same at small) ∙ sym same

  row_back : (j : ℕ) → j < count_to g rows → (peak_at (words_of (bytes_of ws ++ behind)) j).tof_row ≡ (record_at g rows [] j).tof_row
  unfolding peak_from
  row_back j h = let a = in_row g rows [] j h in word_same j 0 h (omega arith) (omega (arith, a.row_is, a.low, few-rows))

  index_back : (j : ℕ) → j < count_to g rows → (peak_at (words_of (bytes_of ws ++ behind)) j).scan ≡ (record_at g rows [] j).scan
  unfolding peak_from
  index_back j h = let a = in_row g rows [] j h in word_same j 10 h (omega arith) (omega (arith, index-low g a.row _ a.index_in, few-columns))

pub grid-calls-accounted : GridCallsAccounted
grid-calls-accounted whole flag g rows out₀ out r a z =
    let room = length out₀ / 4 in
    let number = entry_number whole flag g rows room in
    let w = which number (count_to g rows) r (entry-small whole flag g rows room) a.answer z in
    let e : number ≡ 0 = w.0 in
    let counted : r / 64 ≡ count_to g rows = w.1 in
    let none = entry_zero whole flag g rows room e in
    let sizes = sizes-held rows g.cols (none-for g rows room g.cols 2 none) in
    let ws = words_to g rows in
    let behind = drop (count_to g rows * stride as_bytes) out₀ in
    let bytes : out ≡ bytes_of ws ++ behind = rw e at a.bytes in
    let long : length (bytes_of ws) ≡ r / 64 * size_in_bytes = omega (arith, bytes-length ws, words_long g rows, counted) in
    let many : length (words_of out) ≡ length out / 4 = read_length out (length out / 4) in
    let whole_length : length out ≡ length (bytes_of ws) + length behind = ap length bytes ∙ length-append (bytes_of ws) behind in (
      ap (take (r / 64 * size_in_bytes)) bytes ∙ take_at (bytes_of ws) behind (r / 64 * size_in_bytes) long,
      grid-accounted g rows [] (words_of out) (r / 64) counted (omega (arith, many, whole_length, long))
          (λ j h. ap (λ (l : List ℕ). (peak_at (words_of l) j).tof_row) bytes ∙ row_back g rows behind sizes.0 sizes.1 j (omega (arith, counted, h)))
          (λ j h. ap (λ (l : List ℕ). (peak_at (words_of l) j).scan) bytes ∙ index_back g rows behind sizes.0 sizes.1 j (omega (arith, counted, h))),
    )
