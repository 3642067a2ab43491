-- Records that are gathered, a list whose first places have been replaced one by one, and what the two passes leave.
use mathlib.Core.Path.{◌≡◌, refl, sym, ap, subst, ◌∙◌}
use mathlib.Core.Bool.{true}
use mathlib.Core.List.Memᴰ
use mathlib.Core.List.{List, [], ◌∷◌, ◌++◌, map, map-append, append_assoc, append-nil, Memᴰ}
use mathlib.Core.List.Memᴰ.{head as here}
use mathlib.Core.List.Memᴰ.{tail as there}
use Prim.Native.Nat.{ℕ, zero, suc, ◌+◌, ◌-◌, ◌*◌, ◌<◌, ◌≤◌}
use native.Mathlib.Nat.{mul-le-mul_left}
use native.Mathlib.Omega.{arith}
use native.Mathlib.Numerals.{add-one}
use borrow.Author.Tests.{eqb-true}
use lib.Dec.{eqb}
use lib.ListN.{length, get_or, take, drop, set, length-map, length-append, length-drop, take-append-drop, drop_of_length-le, get_or-append}
use lib.Seq.{drop-cons, drop-drop, drop_at, take-suc, set_at, get_or_at, length-take-le, get_or-append-add, get_or-take, get_or-drop, ext_get_or}
use Rattle.std.specs.List.{list_all, enumerate_from}
use Rattle.refusal.proofs.Bools.{both}
use Rattle.row_record.specs.Record.{size, peak_at}
use Rattle.row_record.proofs.RoundTrip.{own-words}
use Rattle.row_record.specs.declared.ImPeak1D.{ImPeak1D}
use Rattle.stitch_peaks.specs.PeakList.{nth, peaks_of, list_words}
use Rattle.stitch_peaks.specs.PeakListLaws.{AllFit}
use Rattle.stitch_peaks.proofs.PeakListLaws.{peaks-length, nth-peaks, words-length, read_back}
use Rattle.sort_digits.specs.Sorted.{sorted_by, row, up_to}
use Rattle.sort_digits.proofs.SortedLaws.{at-index, sort-same, sort-none}
use Rattle.sort_digits.proofs.UpTo.{same_map, upto-get, upto-length, upto-lt}
use Rattle.numeric.proofs.Lists.{fill-behind}
use Rattle.stitch_matching.specs.declared.StitchParams.{StitchParams}
use Rattle.stitch_keys.specs.declared.KeyRule.{KeyRule}
use Rattle.stitch_keys.specs.declared.KeyRule.TheVariants.{First, Identity}
use Rattle.stitch_keys.specs.Keys.{key_of, width_of, key_table}
use Rattle.stitch_keys.proofs.KeysLaws.{key-width, width-most, table-length, table-row, table-sorts}
use Rattle.stitch_grouping.specs.Grouping.{groups, group_peaks, pass_order, pass_groups, number_in}
use Rattle.stitch_grouping.specs.Walk.{Gathered, Columned, Grouped, marked}
use Rattle.stitch_passes.specs.Stitching.{first_groups, first_peaks, second_groups, owner_of, owners_of}
use Rattle.stitch_passes.specs.Steps.{records_at, rest_order, Within, Passed}
use Rattle.stitch_passes.proofs.PassLaws.{order-length, order_lt, pass-column, pass-count, pass-number, first-length, column-at, handed}

-- ---- records that are gathered

module _ (list : List ℕ) where
  one-length : (p : ℕ) → p * size + size ≤ length list → length (take size (drop (p * size) list)) ≡ size
  one-length p h = length-take-le size (drop (p * size) list) (simp length-drop (omega arith))

  pub records-length : (order : List ℕ) → Within list order → length (records_at list order) ≡ length order * size
  unfolding records_at
  records-length [] w = refl
  records-length (p ∷ qs) w = let e = records-length qs (λ q m. w q (there m)) in simp length-append (omega (arith, one-length p (w p (here refl))))

  pub records-one : (order : List ℕ) (p : ℕ) → records_at list (order ++ (p ∷ [])) ≡ records_at list order ++ take size (drop (p * size) list)
  unfolding records_at
  records-one [] p = append-nil (take size (drop (p * size) list))
  records-one (q ∷ qs) p = rw (records-one qs p) (sym (append_assoc (take size (drop (q * size) list)) (records_at list qs) (take size (drop (p * size) list))))

  -- word j of the i-th record is that of the record at its place
  word-at : (order rest : List ℕ) → Within list order → (i j : ℕ) → i < length order → j < size
      → get_or (records_at list order ++ rest) (i * size + j) 0 ≡ get_or list (get_or order i 0 * size + j) 0
  unfolding records_at
  word-at [] rest w i j h k = absurd (omega arith)
  word-at (p ∷ qs) rest w zero j h k =
      let own = take size (drop (p * size) list) in
      let l = one-length p (w p (here refl)) in
      let e : zero * size + j ≡ j = omega arith in
      rw (append_assoc own (records_at list qs) rest, e)
      (get_or-append own (records_at list qs ++ rest) 0 j (omega (arith, l)) ∙ get_or-take size (drop (p * size) list) j 0 k ∙ get_or-drop (p * size) list j 0)
  word-at (p ∷ qs) rest w (suc i) j h k =
      let own = take size (drop (p * size) list) in
      let l = one-length p (w p (here refl)) in
      let e : suc i * size + j ≡ length own + (i * size + j) = omega (arith, l) in
      rw (append_assoc own (records_at list qs) rest, e)
      (get_or-append-add own (records_at list qs ++ rest) (i * size + j) 0 ∙ word-at qs rest (λ q m. w q (there m)) i j (omega arith) k)

  pub gathered-at : (order rest : List ℕ) → Within list order → (i : ℕ) → i < length order → peak_at (records_at list order ++ rest) i ≡ peak_at list (get_or order i 0)
  gathered-at order rest w i h = own-words (records_at list order ++ rest) list (i * size) (get_or order i 0 * size) (λ j k. word-at order rest w i j h k)

-- one more record behind those of the first i places
pub one_more : (list order d out : List ℕ) (i : ℕ) → i < length order → Within list order → out ≡ records_at list (take i order) ++ drop (i * size) d
    → take (i * size) out ++ (take size (drop (get_or order i 0 * size) list) ++ drop (i * size + size) out) ≡ records_at list (take (i + 1) order) ++ drop ((i + 1) * size) d
one_more list order d out i h w e =
    let front : Within list (take i order) = λ p m. w p (subst (Memᴰ p) (take-append-drop i order) (Memᴰ.append_left (drop i order) m)) in
    let l : length (records_at list (take i order)) ≡ i * size = records-length list (take i order) front ∙ ap (λ (n : ℕ). n * size) (length-take-le i order (omega arith)) in
    let k : (i + 1) * size ≡ i * size + size = omega arith in
    rw (k, add-one, take-suc order i 0 h, records-one list (take i order) (get_or order i 0))
    (fill-behind (records_at list (take i order)) (take size (drop (get_or order i 0 * size) list)) d out (i * size) size l e)

-- ---- places that stand in their own order

all-stand : (order : List ℕ) → ((k : ℕ) → k < length order → get_or order k 0 ≡ k) → order ≡ up_to (length order)
all-stand order h = ext_get_or 0 order (up_to (length order)) (sym (upto-length (length order))) (λ k l. h k l ∙ sym (upto-get (length order) k l))

-- so do places that are all found to be their own numbers
found-places : (a : ℕ) (order : List ℕ) → list_all (λ y. eqb y.1 y.0) (enumerate_from a order) ≡ true → (k : ℕ) → k < length order → get_or order k 0 ≡ a + k
found-places a [] e k h = absurd (omega arith)
found-places a (p ∷ ps) e zero h = eqb-true p a (both (eqb p a) e).0 ∙ omega arith
found-places a (p ∷ ps) e (suc k) h = found-places (a + 1) ps (both (eqb p a) e).1 k (omega arith) ∙ omega arith

pub all-found : (order : List ℕ) → list_all (λ y. eqb y.1 y.0) (enumerate_from 0 order) ≡ true → order ≡ up_to (length order)
all-found order e = all-stand order (λ k h. found-places 0 order e k h ∙ omega arith)

-- ---- a list whose first places have been replaced

module _ (f : ℕ → ℕ) (l : List ℕ) (i : ℕ) (h : i < length l) where
  front_length : length (map f (take i l)) ≡ i
  front_length = length-map (take i l) f ∙ length-take-le i l (omega arith)

  -- the next is still what it was
  pub next-kept : get_or (map f (take i l) ++ drop i l) i 0 ≡ get_or l i 0
  next-kept = rw (drop-cons l i 0 h) (get_or_at (map f (take i l)) (get_or l i 0) (drop (suc i) l) 0 i front_length)

  pub next-put : (v : ℕ) → v ≡ f (get_or l i 0) → set (map f (take i l) ++ drop i l) i v ≡ map f (take (i + 1) l) ++ drop (i + 1) l
  next-put v e =
      let front : map f (take (suc i) l) ≡ map f (take i l) ++ (v ∷ []) = rw e (ap (map f) (take-suc l i 0 h) ∙ map-append f (take i l) (get_or l i 0 ∷ [])) in
      rw (add-one, front, drop-cons l i 0 h, append_assoc) (set_at (map f (take i l)) (get_or l i 0) (drop (suc i) l) v i front_length)

-- what is the same from m on is the same from any later place on
pub later : (x y : List ℕ) (m n : ℕ) → m ≤ n → drop m x ≡ drop m y → drop n x ≡ drop n y
later x y m n h e =
    let k : m + (n - m) ≡ n = omega arith in
    subst (λ (j : ℕ). drop j x ≡ drop j y) k (sym (drop-drop (n - m) m x) ∙ ap (drop (n - m)) e ∙ drop-drop (n - m) m y)

-- ---- orders by the last words of keys

-- the last word of a key of the first pass is the identity
pub by-identity : (params : StitchParams) (ps : List ImPeak1D) → pass_order Identity ps ≡ rest_order (First params) 7 ps
unfolding key_of
by-identity params ps = refl

-- behind the last word there is none: places are in that order as they stand
pub by-none : (rule : KeyRule) (ps : List ImPeak1D) → up_to (length ps) ≡ rest_order rule (width_of rule) ps
by-none rule ps =
    let none : (k : ℕ) → drop (width_of rule) (key_of rule (nth ps k)) ≡ [] = λ k. drop_of_length-le (key_of rule (nth ps k)) {i = width_of rule} (omega (arith, key-width rule (nth ps k))) in
    sym (sort-none (up_to (length ps)))
    ∙ sort-same (λ p. []) (λ k. drop (width_of rule) (key_of rule (nth ps k))) (up_to (length ps)) (λ p q i j. rw (none p, none q))

-- ---- what the steps of a pass leave

-- the keys and the order of the first n records of a list
module _ (list : List ℕ) (n : ℕ) (rule : KeyRule) (params : StitchParams) where
  pub ordered : (keys rest order : List ℕ) (w : ℕ) → keys ≡ key_table rule (peaks_of list n) ++ rest → w ≡ width_of rule → order ≡ sorted_by (row keys w) (up_to n) → order ≡ pass_order rule (peaks_of list n)
  ordered keys rest order w e f g =
      let l = peaks-length list n in
      g ∙ ap (λ (m : ℕ). sorted_by (row keys w) (up_to m)) (sym l) ∙ rw (e, f) (table-sorts rule (peaks_of list n) rest)

  -- the words of a row from one on are those of the key
  pub rest-ordered : (words : ℕ) (keys rest order : List ℕ) (w : ℕ) → keys ≡ key_table rule (peaks_of list n) ++ rest → w ≡ width_of rule → order ≡ rest_order rule words (peaks_of list n)
      → order ≡ sorted_by (λ p. drop words (row keys w p)) (up_to n)
  rest-ordered words keys rest order w e f g =
      let ps = peaks_of list n in
      g ∙ sym (sort-same (λ p. drop words (row keys w p)) (λ k. drop words (key_of rule (nth ps k))) (up_to (length ps))
      (λ p q i j. rw (e, f, table-row rule ps rest p (upto-lt (length ps) p i), table-row rule ps rest q (upto-lt (length ps) q j))))
      ∙ ap (λ (m : ℕ). sorted_by (λ p. drop words (row keys w p)) (up_to m)) (peaks-length list n)

  module _ (order : List ℕ) (e : order ≡ pass_order rule (peaks_of list n)) (room : n * size ≤ length list) where
    pub order-size : length order ≡ n
    order-size = ap length e ∙ order-length rule params (peaks_of list n) ∙ peaks-length list n

    place-lt : (p : ℕ) → Memᴰ p order → p < n
    place-lt p m = omega (arith, order_lt rule params (peaks_of list n) p (subst (Memᴰ p) e m), peaks-length list n)

    pub in_list : Within list order
    in_list p m = omega (arith, place-lt p m)

    pub in-column : (column : List ℕ) → n ≤ length column → Columned column order
    in-column column h p m = omega (arith, place-lt p m)

    pub gathered : (sorted rest : List ℕ) → sorted ≡ records_at list order ++ rest → Gathered (peaks_of list n) sorted order
    gathered sorted rest f i h =
        ap (λ (l : List ℕ). peak_at l i) f ∙ gathered-at list order rest in_list i h
        ∙ sym (nth-peaks list n (get_or order i 0) (place-lt (get_or order i 0) (at-index order i h)))

    -- places that stand in their own order are those of the records as they are
    pub standing : order ≡ up_to (length order) → Gathered (peaks_of list n) list order
    standing f i h =
        let own : get_or order i 0 ≡ i = ap (λ (l : List ℕ). get_or l i 0) f ∙ upto-get (length order) i h in
        rw own (sym (nth-peaks list n i (omega (arith, order-size))))

    -- of the list of keys no more is used than a record a peak has, whether records were gathered there or not
    pub keys-only : (keys₀ keys led : List ℕ) → keys ≡ key_table rule (peaks_of list n) ++ drop (n * width_of rule) keys₀ → drop (n * size) led ≡ drop (n * size) keys → drop (n * size) led ≡ drop (n * size) keys₀
    keys-only keys₀ keys led f g =
        let b : length (key_table rule (peaks_of list n)) ≡ n * width_of rule = table-length rule (peaks_of list n) ∙ ap (λ (m : ℕ). m * width_of rule) (peaks-length list n) in
        let few : n * width_of rule ≤ n * size = mul-le-mul_left n (omega (arith, width-most rule)) in
        g ∙ later keys keys₀ (n * width_of rule) (n * size) few (ap (drop (n * width_of rule)) f ∙ drop_at (key_table rule (peaks_of list n)) (drop (n * width_of rule) keys₀) (n * width_of rule) b)

    pub keys-rest : (keys₀ keys led sorted : List ℕ) → keys ≡ key_table rule (peaks_of list n) ++ drop (n * width_of rule) keys₀ → drop (n * size) led ≡ drop (n * size) keys
        → sorted ≡ records_at list order ++ drop (length order * size) led → drop (n * size) sorted ≡ drop (n * size) keys₀
    keys-rest keys₀ keys led sorted f h g =
        let a : length (records_at list order) ≡ n * size = records-length list order in_list ∙ ap (λ (m : ℕ). m * size) order-size in
        ap (drop (n * size)) g ∙ drop_at (records_at list order) (drop (length order * size) led) (n * size) a
        ∙ ap (λ (m : ℕ). drop (m * size) led) order-size
        ∙ keys-only keys₀ keys led f h

    pub finished : (out₀ column₀ keys₀ column sorted : List ℕ) (count : ℕ) (out made : List ℕ)
        → Grouped rule params (peaks_of list n) order out₀ column count out made → n ≤ length column → drop n column ≡ drop n column₀
        → drop (n * size) sorted ≡ drop (n * size) keys₀
        → Passed rule params (peaks_of list n) column₀ keys₀ out₀ count made sorted out
    unfolding pass_groups
    finished out₀ column₀ keys₀ column sorted count out made g h d f =
        let ps = peaks_of list n in
        let l = peaks-length list n in
        record {
          counted = g.counted ∙ ap (λ (o : List ℕ). length (groups rule params ps o)) e;
          records = g.records ∙ ap (λ (o : List ℕ). list_words (group_peaks ps (groups rule params ps o)) ++ drop (count * size) out₀) e;
          numbers =
              g.marks ∙ ap (λ (o : List ℕ). marked 0 (groups rule params ps o) column) e
              ∙ pass-column rule params ps column (omega (arith, l)) column₀ (rw l d);
          rest = rw l f;
        }

-- ---- what the two passes leave

-- the first pass leaves m records at the front of `made`, and the numbers of its groups at the front of `firsts`
module _ (params : StitchParams) (ps : List ImPeak1D) (m : ℕ) (counted : m ≡ length (first_groups params ps)) where
  pub fewer : m ≤ length ps
  fewer = omega (arith, counted, pass-count (First params) params ps)

  pub as_many : length (first_peaks params ps) ≡ m
  as_many = first-length params ps ∙ sym counted

  words : length (list_words (first_peaks params ps)) ≡ m * size
  words = words-length (first_peaks params ps) ∙ ap (λ (k : ℕ). k * size) as_many

  module _ (made rest : List ℕ) (e : made ≡ list_words (first_peaks params ps) ++ rest) where
    pub made-rest : drop (m * size) made ≡ rest
    made-rest = ap (drop (m * size)) e ∙ drop_at (list_words (first_peaks params ps)) rest (m * size) words

    -- they are read as they were written
    pub second-read : AllFit (first_peaks params ps) → peaks_of made m ≡ first_peaks params ps
    second-read fit =
        ap (λ (l : List ℕ). peaks_of l m) e
        ∙ ap (peaks_of (list_words (first_peaks params ps) ++ rest)) (sym as_many)
        ∙ read_back (first_peaks params ps) rest fit

  module _ (firsts start : List ℕ) (e : firsts ≡ map (number_in (first_groups params ps)) (up_to (length ps)) ++ start) where
    pub first-number : (k : ℕ) → k < length ps → get_or firsts k 0 < m
    first-number k h =
        let f = ap (λ (l : List ℕ). get_or l k 0) e ∙ column-at (number_in (first_groups params ps)) (length ps) start k h in
        omega (arith, f, counted, pass-number (First params) params ps k h)

    -- the second pass leaves the numbers of its groups at the front of `seconds`
    pub owned : (seconds back : List ℕ) → seconds ≡ map (number_in (second_groups params ps)) (up_to m) ++ back
        → map (λ k. get_or seconds k 0) (take (length ps) firsts) ++ drop (length ps) firsts ≡ owners_of params ps ++ start
    unfolding owner_of
    owned seconds back d =
        let first = number_in (first_groups params ps) in
        ap (λ (l : List ℕ). map (λ k. get_or seconds k 0) (take (length ps) l) ++ drop (length ps) l) e
        ∙ handed first (length ps) start seconds
        ∙ ap (λ (l : List ℕ). l ++ start)
        (same_map (λ k. get_or seconds (first k) 0) (λ k. number_in (second_groups params ps) (first k)) (length ps)
        (λ k h. ap (λ (l : List ℕ). get_or l (first k) 0) d
        ∙ column-at (number_in (second_groups params ps)) m back (first k) (omega (arith, counted, pass-number (First params) params ps k h))))
