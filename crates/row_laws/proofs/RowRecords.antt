-- The records at the front of a list are those of the apexes, one after another.
use mathlib.Core.Path.{◌≡◌, refl, sym, ap, ◌∙◌, subst}
use mathlib.Core.Bool.{Bool, true, false}
use mathlib.Core.List.{List, [], ◌∷◌, ◌++◌, append_assoc}
use mathlib.Core.List.Memᴰ.{head as here}
use mathlib.Core.List.Memᴰ.{tail as there}
use Prim.Native.Nat.{ℕ, zero, suc, ◌+◌, ◌-◌, ◌*◌, ◌<◌}
use native.Mathlib.Nat.{zero-add}
use native.Mathlib.Omega.{arith}
use borrow.Author.Tests.{ltb-true, ltb-false}
use lib.Dec.{T, ltb, leb, eqb, lit≤}
use lib.ListN.{length, get_or, get_or-append, get_or-eq_default}
use lib.Seq.{get_or-append-add}
use lib.Ieee.{Float, nan, binary32, fits, lt, le, of_bits}
use lib.Ieee.Bits.{of_bits-fits}
use lib.Ieee.Fits.{cond-fits, nan-fits, add-fits, sub-fits, mul-fits, div-fits, of_int-fits}
use Rattle.numeric.specs.Arith.{◌⊕◌, ◌⊖◌, ◌⊗◌, 𝟎, 𝟐, at, index_f}
use Rattle.numeric.specs.Numeric.{abs_f, clamp_f, quad_f, cast_f}
use Rattle.numeric.specs.Plain.{AllFit}
use Rattle.row_apex.specs.Apex.{prominence, left_foot, right_foot, left_crossing, right_crossing}
use Rattle.row_area.specs.Area.{strip, within, head, whole, tail, across, between, area_f}
use Rattle.row_record.specs.declared.ImPeak1D.{ImPeak1D}
use Rattle.row_record.specs.Record.{size, words_of, peak_from, peak_at, with_peak}
use Rattle.row_record.specs.RoundTrip.{FloatsFit}
use Rattle.row_record.proofs.RoundTrip.{own-words, got-back}
use Rattle.row_params.specs.declared.RowPlace.{RowPlace}
use Rattle.row_params.specs.declared.FrameBounds.{FrameBounds}
use Rattle.row_search.specs.Suppression.{keep_all}
use Rattle.row_search.specs.Account.{◌∈◌, Descending}
use Rattle.row_search.proofs.Account.{kept-descend}
use Rattle.row_search.specs.Qualifying.{left_x, right_x, qualifying, kept}
use Rattle.row_search.proofs.QualifyingLaws.{qualifying-ascend}
use Rattle.row.specs.Row.{subscan, mobility_at, peak_of, row_words}
use Rattle.row.proofs.RowWords.{row-words-length}
use Rattle.row_laws.specs.RowRecords.{nth, Bears, KeptBear, KeptWhole, KeptAscend}

-- each is one of the list
pub one_of : (ks : List ℕ) (j : ℕ) → j < length ks → get_or ks j 0 ∈ ks
one_of [] j h = absurd (omega arith)
one_of (k ∷ ks) zero h = here refl
one_of (k ∷ ks) (suc j) h = there (one_of ks j (omega arith))

-- ---- every float of a record is one of binary32
reading-fits : (y : List Float) (i : ℕ) → AllFit y → T (fits binary32 (at y i))
reading-fits y i f = go (ltb i (length y)) refl
  where
    go : (b : Bool) → ltb i (length y) ≡ b → T (fits binary32 (at y i))
    go true e = f i (ltb-true i (length y) e)
    go false e = subst (λ (x : Float). T (fits binary32 x)) (sym (get_or-eq_default y nan (ltb-false i (length y) e))) (nan-fits binary32)

mobility-fits : (t : List Float) (i : ℕ) → AllFit t → T (fits binary32 (mobility_at t i))
mobility-fits [] i f = of_bits-fits binary32 0
mobility-fits (m ∷ ms) i f = go m ms i f
  where
    go : (m : Float) (ms : List Float) (i : ℕ) → AllFit (m ∷ ms) → T (fits binary32 (get_or (m ∷ ms) i 𝟎))
    go m ms zero f = f 0 (omega arith)
    go m [] (suc i) f = of_bits-fits binary32 0
    go m (n ∷ ms) (suc i) f = go n ms i (λ j h. f (suc j) (omega arith))

left-fits : (y : List Float) (h : Float) (i : ℕ) → T (fits binary32 (left_crossing y h i))
unfolding left_crossing
left-fits y h i = cond-fits binary32 (ltb (left_foot y h i) i) _ _ (add-fits binary32 _ _) (of_int-fits binary32 _)

right-fits : (y : List Float) (h : Float) (i : ℕ) → T (fits binary32 (right_crossing y h i))
unfolding right_crossing
right-fits y h i = cond-fits binary32 (ltb i (right_foot y h i)) _ _ (add-fits binary32 _ _) (of_int-fits binary32 _)

whole-fits : (z : List Float) (k s : ℕ) (a : Float) → T (fits binary32 a) → T (fits binary32 (whole z k s a))
unfolding whole
whole-fits z zero s a h = h
whole-fits z (suc k) s a h = whole-fits z k (s + 1) _ (add-fits binary32 _ _)

area-fits : (z : List Float) (x0 x1 : Float) → T (fits binary32 (area_f z x0 x1))
unfolding area_f between within across tail head strip
area-fits z x0 x1 =
    cond-fits binary32 (ltb (length z) 2) _ _ (of_bits-fits binary32 0)
    (cond-fits binary32 (le (clamp_f x1 𝟎 (index_f (length z - 1))) (clamp_f x0 𝟎 (index_f (length z - 1)))) _ _ (of_bits-fits binary32 0)
    (cond-fits binary32 (eqb (cast_f (clamp_f x0 𝟎 (index_f (length z - 1)))) (cast_f (clamp_f x1 𝟎 (index_f (length z - 1))))) _ _ (mul-fits binary32 _ _)
    (cond-fits binary32 (leb (cast_f (clamp_f x1 𝟎 (index_f (length z - 1)))) (length z - 2)) _ _ (add-fits binary32 _ _) (whole-fits z _ _ _ (add-fits binary32 _ _)))))

clamp-fits : (x lo hi : Float) → T (fits binary32 x) → T (fits binary32 lo) → T (fits binary32 hi) → T (fits binary32 (clamp_f x lo hi))
unfolding clamp_f
clamp-fits x lo hi p q r = cond-fits binary32 (lt x lo) lo _ q (cond-fits binary32 (lt hi x) hi x r p)

pub quad-fits : (a b c : Float) → T (fits binary32 (quad_f a b c))
unfolding quad_f
quad-fits a b c = cond-fits binary32 (lt (abs_f (a ⊖ 𝟐 ⊗ b ⊕ c)) (of_bits binary32 0x2b8c_bccc)) _ _ (of_bits-fits binary32 0) (div-fits binary32 _ _)

subscan-fits : (y : List Float) (i : ℕ) → T (fits binary32 (subscan y i))
unfolding subscan
subscan-fits y i = clamp-fits _ _ _ (quad-fits _ _ _) (of_bits-fits binary32 0xbf00_0000) (of_bits-fits binary32 0x3f00_0000)

-- what is put as words is got back
words_back : (p : ImPeak1D) → FloatsFit p → peak_from (words_of p) 0 ≡ p
unfolding with_peak
words_back p f = got-back (words_of p) 0 p (lit≤ tt) f

module _ (r : RowPlace) (f : FrameBounds) (mobility : List Float) (axis : List ℕ) (y z : List Float) where
  peak-fits : (i id : ℕ) → AllFit y → AllFit z → AllFit mobility → FloatsFit (peak_of r f mobility axis y z i id)
  unfolding peak_of prominence left_x right_x
  peak-fits i id fy fz fm =
      record {
        sigma = of_bits-fits binary32 0;
        mobility = mobility-fits mobility i fm;
        smoothed = reading-fits y i fy;
        raw = reading-fits z i fz;
        prominence = sub-fits binary32 _ _;
        left = left-fits y _ i;
        right = right-fits y _ i;
        area = area-fits z _ _;
        subscan = subscan-fits y i;
      }

  -- ---- the words at place k are those of the k-th apex
  abbrev peak : List ℕ → ℕ → ℕ → ImPeak1D
  peak ks k first = peak_of r f mobility axis y z (nth ks k) (first + k)

  words-at : (first : ℕ) (ks rest : List ℕ) (k : ℕ) → k < length ks → (j : ℕ) → j < size
      → get_or (row_words r f mobility axis y z first ks ++ rest) (k * size + j) 0 ≡ get_or (words_of (peak ks k first)) j 0
  unfolding row_words
  words-at first [] rest k h j l = absurd (omega arith)
  words-at first (i ∷ older) rest k h j l = go (ltb k (length older)) refl (words-at first older (words_of (peak_of r f mobility axis y z i (first + length older)) ++ rest) k)
    where
      W : List ℕ
      W = row_words r f mobility axis y z first older

      P : List ℕ
      P = words_of (peak_of r f mobility axis y z i (first + length older))

      go : (b : Bool) → ltb k (length older) ≡ b
          → (k < length older → (j : ℕ) → j < size → get_or (W ++ (P ++ rest)) (k * size + j) 0 ≡ get_or (words_of (peak older k first)) j 0)
          → get_or (W ++ P ++ rest) (k * size + j) 0 ≡ get_or (words_of (peak (i ∷ older) k first)) j 0
      go true e again =
          let q : k < length older = ltb-true k (length older) e in
          let s : length (i ∷ older) - 1 - k ≡ suc (length older - 1 - k) = omega arith in
          ap (λ (l : List ℕ). get_or l (k * size + j) 0) (append_assoc W P rest) ∙ again q j l
          ∙ ap (λ (n : ℕ). get_or (words_of (peak_of r f mobility axis y z (get_or (i ∷ older) n 0) (first + k))) j 0) (sym s)
      go false e again =
          let q : k ≡ length older = omega (arith, ltb-false k (length older) e) in
          let s : length (i ∷ older) - 1 - k ≡ 0 = omega arith in
          let n : k * size + j ≡ length W + j = omega (arith, row-words-length r f mobility axis y z first older) in
          ap (λ (l : List ℕ). get_or l (k * size + j) 0) (append_assoc W P rest)
          ∙ ap (λ (m : ℕ). get_or (W ++ (P ++ rest)) m 0) n
          ∙ get_or-append-add W (P ++ rest) j 0
          ∙ get_or-append P rest 0 j l
          ∙ ap (λ (m : ℕ). get_or (words_of (peak_of r f mobility axis y z i (first + m))) j 0) (sym q)
          ∙ ap (λ (m : ℕ). get_or (words_of (peak_of r f mobility axis y z (get_or (i ∷ older) m 0) (first + k))) j 0) (sym s)

  place_is : (first : ℕ) (ks rest : List ℕ) (k : ℕ) → k < length ks → peak_at (row_words r f mobility axis y z first ks ++ rest) k ≡ peak_from (words_of (peak ks k first)) 0
  place_is first ks rest k h =
      own-words (row_words r f mobility axis y z first ks ++ rest) (words_of (peak ks k first)) (k * size) 0 (λ j l. rw zero-add (words-at first ks rest k h j l))

  -- ---- the theorem, for every list of apexes and whatever follows the records

  -- a record bears its row, its apex and its identity
  pub bears : (first : ℕ) (ks rest : List ℕ) (k : ℕ) → k < length ks → Bears r first ks k (peak_at (row_words r f mobility axis y z first ks ++ rest) k)
  unfolding peak_from peak_of
  bears first ks rest k h =
      let e = place_is first ks rest k h in
      record { row = ap (λ (p : ImPeak1D). p.tof_row) e; apex = ap (λ (p : ImPeak1D). p.scan) e; identity = ap (λ (p : ImPeak1D). p.id) e }

  -- the whole record is that of its apex. A slice of f32 holds binary32 values alone, as every f32 is one.
  pub record-at : AllFit y → AllFit z → AllFit mobility → (first : ℕ) (ks rest : List ℕ) (k : ℕ) → k < length ks
      → peak_at (row_words r f mobility axis y z first ks ++ rest) k ≡ peak_of r f mobility axis y z (nth ks k) (first + k)
  record-at fy fz fm first ks rest k h =
      place_is first ks rest k h ∙ words_back (peak ks k first) (peak-fits (nth ks k) (first + k) fy fz fm)

-- ---- the apexes that are kept
pub kept-bear : KeptBear
kept-bear r f mobility axis y z p first = bears r f mobility axis y z first (kept p y z)

pub kept_whole : KeptWhole
kept_whole r f mobility axis y z p first fy fz fm = record-at r f mobility axis y z fy fz fm first (kept p y z)

descends : (ks : List ℕ) → Descending ks → (a b : ℕ) → a < b → b < length ks → get_or ks b 0 < get_or ks a 0
descends [] d a b l h = absurd (omega arith)
descends (k ∷ ks) d a zero l h = absurd (omega arith)
descends (k ∷ ks) d zero (suc b) l h = d.0 (get_or ks b 0) (one_of ks b (omega arith))
descends (k ∷ ks) d (suc a) (suc b) l h = descends ks d.1 a b (omega arith) (omega arith)

pub kept-ascend : KeptAscend
unfolding kept
kept-ascend p y z j k l h =
    let d = kept-descend p.min_distance_scans y (qualifying p y z) (qualifying-ascend p y z) in
    descends (keep_all p.min_distance_scans y [] (qualifying p y z)) d _ _ (omega arith) (omega arith)
