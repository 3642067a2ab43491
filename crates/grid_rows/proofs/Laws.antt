-- Laws of detection over the rows of a grid.
use mathlib.Core.Path.{◌≡◌, refl, sym, ap, ◌∙◌}
use mathlib.Core.Bool.{Bool, true, false, ◌||◌}
use mathlib.Core.List.{List, [], ◌++◌, append_assoc, append-nil}
use Prim.Native.Nat.{ℕ, zero, suc, ◌+◌, ◌-◌, ◌*◌, ◌%◌, ◌^◌, ◌≤◌, ◌<◌}
use native.Mathlib.Nat.{mul-le-mul_right, add-mul, add-zero, zero-mul, mul-zero, mul_assoc}
use native.Mathlib.Numerals.{add-one}
use native.Mathlib.Omega.{arith}
use borrow.Author.Tests.{eqb-true, leb-true}
use borrow.Rule.Slice.PartMut.{put_mid}
use lib.Dec.{eqb}
use lib.ListN.{length, take, drop, length-drop, length-take, length-append}
use lib.Seq.{length-take-le}
use lib.Ieee.{Float}
use Rattle.refusal.proofs.Bools.{all4}
use Rattle.numeric.proofs.Patterns.{all_take, all_drop}
use Rattle.row_record.specs.Record.{size}
use Rattle.row_record.proofs.Laws.{put-part}
use Rattle.row_params.specs.Params.{most_peaks}
use Rattle.row_params.specs.declared.ImDetectParams.{ImDetectParams}
use Rattle.row_params.specs.declared.RowPlace.{RowPlace}
use Rattle.row_params.specs.declared.FrameBounds.{FrameBounds}
use Rattle.row_smoothing.specs.Smoothing.{sound_weights}
use Rattle.row_search.specs.Qualifying.{kept}
use Rattle.row_search.proofs.QualifyingLaws.{kept-count}
use Rattle.row_smoothed.specs.SmoothRow.{searched, sound_or_none}
use Rattle.row_smoothed.proofs.Laws.{searched-length}
use Rattle.row.proofs.RowWords.{row-words-length}
use Rattle.row.specs.Written.{Written, stride}
use Rattle.row.proofs.Laws.{put-none, put-length}
use Rattle.row.proofs.Laws as rows
use Rattle.tof_scale.specs.Tof.{row_place}
use Rattle.grid_rows.specs.Grid.{Grid, row_of, listed_in, words_in, count_from, words_from}
use Rattle.grid_rows.specs.Steps.{Handed, RowPut, RowReady, RowDone, Ready, Done, numbered}
use Rattle.numeric.proofs.Laws.{product-step}
use Rattle.numeric.proofs.Lists.{fill-behind}

-- ---- one row

module _ {T : Type 0} (w : Written T) (place : RowPlace) (bounds : FrameBounds) (mobility : List Float) (p : ImDetectParams) (axis : List ℕ) (weights z : List Float) (first : ℕ) where
  pub listed-none : (d : List T) → kept p (searched weights z) z ≡ [] → RowPut w place bounds mobility p axis weights z first d d 0
  listed-none d e =
      let l = rows.listed-none place bounds mobility axis (searched weights z) z first w d in
      record { count = rw e; words = rw e l.front }

-- ---- one row of a grid
module _ (g : Grid) (r room : ℕ) (h : RowReady g r room) where
  pub row-length : length (row_of g r) ≡ g.cols
  row-length = length-take-le g.cols (drop (r * g.cols) g.used) (rw length-drop (omega (arith, h.readings)))

  pub row-handed : (scratch samples : ℕ) (z : List Float) → g.cols ≤ scratch → g.cols ≤ samples → z ≡ row_of g r
      → Handed z g.scans g.weights g.first room scratch samples
  row-handed scratch samples z j k e =
      let l : length z ≡ g.cols = ap length e ∙ row-length in
      record {
        search =
            record {
              readings = rw e (all_take 0x4f80_0000 g.cols (drop (r * g.cols) g.used) (all_drop 0x4f80_0000 (r * g.cols) g.used h.ranged));
              weighed = h.weighed;
              short = rw l h.short;
              long = rw l j;
              room = rw l k;
            };
        row = record { raw = refl; scans = h.scans ∙ sym l; short = rw l h.short; words = rw l h.words; ids = rw l h.ids };
      }

  pub row_done : {T : Type 0} (w : Written T) (place : RowPlace) (bounds : FrameBounds) (mobility z : List Float) (axis : List ℕ) (d out : List T) (n : ℕ)
      → z ≡ row_of g r → place ≡ row_place g.scale r → bounds ≡ g.bounds → mobility ≡ g.mobility → axis ≡ g.scans
      → RowPut w place bounds mobility g.params axis g.weights z g.first d out n → RowDone w g r d out n
  unfolding listed_in
  row_done w place bounds mobility z axis d out n e f b m a l =
      let k : RowPut w (row_place g.scale r) g.bounds g.mobility g.params g.scans g.weights (row_of g r) g.first d out n = rw (e, f, b, m, a) at l in
      record { count = k.count; words = k.words }

-- ---- some rows of a grid

-- a row has no more peaks than its columns allow
pub listed-bound : (g : Grid) (r : ℕ) → length (listed_in g r) ≤ most_peaks g.cols
unfolding listed_in
listed-bound g r =
    let z = row_of g r in
    let l : length z ≤ g.cols = rw length-take (omega arith) in
    let e : length (searched g.weights z) ≡ length z = searched-length g.weights z in
    omega (arith, kept-count g.params (searched g.weights z) z)

pub count-bound : (g : Grid) (from k : ℕ) → count_from g from k ≤ k * most_peaks g.cols
unfolding count_from
count-bound g from zero = omega arith
count-bound g from (suc k) =
    let e : suc k * most_peaks g.cols ≡ k * most_peaks g.cols + most_peaks g.cols = rw (← add-one) (product-step k (most_peaks g.cols)) in
    omega (arith, count-bound g from k, listed-bound g (from + k))

pub words-length : (g : Grid) (from k : ℕ) → length (words_from g from k) ≡ count_from g from k * size
unfolding count_from words_from
words-length g from zero = refl
words-length g from (suc k) =
    let h = words-length g from k in
    let w : length (words_in g (from + k) (g.first + count_from g from k)) ≡ length (listed_in g (from + k)) * size =
    row-words-length (row_place g.scale (from + k)) g.bounds g.mobility g.scans _ _ _ (listed_in g (from + k)) in
    rw length-append (omega arith)

-- another first identity changes nothing that is counted
pub same_count : (g : Grid) (first from k : ℕ) → count_from (numbered g first) from k ≡ count_from g from k
unfolding count_from listed_in
same_count g first from zero = refl
same_count g first from (suc k) = rw (same_count g first from k)

-- the rows in two parts: the second part is what a grid gives whose identities begin behind the first part's
pub count-join : (g : Grid) (from a b : ℕ) → count_from g from (a + b) ≡ count_from g from a + count_from g (from + a) b
unfolding count_from
count-join g from a zero = rw add-zero (omega arith)
count-join g from a (suc b) =
    let s : a + suc b ≡ suc (a + b) = omega arith in
    let t : from + (a + b) ≡ from + a + b = omega arith in
    rw (s, count_from, t, count-join g from a b) (omega arith)

pub words-join : (g : Grid) (from a b : ℕ) → words_from g from (a + b) ≡ words_from g from a ++ words_from (numbered g (g.first + count_from g from a)) (from + a) b
unfolding count_from words_from listed_in
words-join g from a zero = rw (add-zero, append-nil)
words-join g from a (suc b) =
    let s : a + suc b ≡ suc (a + b) = omega arith in
    let t : from + (a + b) ≡ from + a + b = omega arith in
    let c : count_from (numbered g (g.first + count_from g from a)) (from + a) b ≡ count_from g (from + a) b = same_count g (g.first + count_from g from a) (from + a) b in
    let i : g.first + (count_from g from a + count_from g (from + a) b) ≡ g.first + count_from g from a + count_from g (from + a) b = omega arith in
    rw (s, words_from, t, words-join g from a b, count-join g from a b, c, i)
    (append_assoc (words_from g from a) (words_from (numbered g (g.first + count_from g from a)) (from + a) b) (words_in g (from + a + b) (g.first + count_from g from a + count_from g (from + a) b)))

-- before the first row
pub done-start : {T : Type 0} (w : Written T) (g : Grid) (from : ℕ) (d : List T) → Done w g from from d d 0
unfolding count_from words_from
done-start w g from d = let e : from - from ≡ 0 = omega arith in record { count = rw e; words = rw (e, put-none w, zero-mul (stride w)) }

-- words written behind those that stand at the front of d, through the part of the list behind them
put-behind : {T : Type 0} (w : Written T) (W R : List ℕ) (d out last : List T) (n m : ℕ) → length W ≡ n * size → out ≡ w.put W ++ drop (n * stride w) d
    → last ≡ w.put R ++ drop (m * stride w) (take (length out - n * stride w) (drop (n * stride w) out))
    → put_mid (n * stride w) (length out - n * stride w) out last ≡ w.put (W ++ R) ++ drop ((n + m) * stride w) d
put-behind w W R d out last n m h a b =
    let K = stride w in
    let l : length (w.put W) ≡ n * K = put-length w W n h in
    put-part out (w.put R) last (n * K) (m * K) b ∙ fill-behind (w.put W) (w.put R) d out (n * K) (m * K) l a ∙ rw (w.joined W R, add-mul n m K) refl

small-ids : (first n k most : ℕ) → n ≤ k * most → first < 2 ^ 32 → first + (n + most) ≤ 2 ^ 32 → (n < 2 ^ 32) × (first + n < 2 ^ 32)
small-ids first n k zero a b c = let z : k * 0 ≡ 0 = mul-zero k in (omega arith, omega arith)
small-ids first n k (suc most) a b c = (omega arith, omega arith)

-- a turn at row r, with n peaks before it
module _ (g : Grid) (from to room : ℕ) (h : Ready g from to room) (r n : ℕ) (low : from ≤ r) (high : r < to) (is : n ≡ count_from g from (r - from)) where
  pub turn-most : n + most_peaks g.cols ≤ (to - from) * most_peaks g.cols
  turn-most =
      let m = most_peaks g.cols in
      let b : (r - from + 1) * m ≤ (to - from) * m = mul-le-mul_right m (omega arith) in
      omega (arith, count-bound g from (r - from), product-step (r - from) m)

  pub turn-ids : g.first < 2 ^ 32 → (n < 2 ^ 32) × (g.first + n < 2 ^ 32)
  turn-ids f =
      let m = most_peaks g.cols in
      small-ids g.first n (r - from) m (rw is (count-bound g from (r - from))) f (omega (arith, turn-most, h.ids))

  pub turn-room : n * size + most_peaks g.cols * size ≤ room
  turn-room = omega (arith, turn-most, h.words)

  -- where the next record stands in a list with room for all of them, and what is left behind that place
  pub turn-fits : {T : Type 0} (w : Written T) (long : ℕ) → room * w.unit ≤ long
      → (n * stride w ≤ long) × ((room - n * size) * w.unit ≤ long - n * stride w)
  turn-fits w long f =
      let left = room - n * size in
      let e : room ≡ n * size + left = omega (arith, turn-room) in
      let s : room * w.unit ≡ n * stride w + left * w.unit =
      ap (λ (i : ℕ). i * w.unit) e ∙ add-mul (n * size) left w.unit ∙ ap (λ (i : ℕ). i + left * w.unit) (mul_assoc n size w.unit) in
      (omega (arith, s, f), omega (arith, s, f))

  -- the same place, where a record takes K places
  pub turn-at : {T : Type 0} (w : Written T) (K lent long : ℕ) → K ≡ stride w → room * w.unit ≤ lent → long ≡ lent → n * K ≤ long
  turn-at w K lent long e f l = rw (e, l) (turn-fits w lent f).0

  -- `left` words are left behind those of the n peaks
  pub turn-ready : (left : ℕ) → room ≤ n * size + left → RowReady (numbered g (g.first + n)) r left
  turn-ready left l =
      let b : (r + 1) * g.cols ≤ to * g.cols = mul-le-mul_right g.cols (omega arith) in
      record {
        readings = omega (arith, product-step r g.cols, h.readings);
        ranged = h.ranged;
        scans = h.scans;
        short = h.short;
        scale = h.scale;
        bin = omega (arith, h.bins);
        weighed = h.weighed;
        words = omega (arith, turn-room);
        ids = omega (arith, turn-most, h.ids);
      }

  pub turn-done : {T : Type 0} (w : Written T) (d out last : List T) (m : ℕ) → Done w g from r d out n
      → RowDone w (numbered g (g.first + n)) r (take (length out - n * stride w) (drop (n * stride w) out)) last m
      → Done w g from (r + 1) d (put_mid (n * stride w) (length out - n * stride w) out last) (n + m)
  unfolding count_from words_from listed_in
  turn-done w d out last m a b =
      let k = r - from in
      let e : r + 1 - from ≡ suc (r - from) = omega arith in
      let f : from + (r - from) ≡ r = omega arith in
      let l : length (words_from g from k) ≡ n * size = words-length g from k ∙ ap (λ (i : ℕ). i * size) (sym is) in
      record {
        count = rw (e, count_from, f, ← is, ← b.count);
        words = put-behind w (words_from g from k) (words_in g r (g.first + n)) d out last n m l a.words b.words ∙ rw (e, words_from, f, ← is);
      }

-- ---- the rows in two parts
module _ (g : Grid) (from mid to room : ℕ) (h : Ready g from to room) (low : from ≤ mid) (high : mid ≤ to) where
  pub ready-front : Ready g from mid room
  ready-front =
      let m = most_peaks g.cols in
      let b : (mid - from) * m ≤ (to - from) * m = mul-le-mul_right m (omega arith) in
      let c : mid * g.cols ≤ to * g.cols = mul-le-mul_right g.cols high in
      record {
        readings = omega (arith, h.readings);
        ranged = h.ranged;
        scans = h.scans;
        short = h.short;
        scale = h.scale;
        bins = omega (arith, h.bins);
        weighed = h.weighed;
        words = omega (arith, h.words);
        ids = omega (arith, h.ids);
      }

  -- n peaks are those of the first part, and `left` words are left behind theirs
  module _ (n : ℕ) (is : n ≡ count_from g from (mid - from)) where
    both-parts : (to - from) * most_peaks g.cols ≡ (mid - from) * most_peaks g.cols + (to - mid) * most_peaks g.cols
    both-parts =
        let e : to - from ≡ mid - from + (to - mid) = omega arith in
        ap (λ (k : ℕ). k * most_peaks g.cols) e ∙ add-mul (mid - from) (to - mid) (most_peaks g.cols)

    pub few-first : n ≤ (mid - from) * most_peaks g.cols
    few-first = rw is (count-bound g from (mid - from))

    pub ready-back : (left : ℕ) → room ≤ n * size + left → Ready (numbered g (g.first + n)) mid to left
    ready-back left l =
        record {
          readings = h.readings;
          ranged = h.ranged;
          scans = h.scans;
          short = h.short;
          scale = h.scale;
          bins = h.bins;
          weighed = h.weighed;
          words = omega (arith, both-parts, few-first, h.words);
          ids = omega (arith, both-parts, few-first, h.ids);
        }

    pub done-join : {T : Type 0} (w : Written T) (d out last : List T) (m : ℕ) → Done w g from mid d out n
        → Done w (numbered g (g.first + n)) mid to (take (length out - n * stride w) (drop (n * stride w) out)) last m
        → Done w g from to d (put_mid (n * stride w) (length out - n * stride w) out last) (n + m)
    done-join w d out last m a b =
        let k = mid - from in
        let e : to - from ≡ k + (to - mid) = omega arith in
        let f : from + (mid - from) ≡ mid = omega arith in
        let l : length (words_from g from k) ≡ n * size = words-length g from k ∙ ap (λ (i : ℕ). i * size) (sym is) in
        let c : m ≡ count_from g mid (to - mid) = b.count ∙ same_count g (g.first + n) mid (to - mid) in
        record {
          count = rw (e, count-join g from k (to - mid), f, ← is, ← c);
          words = put-behind w (words_from g from k) (words_from (numbered g (g.first + n)) mid (to - mid)) d out last n m l a.words b.words ∙ rw (e, words-join g from k (to - mid), f, ← is);
        }

-- ---- weights
pub few-weights : (ws : List Float) → sound_or_none ws ≡ true → length ws ≤ 257
unfolding sound_weights
few-weights ws h = go (eqb (length ws) 0) refl h
  where
    go : (b : Bool) → eqb (length ws) 0 ≡ b → (b || sound_weights ws) ≡ true → length ws ≤ 257
    go true e k = omega (arith, eqb-true (length ws) 0 e)
    go false e k = leb-true (length ws) 257 (all4 (eqb (length ws % 2) 1) k).1
