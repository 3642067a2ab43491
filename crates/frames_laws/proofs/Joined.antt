-- Lists that climb, offsets, frames and readings, one behind another.
use mathlib.Core.Path.{◌≡◌, refl, sym, ap, ◌∙◌}
use mathlib.Core.Bool.{Bool, true, false, cond}
use mathlib.Core.List.{List, [], ◌∷◌, ◌++◌, map, append-nil, append_assoc, Memᴰ}
use mathlib.Core.List.Memᴰ.{head as here}
use mathlib.Core.List.Memᴰ.{tail as there}
use Prim.Native.Nat.{ℕ, zero, suc, ◌+◌, ◌-◌, ◌≤◌}
use native.Mathlib.Omega.{arith}
use borrow.Author.Tests.{eqb-true, eq-eqb, leb-true, le-leb}
use lib.Dec.{eqb, leb}
use lib.ListN.{length, get_or, take, drop, length-drop, take-append-drop, drop_of_length-le}
use lib.Seq.{drop-cons, take-append-le, drop-append-le, drop-append_seam, take_all}
use lib.Ieee.{Float}
use Rattle.refusal.proofs.Bools.{clash, both}
use Rattle.numeric.specs.Arith.{at}
use Rattle.numeric.specs.Numeric.{in_range, all_in_range}
use Rattle.row_params.specs.Params.{rising}
use Rattle.frames_index.specs.FrameIndex.{climbs_from, climbs_to, bins_between, frames_rise_from, frames_rise}
use Rattle.frames_index.proofs.Laws.{from-most, climbs-last}
use Rattle.frames_bins.specs.FrameBins.{is_new, firsts_to}

-- ---- lists that climb

from-snoc : (n m s : ℕ) (l : List ℕ) → climbs_from n s l ≡ true → n ≤ m → climbs_from m s (l ++ (m ∷ [])) ≡ true
unfolding climbs_from
from-snoc n m s [] e h = let x = eqb-true s n e in rw (le-leb s m (omega arith), eq-eqb m m refl)
from-snoc n m s (t ∷ ts) e h = let p = both (leb s t) e in rw (p.0, from-snoc n m t ts p.1 h)

-- one number more
pub climbs-snoc : (n m : ℕ) (l : List ℕ) → climbs_to n l ≡ true → n ≤ m → climbs_to m (l ++ (m ∷ [])) ≡ true
unfolding climbs_to
climbs-snoc n m [] e h = clash false e refl
climbs-snoc n m (s ∷ ss) e h = let p = both (eqb s 0) e in rw (p.0, from-snoc n m s ss p.1 h)

from-append : (n m s : ℕ) (l q : List ℕ) → climbs_from n s l ≡ true → climbs_from m n q ≡ true → climbs_from m s (l ++ q) ≡ true
unfolding climbs_from
from-append n m s [] q e h = let x = eqb-true s n e in rw x h
from-append n m s (t ∷ ts) q e h = let p = both (leb s t) e in rw (p.0, from-append n m t ts q p.1 h)

-- a list that climbs on from the last number
pub climbs-append : (n m : ℕ) (l q : List ℕ) → climbs_to n l ≡ true → climbs_from m n q ≡ true → climbs_to m (l ++ q) ≡ true
unfolding climbs_to
climbs-append n m [] q e h = clash false e refl
climbs-append n m (s ∷ ss) q e h = let p = both (eqb s 0) e in rw (p.0, from-append n m s ss q p.1 h)

-- a list whose last number is that of another's front
pub seam : (n k : ℕ) (l q : List ℕ) → climbs_to n l ≡ true → length l ≡ k + 1 → take k l ++ (n ∷ q) ≡ l ++ q
seam n k l q e h =
    let i : length l - 1 ≡ k = omega arith in
    let last : get_or l k 0 ≡ n = rw i at (climbs-last n l e) in
    let none : drop (suc k) l ≡ [] = drop_of_length-le l {i = suc k} (omega arith) in
    let whole : take k l ++ (n ∷ []) ≡ l = ap (λ (x : List ℕ). take k l ++ x) (rw (← last, ← none) (sym (drop-cons l k 0 (omega arith)))) ∙ take-append-drop k l in
    ap (λ (x : List ℕ). take k l ++ x) refl ∙ sym (append_assoc (take k l) (n ∷ []) q) ∙ ap (λ (x : List ℕ). x ++ q) whole

last-part : (n s : ℕ) (l : List ℕ) → climbs_from n s (s ∷ l) ≡ true → climbs_from n s l ≡ true
unfolding climbs_from
last-part n s l e = (both (leb s s) e).1

-- ---- offsets of a frame's view

module _ (base : ℕ) (bs : List ℕ) where
  firsts-climb : (k m : ℕ) → k ≤ m → climbs_from (base + m) base (firsts_to base bs k ++ ((base + m) ∷ [])) ≡ true
  unfolding firsts_to climbs_from
  firsts-climb zero m h = rw (le-leb base (base + m) (omega arith), eq-eqb (base + m) (base + m) refl)
  firsts-climb (suc k) m h = go (is_new bs k) (firsts-climb k m (omega arith)) (firsts-climb k k (omega arith))
    where
      go : (t : Bool) → climbs_from (base + m) base (firsts_to base bs k ++ ((base + m) ∷ [])) ≡ true
          → climbs_from (base + k) base (firsts_to base bs k ++ ((base + k) ∷ [])) ≡ true
          → climbs_from (base + m) base ((firsts_to base bs k ++ cond t ((base + k) ∷ []) []) ++ ((base + m) ∷ [])) ≡ true
      go true e f = from-snoc (base + k) (base + m) base (firsts_to base bs k ++ ((base + k) ∷ [])) f (omega arith)
      go false e f = rw append-nil e

  front-stays : (l m : List ℕ) → l ≡ base ∷ drop 1 l → l ++ m ≡ base ∷ drop 1 (l ++ m)
  front-stays [] m e = absurd (omega (arith, ap length e))
  front-stays (x ∷ xs) m e = ap (λ (y : ℕ). y ∷ (xs ++ m)) (ap (λ (l : List ℕ). get_or l 0 0) e)

  firsts-front : (k : ℕ) → firsts_to base bs (suc k) ≡ base ∷ drop 1 (firsts_to base bs (suc k))
  unfolding firsts_to
  firsts-front zero = let e : base + 0 ≡ base = omega arith in rw e
  firsts-front (suc k) = front-stays (firsts_to base bs (suc k)) (cond (is_new bs (suc k)) ((base + suc k) ∷ []) []) (firsts-front k)

  pub offsets-front : (n : ℕ) → (firsts_to base bs n ++ ((base + n) ∷ [])) ≡ base ∷ drop 1 (firsts_to base bs n ++ ((base + n) ∷ []))
  unfolding firsts_to
  offsets-front zero = let e : base + 0 ≡ base = omega arith in rw e
  offsets-front (suc n) = front-stays (firsts_to base bs (suc n)) ((base + suc n) ∷ []) (firsts-front n)

  pub offsets-climb : (n : ℕ) → climbs_from (base + n) base (drop 1 (firsts_to base bs n ++ ((base + n) ∷ []))) ≡ true
  offsets-climb n = go (firsts_to base bs n ++ ((base + n) ∷ [])) (firsts-climb n n (omega arith)) (offsets-front n)
    where
      go : (l : List ℕ) → climbs_from (base + n) base l ≡ true → l ≡ base ∷ drop 1 l → climbs_from (base + n) base (drop 1 l) ≡ true
      go l e f = last-part (base + n) base (drop 1 l) (rw f at e)

-- ---- frames

module _ (old new : List ℕ) where
  -- those that are there keep their bins
  same-bins : (s t : ℕ) → s ≤ t → t ≤ length old → bins_between (old ++ new) s t ≡ bins_between old s t
  same-bins s t l h =
      ap (take (t - s)) (drop-append-le s old new (omega arith)) ∙ take-append-le (t - s) (drop s old) new (rw (length-drop s old) (omega arith))

  -- and the next one has the others
  new-bins : bins_between (old ++ new) (length old) (length old + length new) ≡ new
  new-bins =
      let e : length old + length new - length old ≡ length new = omega arith in
      rw e (ap (take (length new)) (drop-append_seam old new) ∙ take_all (length new) new (omega arith))

  from-frames : (s : ℕ) (l : List ℕ) → frames_rise_from old s l ≡ true → climbs_from (length old) s l ≡ true → rising new ≡ true
      → frames_rise_from (old ++ new) s (l ++ ((length old + length new) ∷ [])) ≡ true
  unfolding frames_rise_from climbs_from
  from-frames s [] e c r = let x : s ≡ length old = eqb-true s (length old) c in rw (x, new-bins, r)
  from-frames s (t ∷ ts) e c r =
      let p = both (rising (bins_between old s t)) e in
      let q = both (leb s t) c in
      rw (same-bins s t (leb-true s t q.0) (from-most (length old) t ts q.1), p.0, from-frames t ts p.1 q.1 r)

  pub frames-snoc : (l : List ℕ) → frames_rise old l ≡ true → climbs_to (length old) l ≡ true → rising new ≡ true → frames_rise (old ++ new) (l ++ ((length old + length new) ∷ [])) ≡ true
  unfolding frames_rise climbs_to
  frames-snoc [] e c r = clash false c refl
  frames-snoc (s ∷ ss) e c r = from-frames s ss e (both (eqb s 0) c).1 r

-- ---- readings

pub range-append : (limit : ℕ) (l m : List Float) → all_in_range limit l ≡ true → all_in_range limit m ≡ true → all_in_range limit (l ++ m) ≡ true
unfolding all_in_range
range-append limit [] m e f = f
range-append limit (x ∷ xs) m e f = let p = both (in_range limit x) e in rw (p.0, range-append limit xs m p.1 f)

pub range-map : (limit : ℕ) (y : List Float) (ps : List ℕ) → ((p : ℕ) → Memᴰ p ps → in_range limit (at y p) ≡ true) → all_in_range limit (map (at y) ps) ≡ true
unfolding all_in_range
range-map limit y [] h = refl
range-map limit y (p ∷ ps) h = rw (h p (here refl), range-map limit y ps (λ q m. h q (there m)))
