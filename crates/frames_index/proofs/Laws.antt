-- What a sound index has: starts and offsets that climb to their counts, and bins that rise within a frame.
use mathlib.Core.Path.{◌≡◌, refl, sym, ap, ◌∙◌}
use mathlib.Core.Bool.{Bool, true, false, ◌&&◌}
use mathlib.Core.List.{List, [], ◌∷◌, map}
use Prim.Native.Nat.{ℕ, zero, suc, ◌≤◌, ◌<◌, ◌+◌, ◌-◌}
use native.Mathlib.Numerals.{add-one, sub-one}
use native.Mathlib.Omega.{arith}
use borrow.Author.Tests.{leb-true, ltb-true, ltb-false, eqb-true, lt-ltb, le-ltb}
use lib.Dec.{leb, ltb, eqb}
use lib.ListN.{length, get_or, drop, length-drop}
use lib.Seq.{get_or-take, get_or-drop, length-take-le}
use Rattle.refusal.proofs.Bools.{clash, both, all4}
use Rattle.limits.specs.Limits.{last_row}
use Rattle.row_params.specs.Params.{all_neighbours, all_up_to, rising, rising_from}
use Rattle.std.specs.List.{fold, zip}
use Rattle.std.proofs.Math.Bool.{and_assoc, and-true}
use Rattle.frames_index.specs.FrameIndex.{climbs_from, climbs_to, bins_between, frames_rise_from, frames_rise, sound_lists}

-- ---- read as folds

-- each number beside the one before it, and the last one
climbs-from-fold : (n s : ℕ) (l : List ℕ) (all : Bool)
    → (fold (λ (all : Bool) (p : ℕ × ℕ). all && leb p.0 p.1) all (zip (s ∷ l) l) && eqb (get_or (s ∷ l) (length l) 0) n) ≡ (all && climbs_from n s l)
unfolding climbs_from
climbs-from-fold n s [] all = refl
climbs-from-fold n s (t ∷ l) all = climbs-from-fold n t l (all && leb s t) ∙ and_assoc all (leb s t) (climbs_from n t l)

pub climbs-fold : (n : ℕ) (l rest : List ℕ) (s : ℕ) → l ≡ s ∷ rest
    → ((eqb s 0 && all_neighbours leb l) && eqb (get_or l (length rest) 0) n) ≡ climbs_to n l
unfolding climbs_to
climbs-fold n l rest s e = rw e
    (and_assoc (eqb s 0) (fold (λ (all : Bool) (p : ℕ × ℕ). all && leb p.0 p.1) true (zip (s ∷ rest) rest)) (eqb (get_or (s ∷ rest) (length rest) 0) n)
    ∙ ap (λ (b : Bool). eqb s 0 && b) (climbs-from-fold n s rest true))

-- the bins of each frame
frames-from-fold : (bins : List ℕ) (s : ℕ) (l : List ℕ) (all : Bool)
    → fold (λ (all : Bool) (rise : Bool). all && rise) all (map (λ (p : ℕ × ℕ). rising (bins_between bins p.0 p.1)) (zip (s ∷ l) l)) ≡ (all && frames_rise_from bins s l)
unfolding frames_rise_from
frames-from-fold bins s [] all = sym (and-true all)
frames-from-fold bins s (t ∷ l) all =
    frames-from-fold bins t l (all && rising (bins_between bins s t)) ∙ and_assoc all (rising (bins_between bins s t)) (frames_rise_from bins t l)

pub frames-fold : (bins l rest : List ℕ) (s : ℕ) → l ≡ s ∷ rest
    → fold (λ (all : Bool) (rise : Bool). all && rise) true (map (λ (p : ℕ × ℕ). rising (bins_between bins p.0 p.1)) (zip l rest)) ≡ frames_rise bins l
unfolding frames_rise
frames-fold bins l rest s e = rw e (frames-from-fold bins s rest true)

-- ---- lists that climb

pub from-most : (n s : ℕ) (l : List ℕ) → climbs_from n s l ≡ true → s ≤ n
unfolding climbs_from
from-most n s [] h = let e = eqb-true s n h in omega arith
from-most n s (t ∷ ts) h = let b = both (leb s t) h in omega (arith, leb-true s t b.0, from-most n t ts b.1)

from-at-most : (n s : ℕ) (l : List ℕ) (i : ℕ) → climbs_from n s l ≡ true → i < length l → get_or l i 0 ≤ n
unfolding climbs_from
from-at-most n s [] i h k = absurd (omega arith)
from-at-most n s (t ∷ ts) zero h k = from-most n t ts (both (leb s t) h).1
from-at-most n s (t ∷ ts) (suc i) h k = from-at-most n t ts i (both (leb s t) h).1 (omega arith)

from-above : (n s : ℕ) (l : List ℕ) (i : ℕ) → climbs_from n s l ≡ true → i < length l → s ≤ get_or l i 0
unfolding climbs_from
from-above n s [] i h k = absurd (omega arith)
from-above n s (t ∷ ts) zero h k = leb-true s t (both (leb s t) h).0
from-above n s (t ∷ ts) (suc i) h k = let b = both (leb s t) h in omega (arith, leb-true s t b.0, from-above n t ts i b.1 (omega arith))

from-rest : (n s : ℕ) (l : List ℕ) (i j : ℕ) → climbs_from n s l ≡ true → i ≤ j → j < length l → get_or l i 0 ≤ get_or l j 0
unfolding climbs_from
from-rest n s [] i j h a k = absurd (omega arith)
from-rest n s (t ∷ ts) zero zero h a k = omega arith
from-rest n s (t ∷ ts) (suc i) zero h a k = absurd (omega arith)
from-rest n s (t ∷ ts) zero (suc j) h a k = from-above n t ts j (both (leb s t) h).1 (omega arith)
from-rest n s (t ∷ ts) (suc i) (suc j) h a k = from-rest n t ts i j (both (leb s t) h).1 (omega arith) (omega arith)

from_last : (n s : ℕ) (l : List ℕ) → climbs_from n s l ≡ true → get_or (s ∷ l) (length l) 0 ≡ n
unfolding climbs_from
from_last n s [] h = eqb-true s n h
from_last n s (t ∷ ts) h = from_last n t ts (both (leb s t) h).1

pub climbs_tail : (n s : ℕ) (l : List ℕ) → climbs_to n (s ∷ l) ≡ true → climbs_from n s l ≡ true
unfolding climbs_to
climbs_tail n s l h = (both (eqb s 0) h).1

-- of neighbours the later one is not below the other, nor above n
pairs-from : (n s : ℕ) (l : List ℕ) (k : ℕ) (p : ℕ × ℕ) → climbs_from n s l ≡ true → k < length (zip (s ∷ l) l) → p ≡ get_or (zip (s ∷ l) l) k p → (p.0 ≤ p.1) × (p.1 ≤ n)
unfolding climbs_from
pairs-from n s [] k p h m e = absurd (omega arith)
pairs-from n s (t ∷ l) zero p h m e = let b = both (leb s t) h in rw e (leb-true s t b.0, from-most n t l b.1)
pairs-from n s (t ∷ l) (suc k) p h m e = pairs-from n t l k p (both (leb s t) h).1 (omega arith) e

pub climbs-pairs : (n : ℕ) (l rest : List ℕ) (s k : ℕ) (p : ℕ × ℕ) → climbs_to n l ≡ true → l ≡ s ∷ rest → k < length (zip l rest) → p ≡ get_or (zip l rest) k p → (p.0 ≤ p.1) × (p.1 ≤ n)
climbs-pairs n l rest s k p h d m e =
    pairs-from n s rest k p (climbs_tail n s rest (rw d at h)) (rw d at m) (rw d at e)

-- there is one at least, and the first is 0
pub climbs-some : (n : ℕ) (l : List ℕ) → climbs_to n l ≡ true → 0 < length l
unfolding climbs_to
climbs-some n [] h = clash false h refl
climbs-some n (s ∷ ss) h = omega arith

pub climbs-first : (n : ℕ) (l : List ℕ) → climbs_to n l ≡ true → get_or l 0 0 ≡ 0
unfolding climbs_to
climbs-first n [] h = refl
climbs-first n (s ∷ ss) h = eqb-true s 0 (both (eqb s 0) h).0

-- none is above the last, which is n
pub climbs-most : (n : ℕ) (l : List ℕ) (i : ℕ) → climbs_to n l ≡ true → i < length l → get_or l i 0 ≤ n
unfolding climbs_to
climbs-most n [] i h k = absurd (omega arith)
climbs-most n (s ∷ ss) zero h k = from-most n s ss (both (eqb s 0) h).1
climbs-most n (s ∷ ss) (suc i) h k = from-at-most n s ss i (both (eqb s 0) h).1 (omega arith)

pub climbs-last : (n : ℕ) (l : List ℕ) → climbs_to n l ≡ true → get_or l (length l - 1) 0 ≡ n
unfolding climbs_to
climbs-last n [] h = clash false h refl
climbs-last n (s ∷ ss) h = rw (sub-one) (from_last n s ss (both (eqb s 0) h).1)

-- they never fall
pub climbs-up : (n : ℕ) (l : List ℕ) (i j : ℕ) → climbs_to n l ≡ true → i ≤ j → j < length l → get_or l i 0 ≤ get_or l j 0
unfolding climbs_to
climbs-up n [] i j h a k = absurd (omega arith)
climbs-up n (s ∷ ss) zero zero h a k = omega arith
climbs-up n (s ∷ ss) (suc i) zero h a k = absurd (omega arith)
climbs-up n (s ∷ ss) zero (suc j) h a k = from-above n s ss j (both (eqb s 0) h).1 (omega arith)
climbs-up n (s ∷ ss) (suc i) (suc j) h a k = from-rest n s ss i j (both (eqb s 0) h).1 (omega arith) (omega arith)

-- ---- bins of a frame

rises-above : (s : ℕ) (l : List ℕ) (k : ℕ) → rising_from s l ≡ true → k < length l → s < get_or l k 0
unfolding rising_from
rises-above s [] k h m = absurd (omega arith)
rises-above s (t ∷ ts) zero h m = ltb-true s t (both (ltb s t) h).0
rises-above s (t ∷ ts) (suc k) h m = let b = both (ltb s t) h in omega (arith, ltb-true s t b.0, rises-above t ts k b.1 (omega arith))

rises-rest : (s : ℕ) (l : List ℕ) (j k : ℕ) → rising_from s l ≡ true → j < k → k < length l → get_or l j 0 < get_or l k 0
unfolding rising_from
rises-rest s [] j k h a m = absurd (omega arith)
rises-rest s (t ∷ ts) j zero h a m = absurd (omega arith)
rises-rest s (t ∷ ts) zero (suc k) h a m = rises-above t ts k (both (ltb s t) h).1 (omega arith)
rises-rest s (t ∷ ts) (suc j) (suc k) h a m = rises-rest t ts j k (both (ltb s t) h).1 (omega arith) (omega arith)

-- a later element of a rising list is higher
pub rising-up : (l : List ℕ) (j k : ℕ) → rising l ≡ true → j < k → k < length l → get_or l j 0 < get_or l k 0
unfolding rising
rising-up [] j k h a m = absurd (omega arith)
rising-up (s ∷ ss) j zero h a m = absurd (omega arith)
rising-up (s ∷ ss) zero (suc k) h a m = rises-above s ss k h (omega arith)
rising-up (s ∷ ss) (suc j) (suc k) h a m = rises-rest s ss j k h (omega arith) (omega arith)

frame-from : (bins : List ℕ) (s : ℕ) (l : List ℕ) (f : ℕ) → frames_rise_from bins s l ≡ true → f < length l
    → rising (bins_between bins (get_or (s ∷ l) f 0) (get_or l f 0)) ≡ true
unfolding frames_rise_from
frame-from bins s [] f h k = absurd (omega arith)
frame-from bins s (t ∷ ts) zero h k = (both (rising (bins_between bins s t)) h).0
frame-from bins s (t ∷ ts) (suc f) h k = frame-from bins t ts f (both (rising (bins_between bins s t)) h).1 (omega arith)

-- the bins of each frame rise
pub frame-rising : (bins starts : List ℕ) (f : ℕ) → frames_rise bins starts ≡ true → f + 1 < length starts
    → rising (bins_between bins (get_or starts f 0) (get_or starts (f + 1) 0)) ≡ true
unfolding frames_rise
frame-rising bins [] f h k = absurd (omega arith)
frame-rising bins (s ∷ ss) f h k = rw add-one (frame-from bins s ss f h (omega arith))

-- so a bin is lower than a later one of its frame
pub frame-up : (bins starts : List ℕ) (f j k : ℕ) → frames_rise bins starts ≡ true → f + 1 < length starts → get_or starts (f + 1) 0 ≤ length bins
    → get_or starts f 0 ≤ j → j < k → k < get_or starts (f + 1) 0 → get_or bins j 0 < get_or bins k 0
frame-up bins starts f j k h l e a b d =
    let s = get_or starts f 0 in
    let t = get_or starts (f + 1) 0 in
    let fit : t - s ≤ length (drop s bins) = rw (length-drop s bins) (omega arith) in
    let j' : s + (j - s) ≡ j = omega arith in
    let k' : s + (k - s) ≡ k = omega arith in
    let at_j : get_or (bins_between bins s t) (j - s) 0 ≡ get_or bins j 0 = get_or-take (t - s) (drop s bins) (j - s) 0 (omega arith) ∙ get_or-drop s bins (j - s) 0 ∙ ap (λ (i : ℕ). get_or bins i 0) j' in
    let at-k : get_or (bins_between bins s t) (k - s) 0 ≡ get_or bins k 0 = get_or-take (t - s) (drop s bins) (k - s) 0 (omega arith) ∙ get_or-drop s bins (k - s) 0 ∙ ap (λ (i : ℕ). get_or bins i 0) k' in
    omega (arith, rising-up (bins_between bins s t) (j - s) (k - s) (frame-rising bins starts f h l) (omega arith) (rw (length-take-le (t - s) (drop s bins) fit) (omega arith)), at_j, at-k)

-- ---- sizes that code reads in other forms

-- a count above a limit, with one beside the counted
pub above-one : (limit n : ℕ) → ltb (limit + 1) n ≡ ltb limit (n - 1)
above-one limit n = go (ltb limit (n - 1)) refl
  where
    go : (t : Bool) → ltb limit (n - 1) ≡ t → ltb (limit + 1) n ≡ t
    go true t = lt-ltb (limit + 1) n (omega (arith, ltb-true limit (n - 1) t))
    go false t = le-ltb (limit + 1) n (omega (arith, ltb-false limit (n - 1) t))

-- ---- the four parts of soundness

pub sound-parts : (starts bins offsets : List ℕ) (points : ℕ) → sound_lists starts bins offsets points ≡ true
    → (climbs_to (length bins) starts ≡ true) × (climbs_to points offsets ≡ true) × (all_up_to last_row bins ≡ true) × (frames_rise bins starts ≡ true)
unfolding sound_lists
sound-parts starts bins offsets points h = all4 (climbs_to (length bins) starts) h

pub sound-if : (starts bins offsets : List ℕ) (points : ℕ) → (climbs_to (length bins) starts && climbs_to points offsets) ≡ true
    → sound_lists starts bins offsets points ≡ (all_up_to last_row bins && frames_rise bins starts)
unfolding sound_lists
sound-if starts bins offsets points h = rw h

pub unsound-if : (starts bins offsets : List ℕ) (points : ℕ) → (climbs_to (length bins) starts && climbs_to points offsets) ≡ false
    → sound_lists starts bins offsets points ≡ false
unfolding sound_lists
unsound-if starts bins offsets points h = rw h
