-- The baseline of an apex is the one that the turns of the row give: a walk from an apex jumps from turn to turn.
use mathlib.Core.Path.{◌≡◌, refl, sym, ap, ◌∙◌}
use mathlib.Core.Bool.{Bool, true, false, cond}
use mathlib.Core.List.{List, [], ◌∷◌, map}
use Prim.Native.Nat.{ℕ, zero, suc, ◌+◌, ◌-◌, ◌*◌, ◌≤◌, ◌<◌, min, max}
use native.Mathlib.Omega.{arith}
use native.Mathlib.Numerals.{add-one}
use borrow.Author.Tests.{ltb-true, ltb-false, lt-ltb, le-ltb}
use lib.Dec.{ltb}
use lib.ListN.{length, drop_of_length-le, length-drop}
use lib.Seq.{get_or-drop}
use lib.Ieee.{Float, nan, binary32, lt, of_bits}
use lib.Ieee.Bits.{of_bits-to_bits}
use Rattle.numeric.specs.Arith.{at}
use Rattle.numeric.specs.Numeric.{max_f}
use Rattle.numeric.specs.Plain.{word, word_in, Plain, AllPlain}
use Rattle.numeric.proofs.Patterns.{lt-bits, no_nan}
use Rattle.row_apex.specs.Apex.{left_of, right_of, up_to_higher, least, baseline}
use Rattle.row_apex.proofs.Laws.{right-cons, walk-on, walk-stop}
use Rattle.row_turns.specs.Turns.{turn, Turning}
use Rattle.row_turns.proofs.Apexes.{valley-in, next-valley, apex-in}
use Rattle.row_baselines.specs.Lows.{left_low, right_low, base_at, mark_at}

-- ---- a walk over patterns, the nearest first: the lower of `low` and those as far as the first one above the height h
unfoldable walk : ℕ → ℕ → List ℕ → ℕ
walk h low [] = low
walk h low (v ∷ vs) = cond (ltb h v) low (walk h (min v low) vs)

walk-over : (h low v : ℕ) (vs : List ℕ) → v ≤ h → walk h low (v ∷ vs) ≡ walk h (min v low) vs
unfolding walk
walk-over h low v vs k = rw (le-ltb h v k)

walk_ends : (h low v : ℕ) (vs : List ℕ) → h < v → walk h low (v ∷ vs) ≡ low
unfolding walk
walk_ends h low v vs k = rw (lt-ltb h v k)

-- A list of patterns that starts with a way from u on: each one stands in the relation R to the one before. The last of the way is v,
-- and `rest` comes behind it.
data Way (R : ℕ → ℕ → Type 0) : ℕ → List ℕ → ℕ → List ℕ → Type 0 where
  here : {v : ℕ} {rest : List ℕ} → Way R v rest v rest
  on : {u w v : ℕ} {xs rest : List ℕ} → R u w → Way R w xs v rest → Way R u (w ∷ xs) v rest

-- it never rises; it never falls
abbrev Down : ℕ → List ℕ → ℕ → List ℕ → Type 0
Down = Way (λ (u w : ℕ). w ≤ u)

abbrev Up : ℕ → List ℕ → ℕ → List ℕ → Type 0
Up = Way (λ (u w : ℕ). u ≤ w)

down_le : {u v : ℕ} {xs rest : List ℕ} → Down u xs v rest → v ≤ u
down_le here = omega arith
down_le (on l d) = omega (arith, down_le d)

up_le : {u v : ℕ} {xs rest : List ℕ} → Up u xs v rest → u ≤ v
up_le here = omega arith
up_le (on l d) = omega (arith, up_le d)

-- a walk down counts the last
walk-down : {u v : ℕ} {xs rest : List ℕ} (h low : ℕ) → Down u xs v rest → u ≤ h → walk h (min u low) xs ≡ walk h (min v low) rest
walk-down h low here k = refl
walk-down h low (on {u} {w} {v} {xs} {rest} l d) k =
    let e : min w (min u low) ≡ min w low = omega arith in
    walk-over h (min u low) w xs (omega arith) ∙ ap (λ (m : ℕ). walk h m xs) e ∙ walk-down h low d (omega arith)

-- a walk up counts nothing; it ends on the way if the last is above the height
walk_up : {u v : ℕ} {xs rest : List ℕ} (h low : ℕ) → Up u xs v rest → low ≤ u → v ≤ h → walk h low xs ≡ walk h low rest
walk_up h low here l k = refl
walk_up h low (on {u} {w} {v} {xs} {rest} r d) l k =
    let e : min w low ≡ low = omega arith in
    walk-over h low w xs (omega (arith, up_le d)) ∙ ap (λ (m : ℕ). walk h m xs) e ∙ walk_up h low d (omega arith) k

walk-to-higher : {u v : ℕ} {xs rest : List ℕ} (h low : ℕ) → Up u xs v rest → low ≤ u → u ≤ h → h < v → walk h low xs ≡ low
walk-to-higher h low here l k a = absurd (omega arith)
walk-to-higher h low (on {u} {w} {v} {xs} {rest} r d) l k a = go (ltb h w) refl (λ (b : w ≤ h). walk-to-higher h low d (omega arith) b a)
  where
    go : (b : Bool) → ltb h w ≡ b → (w ≤ h → walk h low xs ≡ low) → walk h low (w ∷ xs) ≡ low
    go true e f = walk_ends h low w xs (ltb-true h w e)
    go false e f =
        let n = ltb-false h w e in
        let m : min w low ≡ low = omega arith in
        walk-over h low w xs n ∙ ap (λ (m : ℕ). walk h m xs) m ∙ f n

-- The jump from a valley u over the apex a to the next valley v, and the way to the row's end.
jump : {u a v : ℕ} {xs mid rest : List ℕ} (h low r : ℕ) → Up u xs a mid → Down a mid v rest → low ≤ u → u ≤ h
    → (v ≤ h → walk h (min v low) rest ≡ r) → walk h low xs ≡ cond (ltb h a) low r
jump {u} {a} {v} {xs} {mid} {rest} h low r up down l k f = go (ltb h a) refl
  where
    go : (b : Bool) → ltb h a ≡ b → walk h low xs ≡ cond b low r
    go true e = walk-to-higher h low up l k (ltb-true h a e)
    go false e =
        let n = ltb-false h a e in
        let q : low ≡ min a low = omega (arith, up_le up) in
        walk_up h low up l n ∙ ap (λ (m : ℕ). walk h m mid) q ∙ walk-down h low down n ∙ f (omega (arith, down_le down))

jump_end : {u a : ℕ} {xs : List ℕ} (h low : ℕ) → Up u xs a [] → low ≤ u → u ≤ h → walk h low xs ≡ low
unfolding walk
jump_end {u} {a} {xs} h low up l k = go (ltb h a) refl
  where
    go : (b : Bool) → ltb h a ≡ b → walk h low xs ≡ low
    go true e = walk-to-higher h low up l k (ltb-true h a e)
    go false e = walk_up h low up l (ltb-false h a e)

-- ---- the patterns on both sides of an index
abbrev left_w : List Float → ℕ → List ℕ
left_w y i = map word (left_of y i)

abbrev right_w : List Float → ℕ → List ℕ
right_w y i = map word (right_of y i)

-- b is the far end to the right, d samples from a
left-from : (R : ℕ → ℕ → Type 0) (y : List Float) (a d b : ℕ) → b ≡ d + a → ((i : ℕ) → a ≤ i → i < b → R (word_in y (i + 1)) (word_in y i))
    → Way R (word_in y b) (left_w y b) (word_in y a) (left_w y a)
unfolding left_of
left-from R y a zero b e f = let q : b ≡ a = omega arith in rw q here
left-from R y a (suc d) b e f =
    let q : b ≡ suc (d + a) = omega arith in
    let r : R (word_in y (suc (d + a))) (word_in y (d + a)) = rw (add-one (d + a)) at (f (d + a) (omega arith) (omega arith)) in
    rw q (on r (left-from R y a d (d + a) refl (λ i k l. f i k (omega arith))))

right-from : (R : ℕ → ℕ → Type 0) (y : List Float) (d a b : ℕ) → b ≡ d + a → b < length y → ((i : ℕ) → a ≤ i → i < b → R (word_in y i) (word_in y (i + 1)))
    → Way R (word_in y a) (right_w y a) (word_in y b) (right_w y b)
right-from R y zero a b e h f = let q : b ≡ a = omega arith in rw q here
right-from R y (suc d) a b e h f =
    rw (right-cons y (a + 1) (omega arith)) (on (f a (omega arith) (omega arith)) (right-from R y d (a + 1) b (omega arith) h (λ i k l. f i (omega arith) l)))

left-way : (R : ℕ → ℕ → Type 0) (y : List Float) (a b : ℕ) → a ≤ b → ((i : ℕ) → a ≤ i → i < b → R (word_in y (i + 1)) (word_in y i))
    → Way R (word_in y b) (left_w y b) (word_in y a) (left_w y a)
left-way R y a b h f = left-from R y a (b - a) b (omega arith) f

right-way : (R : ℕ → ℕ → Type 0) (y : List Float) (a b : ℕ) → a ≤ b → b < length y → ((i : ℕ) → a ≤ i → i < b → R (word_in y i) (word_in y (i + 1)))
    → Way R (word_in y a) (right_w y a) (word_in y b) (right_w y b)
right-way R y a b h k f = right-from R y (b - a) a b (omega arith) k f

-- ---- a plain value and its pattern
pub record Patterned (x : Float) (n : ℕ) : Type 0 where
  pub plain : Plain x
  pub is : word x ≡ n

pub of-pattern : {x : Float} {n : ℕ} → Patterned x n → of_bits binary32 n ≡ x
of-pattern {x} {n} p = rw (← p.is) (of_bits-to_bits binary32 x p.plain.held)

lower-is : (v m : Float) → Plain v → Plain m → Patterned (cond (lt v m) v m) (min (word v) (word m))
lower-is v m p q = go (lt v m) (sym (lt-bits v m p q))
  where
    go : (b : Bool) → ltb (word v) (word m) ≡ b → Patterned (cond b v m) (min (word v) (word m))
    go true e = let l = ltb-true (word v) (word m) e in record { plain = p; is = omega arith }
    go false e = let l = ltb-false (word v) (word m) e in record { plain = q; is = omega arith }

higher-is : {a b : Float} {k n : ℕ} → Patterned a k → Patterned b n → Patterned (max_f a b) (max k n)
unfolding max_f
higher-is {a} {b} {k} {n} p q = rw (no_nan a p.plain.ranged) (go (lt a b) (sym (lt-bits a b p.plain q.plain)))
  where
    go : (t : Bool) → ltb (word a) (word b) ≡ t → Patterned (cond t b a) (max k n)
    go true e = let l = ltb-true (word a) (word b) e in record { plain = q.plain; is = omega (arith, p.is, q.is) }
    go false e = let l = ltb-false (word a) (word b) e in record { plain = p.plain; is = omega (arith, p.is, q.is) }

-- the least reading as far as a higher one is the one that the walk over patterns finds
walk_is : (a m : Float) (xs : List Float) → Plain a → Plain m → word m ≤ word a → AllPlain xs
    → Patterned (least m (up_to_higher a xs)) (walk (word a) (word m) (map word xs))
unfolding least up_to_higher walk
walk_is a m [] p q l f = record { plain = q; is = refl }
walk_is a m (v ∷ vs) p q l f =
    let n = cond (lt v m) v m in
    let g = lower-is v m (f 0 (omega arith)) q in
    let r = walk_is a n vs p g.plain (omega (arith, g.is)) (λ i k. f (suc i) (omega arith)) in
    go (lt a v) refl (sym (lt-bits a v p (f 0 (omega arith)))) g r
  where
    go : (b : Bool) → lt a v ≡ b → ltb (word a) (word v) ≡ lt a v → Patterned (cond (lt v m) v m) (min (word v) (word m))
        → Patterned (least (cond (lt v m) v m) (up_to_higher a vs)) (walk (word a) (word (cond (lt v m) v m)) (map word vs))
        → Patterned (least m (up_to_higher a (v ∷ vs))) (walk (word a) (word m) (map word (v ∷ vs)))
    go true d e g r =
        let h = ltb-true (word a) (word v) (e ∙ d) in
        let s : least m (up_to_higher a (v ∷ vs)) ≡ cond (lt v m) v m = walk-stop a m (cond (lt v m) v m) v (v ∷ vs) vs refl refl d in
        rw (s, walk_ends (word a) (word m) (word v) (map word vs) h) (record { plain = g.plain; is = omega (arith, g.is) })
    go false d e g r =
        let h = ltb-false (word a) (word v) (e ∙ d) in
        let s = walk-on a m (cond (lt v m) v m) v (v ∷ vs) vs refl refl d in
        rw (s, walk-over (word a) (word m) (word v) (map word vs) h, ← g.is) r

left-plain : (y : List Float) (i : ℕ) → AllPlain y → i ≤ length y → AllPlain (left_of y i)
unfolding left_of
left-plain y zero p h j k = absurd (omega arith)
left-plain y (suc i) p h zero k = p i (omega arith)
left-plain y (suc i) p h (suc j) k = left-plain y i p (omega arith) j (omega arith)

right-plain : (y : List Float) (i : ℕ) → AllPlain y → AllPlain (right_of y i)
right-plain y i p j k = rw (get_or-drop (i + 1) y j nan) (p (i + 1 + j) (omega (arith, length-drop (i + 1) y)))

-- ---- the lows of an apex
module _ {y : List Float} {turns : List ℕ} {m : ℕ} (p : AllPlain y) (t : Turning y turns m) where
  -- from the valley at 2 * k to the left, and from the one at 2 * j to the right
  left-low : (k h low : ℕ) → k ≤ m → low ≤ mark_at y turns (2 * k) → mark_at y turns (2 * k) ≤ h → walk h low (left_w y (turn turns (2 * k))) ≡ left_low (mark_at y turns) h low k
  unfolding left_low left_of
  left-low zero h low b l k = jump_end h low (left-way (λ (u w : ℕ). u ≤ w) y 0 (turn turns 0) (omega arith) t.first) l k
  left-low (suc k) h low b l r =
      let q : 2 * suc k ≡ 2 * k + 2 = omega arith in
      let n : k < m = omega arith in
      rw q
      (jump h low (left_low (mark_at y turns) h (min (mark_at y turns (2 * k)) low) k)
      (left-way (λ (u w : ℕ). u ≤ w) y (turn turns (2 * k + 1)) (turn turns (2 * k + 2)) (omega (arith, t.drops k n)) (t.down k n))
      (left-way (λ (u w : ℕ). w ≤ u) y (turn turns (2 * k)) (turn turns (2 * k + 1)) (omega (arith, t.climbs k n)) (λ i a z. omega (arith, t.up k n i a z)))
      (rw q at l)
      (rw q at r)
      (λ g. left-low k h (min (mark_at y turns (2 * k)) low) (omega arith) (omega arith) g))

  right-low : (d j h low : ℕ) → j + d ≡ m → low ≤ mark_at y turns (2 * j) → mark_at y turns (2 * j) ≤ h → walk h low (right_w y (turn turns (2 * j))) ≡ right_low (mark_at y turns) h low d j
  unfolding right_low
  right-low zero j h low b l r =
      let e : j ≡ m = omega arith in
      let z : right_w y (length y - 1) ≡ [] = ap (map word) (drop_of_length-le y {i = length y - 1 + 1} (omega arith)) in
      let w = right-way (λ (u w : ℕ). u ≤ w) y (turn turns (2 * m)) (length y - 1) (omega (arith, t.inside)) (omega (arith, t.inside)) (λ i a z. omega (arith, t.last i a z)) in
      jump_end h low (rw (z, ← e) at w) l r
  right-low (suc d) j h low b l r =
      let q : 2 * (j + 1) ≡ 2 * j + 2 = omega arith in
      let n : j < m = omega arith in
      let v : turn turns (2 * j + 2) < length y = omega (arith, next-valley turns j, valley-in t (j + 1) (omega arith)) in
      jump h low (right_low (mark_at y turns) h (min (mark_at y turns (2 * j + 2)) low) d (j + 1))
      (right-way (λ (u w : ℕ). u ≤ w) y (turn turns (2 * j)) (turn turns (2 * j + 1)) (omega (arith, t.climbs j n)) (omega (arith, t.drops j n)) (λ i a z. omega (arith, t.up j n i a z)))
      (right-way (λ (u w : ℕ). w ≤ u) y (turn turns (2 * j + 1)) (turn turns (2 * j + 2)) (omega (arith, t.drops j n)) v (t.down j n))
      l
      r
      (λ g. rw q at (right-low d (j + 1) h (min (mark_at y turns (2 * j + 2)) low) (omega arith) (rw q (omega arith)) (rw q g)))

  -- the first step from the apex counts the valley beside it
  first-low : (c v r : ℕ) (side rest : List ℕ) → Down c side v rest → walk c v rest ≡ r → walk c c side ≡ r
  first-low c v r side rest d e =
      let a : c ≡ min c c = omega arith in
      let b : min v c ≡ v = omega (arith, down_le d) in
      ap (λ (x : ℕ). walk c x side) a ∙ walk-down c c d (omega arith) ∙ ap (λ (x : ℕ). walk c x rest) b ∙ e

  pub base-is : (k : ℕ) → k < m → Patterned (baseline y (turn turns (2 * k + 1))) (base_at (mark_at y turns) m k)
  unfolding baseline base_at
  base-is k n =
      let v = turn turns (2 * k) in
      let c = turn turns (2 * k + 1) in
      let w = turn turns (2 * k + 2) in
      let h = word_in y c in
      let q : 2 * (k + 1) ≡ 2 * k + 2 = omega arith in
      let in_row = apex-in t k n in
      let w-in : w < length y = omega (arith, next-valley turns k, valley-in t (k + 1) (omega arith)) in
      let x = p c (omega arith) in
      let to-left = left-way (λ (u w : ℕ). w ≤ u) y v c (omega (arith, t.climbs k n)) (λ i a z. omega (arith, t.up k n i a z)) in
      let to-right = right-way (λ (u w : ℕ). w ≤ u) y c w (omega (arith, t.drops k n)) w-in (t.down k n) in
      let left = first-low h (word_in y v) _ _ _ to-left (left-low k h (word_in y v) (omega arith) (omega arith) (down_le to-left)) in
      let right = first-low h (word_in y w) _ _ _ to-right (rw q at (right-low (m - (k + 1)) (k + 1) h (word_in y w) (omega arith) (rw q (omega arith)) (rw q (down_le to-right)))) in
      higher-is
      (rw (← left) (walk_is (at y c) (at y c) (left_of y c) x x (omega arith) (left-plain y c p (omega arith))))
      (rw (← right) (walk_is (at y c) (at y c) (right_of y c) x x (omega arith) (right-plain y c p)))

  pub base-float : (k : ℕ) → k < m → of_bits binary32 (base_at (mark_at y turns) m k) ≡ baseline y (turn turns (2 * k + 1))
  base-float k n = of-pattern (base-is k n)
