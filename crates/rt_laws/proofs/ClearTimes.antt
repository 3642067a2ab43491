-- The time at a place of an axis is a number from plus zero to 2^20 seconds where the times are. In units of the smallest value
-- (numeric/proofs/Bounds.antt).
use mathlib.Core.Path.{◌≡◌, refl, sym, ap, ◌∙◌, subst}
use mathlib.Core.Bool.{Bool, true, false, cond}
use mathlib.Core.List.{List}
use Prim.Native.Nat.{ℕ, ◌+◌, ◌-◌, ◌*◌, ◌/◌, ◌^◌, ◌≤◌, ◌<◌, min, zero-le}
use native.Mathlib.Nat.{le_trans, le_of_eq, le_of_lt, lt_of_le_of_lt, mul_comm, mul_assoc, mul-le-mul_right, mul-le-mul_left, add-mul, add-le-add, div-lt_iff_lt-mul, div-mul-le_self}
use native.Mathlib.Omega.{arith}
use borrow.Author.Tests.{ltb-true, ltb-false, eqb-false}
use lib.Dec.{T, ltb, eqb, lit<, lit≤}
use Rattle.std.proofs.Common.{pow_pos}
use lib.ListN.{length}
use lib.Ieee.{Float, nan, inf, fin, binary32, lt, le, eq, fits, is_nan, of_bits, of_int, round}
use lib.Ieee.Fits.{add-fits}
use Rattle.limits.specs.Limits.{max_seconds}
use Rattle.numeric.specs.Arith.{◌⊕◌, ◌⊖◌, ◌⊗◌, 𝟎, ½, 𝟏, index_f, at}
use Rattle.numeric.specs.Numeric.{clamp_f, cast_f, quad_f}
use Rattle.refusal.proofs.Bools.{clash}
use Rattle.numeric.proofs.Order.{not-le}
use Rattle.numeric.proofs.Patterns.{range_at, round_number}
use Rattle.numeric.proofs.Bounds.{one, mag, Num, Rep, AtMost, one-pos, rep, rep_at, rep-scale, lt-mag, round-order, add_is, sub-at-most, mul-at-most, limit_f, limit-num, in-num, in-at-most, at_most_in, mag-zero, mag-one, num-zero, num-one}
use Rattle.row_laws.proofs.Whole.{num-index, mag-index, cast-segment}
use Rattle.row_laws.proofs.Heights.{no_nan}
use Rattle.rt_time.specs.Time.{time_between, time_at}
use Rattle.rt_apex.specs.InTime.{subframe, apex_time}
use Rattle.rt_laws.specs.TimesInOrder.{Readings, Times, ClearTime, ClearPlaces, ClearTimes}
use Rattle.rt_laws.proofs.Parabola.{add-number, quad-number, clamp-finite}

-- ---- the least multiple of u from n on
module _ (u : ℕ) (some : 0 < u) where
  abbrev count : ℕ → ℕ
  count n = (n + (u - 1)) / u

  over : (n : ℕ) → n ≤ count n * u
  over n =
      let h : n + (u - 1) < (count n + 1) * u = (div-lt_iff_lt-mul some).0 (omega arith) in
      let e : (count n + 1) * u ≡ count n * u + 1 * u = add-mul (count n) 1 u in omega arith

  near : (n : ℕ) → count n * u ≤ n + (u - 1)
  near n = div-mul-le_self (n + (u - 1)) u

  few : (n k : ℕ) → n ≤ k * u → count n ≤ k
  few n k h =
      let e : (k + 1) * u ≡ k * u + 1 * u = add-mul k 1 u in
      let l : count n < k + 1 = (div-lt_iff_lt-mul some).1 (omega arith) in omega arith

-- ---- what is left of a share: 1 minus a number from 0 to 1, rounded, is 2^-24 above it at most
abbrev step : ℕ
step = 2 ^ 125

steps : 16777216 * step ≡ one
unfolding one
steps = refl

step-rep : (q : ℕ) → q ≤ 16777216 → Rep (q * step)
step-rep q h = go (ltb q 16777216) refl
  where
    go : (b : Bool) → ltb q 16777216 ≡ b → Rep (q * step)
    go true e = rep_at q 125 (ltb-true q 16777216 e) (lit≤ tt)
    go false e =
        let l = ltb-false q 16777216 e in
        let s : 16777216 ≡ q = omega arith in
        subst (λ (k : ℕ). Rep (k * step)) s (subst Rep (mag-one ∙ sym steps) (rep 𝟏 num-one))

record Left (f : Float) : Type 0 where
  num : Num (𝟏 ⊖ f)
  high : mag (𝟏 ⊖ f) ≤ one
  both : mag (𝟏 ⊖ f) + mag f ≤ one + step

left : (f : Float) → AtMost f one → Left f
left f F =
    let n = mag 𝟏 - mag f in
    let B = count step (pow_pos 125) n * step in
    let h = F.1 in
    let m = mag-one in
    let less : n ≤ 16777216 * step = omega (arith, steps) in
    let q = few step (pow_pos 125) n 16777216 less in
    let s = sub-at-most 𝟏 f B num-one F.0 (step-rep (count step (pow_pos 125) n) q) (omega arith) (over step (pow_pos 125) n) in
    let l : B ≤ one = le_trans (mul-le-mul_right step q) (le_of_eq steps) in
    let k = near step (pow_pos 125) n in
    let r = s.1 in
    record { num = s.0; high = le_trans s.1 l; both = omega arith }

-- ---- between two times
abbrev top : ℕ
top = mag (limit_f max_seconds)

mag-top : top ≡ one * 2 ^ 20
unfolding mag one of_bits
mag-top = refl

-- 2^-24 more is rounded off
rounded-off : round binary32 false ((one + step) * 2 ^ 20) one ≡ limit_f max_seconds
unfolding one round of_bits
rounded-off = refl

shifted-under : one * 2 ^ 20 < 2 ^ 277
unfolding one
shifted-under = lit< tt

-- a share of a time
part : (g a : Float) → AtMost g one → AtMost a top → AtMost (g ⊗ a) (mag g * 2 ^ 20)
part g a G A =
    mul-at-most g a (mag g * 2 ^ 20) G.0 A.0 (rep-scale (mag g) 20 (rep g G.0) (lt_of_le_of_lt (mul-le-mul_right (2 ^ 20) G.1) shifted-under))
    (le_trans (mul-le-mul_left (mag g) A.1) (le_of_eq (ap (λ (z : ℕ). mag g * z) (mag-top ∙ mul_comm one (2 ^ 20)) ∙ sym (mul_assoc (mag g) (2 ^ 20) one))))

between : (f a b : Float) → AtMost f one → AtMost a top → AtMost b top → AtMost ((𝟏 ⊖ f) ⊗ a ⊕ f ⊗ b) top
between f a b F A B =
    let l = left f F in
    let x = part (𝟏 ⊖ f) a (l.num, l.high) A in
    let y = part f b F B in
    let h : mag ((𝟏 ⊖ f) ⊗ a) + mag (f ⊗ b) ≤ (one + step) * 2 ^ 20 =
    le_trans (add-le-add x.1 y.1) (le_trans (le_of_eq (sym (add-mul (mag (𝟏 ⊖ f)) (mag f) (2 ^ 20)))) (mul-le-mul_right (2 ^ 20) l.both)) in
    let o = round-order (mag ((𝟏 ⊖ f) ⊗ a) + mag (f ⊗ b)) one ((one + step) * 2 ^ 20) one one-pos one-pos (mul-le-mul_right one h)
    (subst Num (sym rounded-off) (limit-num max_seconds (lit< tt))) in
    subst (λ (z : Float). AtMost z top) (sym (add_is ((𝟏 ⊖ f) ⊗ a) (f ⊗ b) x.0 y.0)) (o.0, le_trans o.1 (le_of_eq (ap mag rounded-off)))

-- ---- a place behind the first frame and before another one
le-infinite : (x : Float) → Num x → le x (inf false) ≡ true
unfolding le lt eq
le-infinite nan p = absurd p.clear
le-infinite (inf s) p = absurd p.clear
le-infinite (fin true m e) p = absurd p.clear
le-infinite (fin false m e) p = refl

within-num : (x y : Float) → Num y → T (fits binary32 x) → is_nan x ≡ false → le x 𝟎 ≡ false → le y x ≡ false → Num x
unfolding le lt eq is_nan of_bits
within-num nan y p f n low high = clash true refl n
within-num (inf true) y p f n low high = clash true refl low
within-num (inf false) y p f n low high = clash (le y (inf false)) (le-infinite y p) high
within-num (fin false m e) y p f n low high = record { held = f; clear = tt }
within-num (fin true m e) y p f n low high = clash (lt 𝟎 (fin true m e)) (not-le (fin true m e) 𝟎 refl refl low) refl

-- ---- the time at a place
clear : (x : Float) → AtMost x top → ClearTime x
clear x h = record { held = h.0.held; ranged = at_most_in max_seconds x (lit< tt) h }

module _ (t : List Float) (axis : Times t) where
  time-most : (k : ℕ) → k < length t → AtMost (at t k) top
  time-most k h = in-at-most max_seconds (at t k) (lit< tt) (axis.held k h) (range_at max_seconds t k axis.ranged h)

  abbrev last : ℕ
  last = length t - 1

  last-few : last ≤ 16777216
  last-few = let h = axis.few in omega arith

  -- between two frames
  module _ (x : Float) (some : 0 < length t) (num : Num x) (high : mag x < last * one) where
    cell : (mag (index_f (min (cast_f x) last)) ≤ mag x) × (mag x - mag (index_f (min (cast_f x) last)) ≤ one) × (min (cast_f x) last ≤ last)
    cell =
        let c = cast-segment x num last last-few (le_of_lt high) in
        let s = c.0 in
        let l = c.1 in
        let same : min (cast_f x) last ≡ cast_f x = omega arith in
        let low = s.low in
        let up = s.high in
        let n = last-few in
        let m = mag-index (min (cast_f x) last) (omega arith) ∙ ap (λ (k : ℕ). k * one) same in
        let e : (cast_f x + 1) * one ≡ cast_f x * one + 1 * one = add-mul (cast_f x) 1 one in
        (omega arith, omega arith, omega arith)

    share : AtMost (x ⊖ index_f (min (cast_f x) last)) one
    share =
        let c = cell in
        let n = last-few in
        sub-at-most x (index_f (min (cast_f x) last)) one num (num-index (min (cast_f x) last) (omega (arith, c.2))) (subst Rep mag-one (rep 𝟏 num-one)) c.0 c.1

    between-frames : AtMost (time_between t (min (cast_f x) last) (x ⊖ index_f (min (cast_f x) last))) top
    unfolding time_between
    between-frames =
        let j = min (cast_f x) last in
        let c = cell in
        between (x ⊖ index_f j) (at t j) (at t (min (j + 1) (length t - 1))) share (time-most j (omega (arith, c.2))) (time-most (min (j + 1) (length t - 1)) (omega arith))

  at_place : (x : Float) → T (fits binary32 x) → is_nan x ≡ false → AtMost (time_at t x) top
  unfolding time_at
  at_place x f n = go (eqb (length t) 0) refl (le x 𝟎) refl (le (index_f last) x) refl
    where
      go : (a : Bool) → eqb (length t) 0 ≡ a → (b : Bool) → le x 𝟎 ≡ b → (c : Bool) → le (index_f last) x ≡ c
          → AtMost (cond a 𝟎 (cond b (at t 0) (cond c (at t last) (time_between t (min (cast_f x) last) (x ⊖ index_f (min (cast_f x) last)))))) top
      go true p b q c r = (num-zero, le_trans (le_of_eq mag-zero) zero-le)
      go false p true q c r = let s = eqb-false (length t) 0 p in time-most 0 (omega arith)
      go false p false q true r = let s = eqb-false (length t) 0 p in time-most last (omega arith)
      go false p false q false r =
          let s = eqb-false (length t) 0 p in
          let e = num-index last last-few in
          let num = within-num x (index_f last) e f n q r in
          let l = ltb-true (mag x) (mag (index_f last)) (sym (lt-mag x (index_f last) num e) ∙ not-le (index_f last) x (no_nan (index_f last) e) n r) in
          let m = mag-index last last-few in
          between-frames x (omega arith) num (omega arith)

pub clear-places : ClearPlaces
clear-places t x axis f n = clear (time_at t x) (at_place t axis x f n)

-- ---- the place of an apex
pub place-number : (y : List Float) (i : ℕ) → Num (at y (i - 1)) → Num (at y i) → Num (at y (i + 1)) → is_nan (index_f i ⊕ subframe y i) ≡ false
unfolding subframe of_int
place-number y i a b c =
    let q = quad_f (at y (i - 1)) (at y i) (at y (i + 1)) in
    add-number (index_f i) (clamp_f q (of_bits binary32 0xbf00_0000) ½) (round_number binary32 false i 1)
    (clamp-finite q (quad-number (at y (i - 1)) (at y i) (at y (i + 1)) a b c))

-- of finite readings
pub time-clear : (y t : List Float) (i : ℕ) → ((k : ℕ) → k < length y → Num (at y k)) → Times t → i + 1 < length y → ClearTime (apex_time y t i)
unfolding apex_time
time-clear y t i nums axis h =
    clear-places t (index_f i ⊕ subframe y i) axis (add-fits binary32 (index_f i) (subframe y i))
    (place-number y i (nums (i - 1) (omega arith)) (nums i (omega arith)) (nums (i + 1) h))

pub reading-num : (y : List Float) → Readings y → (k : ℕ) → k < length y → Num (at y k)
reading-num y read k h = in-num read.limit (at y k) read.below (read.held k h) (range_at read.limit y k read.ranged h)

pub clear-times : ClearTimes
clear-times y t i read axis h = time-clear y t i (reading-num y read) axis h
