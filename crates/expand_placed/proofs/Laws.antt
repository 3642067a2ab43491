-- A place held to a trace is that of one of its frames.
use mathlib.Core.Path.{◌≡◌, refl, sym, ap, ◌∙◌}
use mathlib.Core.Bool.{Bool, true, false, cond}
use Prim.Native.Nat.{ℕ, ◌≤◌, ◌<◌, ◌+◌, ◌-◌, ◌*◌, ◌/◌, zero-le}
use native.Mathlib.Nat.{le_trans, le_of_eq, mul-one, mul_right_comm, le_of_mul-le-mul_right, div-lt_iff_lt-mul, add-mul, one-mul}
use native.Mathlib.Omega.{arith}
use borrow.Author.Tests.{ltb-false}
use lib.Ieee.{Float, nan, inf, fin, binary32, lt, up, down, of_int, of_bits, round, to_unsigned}
use lib.Ieee.Exact.{HasValue}
use lib.Ieee.Back.{round_whole}
use lib.Ieee.Fits.{down_pos}
use Rattle.refusal.proofs.Bools.{clash}
use Rattle.limits.specs.Limits.{exact_index}
use Rattle.numeric.specs.Arith.{𝟎, index_f}
use Rattle.numeric.specs.Numeric.{cast_f, clamp_f}
use Rattle.rounding.specs.Rounding.{floor_f, ceil_f}
use Rattle.rounding.proofs.Guess.{cast-index}
use Rattle.row_spans.specs.Span.{sample_at}
use Rattle.rt_record.specs.RtRecord.{rt_peak_of}
use Rattle.expand_placed.specs.Placed.{in_run, bounds_in, placed}
use Rattle.expand_placed.specs.PlacedLaws.{PlacedInside}

-- what is not above a whole number is cut to that number at most
not-above : (y x : Float) (n : ℕ) → HasValue y false n 1 → lt y x ≡ false → cast_f x ≤ n
unfolding lt to_unsigned
not-above nan x n v h = absurd v
not-above (inf t) x n v h = absurd v
not-above (fin true k d) x n v h = clash true refl v.0
not-above (fin false k d) nan n v h = zero-le
not-above (fin false k d) (inf true) n v h = zero-le
not-above (fin false k d) (inf false) n v h = clash true refl h
not-above (fin false k d) (fin true m e) n v h = zero-le
not-above (fin false k d) (fin false m e) n v h =
    let w : m * up e * down d ≤ k * up d * down e = ltb-false (k * up d * down e) (m * up e * down d) h in
    let r : k * up d * down e ≡ n * down e * down d = ap (λ (a : ℕ). a * down e) (sym (mul-one (k * up d)) ∙ v.1) ∙ mul_right_comm n (down d) (down e) in
    let l : m * up e ≤ n * down e = le_of_mul-le-mul_right (le_trans w (le_of_eq r)) (down_pos d) in
    let c : m * up e / down e < n + 1 = (div-lt_iff_lt-mul (down_pos e)).1 (more (m * up e) n (down e) l (down_pos e)) in
    omega arith
  where
    more : (a b c : ℕ) → a ≤ b * c → 0 < c → a < (b + 1) * c
    more a b c h p = omega (arith, h, add-mul b 1 c, one-mul c)

zero-cast : cast_f 𝟎 ≡ 0
unfolding of_bits to_unsigned
zero-cast = refl

index-most : (n : ℕ) (x : Float) → n ≤ exact_index → lt (index_f n) x ≡ false → cast_f x ≤ n
unfolding of_int
index-most n x h l = not-above (round binary32 false n 1) x n (round_whole binary32 false n h) l

pub sample-most : (n : ℕ) (x : Float) → 0 < n → n ≤ exact_index → sample_at n x < n
unfolding clamp_f
sample-most n x p h = go (lt x 𝟎) (lt (index_f (n - 1)) x) refl
  where
    go : (b c : Bool) → lt (index_f (n - 1)) x ≡ c → cast_f (cond b 𝟎 (cond c (index_f (n - 1)) x)) < n
    go true c t = rw zero-cast p
    go false true t = rw (cast-index (n - 1) (omega arith)) (omega arith)
    go false false t = omega (arith, index-most (n - 1) x (omega arith) t)

pub placed-inside : PlacedInside
unfolding placed rt_peak_of in_run bounds_in
placed-inside lo n ids p a id k l h =
    let first = sample-most n (floor_f a.left_x) k l in
    let last = sample-most n (ceil_f a.right_x) k l in
    record {
      apex = record { low = omega arith; high = omega arith };
      first = record { low = omega arith; high = omega arith };
      last = record { low = omega arith; high = omega arith };
    }
