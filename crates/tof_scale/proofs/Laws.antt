-- Laws of the scale's steps.
use mathlib.Core.Path.{◌≡◌, refl, sym, ap, ◌∙◌, subst}
use mathlib.Core.Bool.{true, false}
use mathlib.Core.List.{List, [], ◌∷◌}
use Prim.Native.Nat.{ℕ, zero, suc, ◌+◌, ◌*◌, ◌/◌, ◌≤◌, ◌<◌, min, max}
use native.Mathlib.Nat.{div-lt_iff_lt-mul, mul-one, mul_right_comm, lt_of_mul-lt-mul_right}
use native.Mathlib.Numerals.{add-one}
use native.Mathlib.Omega.{arith}
use borrow.Author.Tests.{ltb-false, eq-eqb, eqb-false}
use lib.Dec.{ltb, eqb}
use Rattle.std.specs.List.{fold}
use lib.Ieee.{Float, nan, inf, fin, binary32, up, down, round, lt, eq, le, is_nan, of_bits, of_int, to_unsigned}
use lib.Ieee.Exact.{HasValue}
use lib.Ieee.Back.{round_whole}
use lib.Ieee.Fits.{down_pos}
use Rattle.limits.specs.Limits.{max_tof_bound, exact_index}
use Rattle.numeric.specs.Arith.{𝟎, index_f}
use Rattle.numeric.specs.Numeric.{cast_f}
use Rattle.refusal.proofs.Bools.{clash, neither}
use Rattle.tof_scale.specs.declared.TofScale.{TofScale}
use Rattle.tof_scale.specs.declared.inner.Span.{Span}
use Rattle.tof_scale.specs.Tof.{Sound, edge, lowest_tof, highest_tof, ends_of}
use Rattle.tof_scale.proofs.TofLaws.{edges-held, plain}
use Rattle.std.proofs.Math.Bool.{and-true}

-- ---- edges
pub edge-fits : (s : TofScale) → Sound s → (i : ℕ) → i ≤ s.num_bins → edge s i ≤ max_tof_bound
edge-fits s h zero b = let p = plain s h in omega arith
edge-fits s h (suc i) b = subst (λ (n : ℕ). edge s n ≤ max_tof_bound) (add-one i) (edges-held s h i (omega arith))

-- ---- a place between bins

-- a place above 0 and below n is cut to a number below n
below-whole : (y x : Float) (n : ℕ) → HasValue y false n 1 → n ≤ exact_index → is_nan x ≡ false → le x 𝟎 ≡ false → le y x ≡ false → cast_f x < n
unfolding le lt eq is_nan of_bits to_unsigned
below-whole nan x n v u a b h = absurd v
below-whole (inf t) x n v u a b h = absurd v
below-whole (fin true k d) x n v u a b h = clash true refl v.0
below-whole (fin false k d) nan n v u a b h = clash true refl a
below-whole (fin false k d) (inf true) n v u a b h = clash true refl b
below-whole (fin false k d) (inf false) n v u a b h = clash true refl h
below-whole (fin false k d) (fin true m e) n v u a b h =
    let z = neither (ltb 0 (m * up e * 1 + 0 * 1 * down e)) b in
    let w : m * up e * 1 + 0 * 1 * down e ≤ 0 = ltb-false 0 (m * up e * 1 + 0 * 1 * down e) z.0 in
    let p : eqb (m * up e * 1) (0 * 1 * down e) ≡ true = eq-eqb (m * up e * 1) (0 * 1 * down e) (omega arith) in
    let q : eqb (m * up e * 1) 0 ≡ true = eq-eqb (m * up e * 1) 0 (omega arith) in
    clash true refl (sym (rw (p, q)) ∙ z.1)
below-whole (fin false k d) (fin false m e) n v u a b h =
    let z = neither (ltb (k * up d * down e) (m * up e * down d)) h in
    let w : m * up e * down d ≤ k * up d * down e = ltb-false (k * up d * down e) (m * up e * down d) z.0 in
    let o : k * up d * down e ≡ m * up e * down d → ⊥ = eqb-false (k * up d * down e) (m * up e * down d) (sym (and-true _) ∙ z.1) in
    let r : k * up d * down e ≡ n * down e * down d = ap (λ (a : ℕ). a * down e) (sym (mul-one (k * up d)) ∙ v.1) ∙ mul_right_comm n (down d) (down e) in
    let l : m * up e * down d < n * down e * down d = below (m * up e * down d) (k * up d * down e) (n * down e * down d) w o r in
    let c : m * up e / down e < n = (div-lt_iff_lt-mul (down_pos e)).1 (lt_of_mul-lt-mul_right (down d) l) in
    omega arith
  where
    below : (a b c : ℕ) → a ≤ b → (b ≡ a → ⊥) → b ≡ c → a < c
    below a b c w o r = omega arith

pub below_last : (n : ℕ) (x : Float) → n ≤ exact_index → is_nan x ≡ false → le x 𝟎 ≡ false → le (index_f n) x ≡ false → cast_f x < n
unfolding of_int
below_last n x u a b h = below-whole (round binary32 false n 1) x n (round_whole binary32 false n u) u a b h

-- ---- the lowest and the highest value
pub low-le : (ts : List ℕ) → lowest_tof ts ≤ 4294967295
unfolding lowest_tof
low-le [] = omega arith
low-le (t ∷ ts) = let r = low-le ts in omega arith

-- the ends of what was seen, after one more value
abbrev pub seen : Span → ℕ → Span
seen e t = record { lo = min e.lo t; hi = max e.hi t }

abbrev pub none_seen : Span
none_seen = record { lo = 4294967295; hi = 0 }

seen-from : (ts : List ℕ) (e : Span) → e.lo ≤ 4294967295 → fold seen e ts ≡ record { lo = min e.lo (lowest_tof ts); hi = max e.hi (highest_tof ts) }
unfolding lowest_tof highest_tof
seen-from [] e h = let a : min e.lo 4294967295 ≡ e.lo = omega arith in let b : max e.hi 0 ≡ e.hi = omega arith in rw (a, b)
seen-from (t ∷ ts) e h = seen-from ts (seen e t) (omega arith) ∙ (
    let a : min (min e.lo t) (lowest_tof ts) ≡ min e.lo (min t (lowest_tof ts)) = omega arith in
    let b : max (max e.hi t) (highest_tof ts) ≡ max e.hi (max t (highest_tof ts)) = omega arith in
    rw (a, b) refl)

pub seen_all : (ts : List ℕ) → fold seen none_seen ts ≡ ends_of ts
seen_all ts = let l = low-le ts in
    let a : min 4294967295 (lowest_tof ts) ≡ lowest_tof ts = omega arith in
    let b : max 0 (highest_tof ts) ≡ highest_tof ts = omega arith in
    seen-from ts none_seen (omega arith) ∙ rw (a, b) refl
