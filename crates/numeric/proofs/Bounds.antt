-- Bounds on results. A finite binary32 value is a whole number of units of 2 ^ -149, the smallest one: its `mag`. A sum, difference,
-- product or quotient of values with a clear sign rounds a fraction, and stays at or below each limit that the fraction
-- does not pass and that needs no rounding itself.
use Rattle.std.proofs.Common.{◌≡◌, ℕ, zero, suc, ◌+◌, ◌-◌, ◌*◌, ◌/◌, ◌%◌, ◌^◌, ◌<◌, ◌≤◌, Bool, true, false, cond, not, ◌&&◌, ◌||◌, T, eqb, ltb, leb, List, [], ◌∷◌, length, ℤ, pos, negsuc, sym, refl, ap, ◌∙◌, subst, ap₂, le_trans, le_of_eq, lt_of_lt_of_le, le-add_right, le_of_lt, add-le-add, mul-le-mul_right, zero-lt-suc, mul_assoc, mul_comm, add-mul, lt_of_mul-lt-mul_right, mul-lt-mul_of_pos_right, mul-pos, zero-mul, mul-one, mul_right_comm, le_of_mul-le-mul_right, mul-div_cancel, mul_left_comm, le-add_left, arith, lit<, lit≤, ltb→lt, leb→le, pow_pos, pow_mono, pow-add, shl_lt, ltb-false, ltb-true, le-ltb, le-leb, leb-true}
use native.Mathlib.Nat.{mul-mul-mul_comm, mul-sub, eq_of_mul-eq-mul_right}
use lib.Pow.{pow-lt}
use lib.Ieee.{Float, nan, inf, fin, binary32, low, emax, up, down, size, lt, le, eq, to_bits, of_bits, of_int, fits, odd, units, round, sum, add, sub, mul, div}
use lib.Ieee.Fits.{and_l, and_r, down_pos, round-fits, round_is}
use lib.Ieee.Exact.{HasValue, round_exact}
use lib.Ieee.Order.{round_mono}
use lib.Ieee.Scale.{finite, round_same, round_val, round_under, grid, grid_scale, normal_of_fraction}
use lib.Ieee.Bits.{nan_bits_is, to_bits-of_bits, of_bits-fits}
use lib.Ieee.Positive.{num, den, den_pos, value→cross}
use Rattle.numeric.specs.Arith.{◌⊕◌, ◌⊖◌, ◌⊗◌, ◌⊘◌, 𝟎, 𝟏, at}
use Rattle.numeric.specs.Numeric.{in_range, all_in_range}
use Rattle.numeric.specs.Plain.{Plain}
use Rattle.refusal.proofs.Bools.{clash}
use Rattle.numeric.proofs.Laws.{no_nan}
use Rattle.numeric.proofs.Order.{mul-ltb, mul-eqb, over, lt-or-eq}
use Rattle.numeric.proofs.Patterns.{pattern, pattern-mono, plus-bits, le-bits, below_inf, no_minus, wider}

-- the value 1 in units
unfoldable pub one : ℕ
one = 2 ^ 149

-- a float in units, for the finite ones
unfoldable pub mag : Float → ℕ
mag x = num x * one / den x

-- finite, with a clear sign
abbrev pub plus : Float → Bool
plus nan = false
plus (inf s) = false
plus (fin s m e) = not s

pub record Num (x : Float) : Type 0 where
  pub held : T (fits binary32 x)
  pub clear : T (plus x)

-- a number of units that is a binary32 value
pub record Rep (n : ℕ) : Type 0 where
  pub q : ℕ
  pub j : ℕ
  pub is : n ≡ q * 2 ^ j
  pub few : q < 2 ^ 24
  pub under : n < 2 ^ 277

pub one-pos : 0 < one
unfolding one
one-pos = pow_pos 149

-- ---- what fits is a whole number of units
pub record Shape (x : Float) : Type 0 where
  pub n : ℕ
  pub value : HasValue x false n one
  pub rep : Rep n

parts : (m : ℕ) (e : ℤ) → T (fits binary32 (fin false (suc m) e)) → (suc m < 2 ^ 24) × (down e ≤ 2 ^ 149) × (suc m * up e < 2 ^ 128 * down e)
unfolding fits
parts m e t =
    let a : Bool = eqb (suc m % 2) 1 in
    let b : Bool = ltb (suc m) (2 ^ 24) in
    let c : Bool = leb (down e) (2 ^ 149) in
    let d : Bool = ltb (suc m * up e) (2 ^ 128 * down e) in (
      ltb→lt (suc m) (2 ^ 24) (and_r a b (and_l (a && b) c (and_l (a && b && c) d t))),
      leb→le (down e) (2 ^ 149) (and_r (a && b) c (and_l (a && b && c) d t)),
      ltb→lt (suc m * up e) (2 ^ 128 * down e) (and_r (a && b && c) d t),
    )

full : 2 ^ 128 * one ≡ 2 ^ 277
unfolding one
full = refl

below_top : (a d n : ℕ) → 0 < d → a * one ≡ n * d → a < 2 ^ 128 * d → n < 2 ^ 277
below_top a d n D e h =
    lt_of_mul-lt-mul_right d
    (subst (λ (z : ℕ). z < 2 ^ 277 * d) e
    (subst (λ (z : ℕ). a * one < z * d) full
    (lt_of_lt_of_le (mul-lt-mul_of_pos_right h one-pos) (le_of_eq (mul_right_comm (2 ^ 128) d one)))))

whole-shape : (m k : ℕ) → m * 2 ^ k * one ≡ m * 2 ^ (k + 149) * 1
unfolding one
whole-shape m k = mul_assoc m (2 ^ k) (2 ^ 149) ∙ ap (λ (z : ℕ). m * z) (sym (pow-add 2 k 149)) ∙ sym (mul-one (m * 2 ^ (k + 149)))

small : (k : ℕ) → 2 ^ suc k ≤ 2 ^ 149 → suc k ≤ 149
small k h = go (ltb 149 (suc k)) refl
  where
    go : (b : Bool) → ltb 149 (suc k) ≡ b → suc k ≤ 149
    go true e = absurd (native.Mathlib.Nat.not-le_of_lt (pow-lt (ltb-true 149 (suc k) e)) h)
    go false e = ltb-false 149 (suc k) e

share-shape : (m k : ℕ) → suc k ≤ 149 → m * 1 * one ≡ m * 2 ^ (149 - suc k) * 2 ^ suc k
unfolding one
share-shape m k h =
    let j = 149 - suc k in
    let e : j + suc k ≡ 149 = omega arith in
    ap (λ (z : ℕ). z * 2 ^ 149) (mul-one m) ∙ ap (λ (z : ℕ). m * 2 ^ z) (sym e) ∙ ap (λ (z : ℕ). m * z) (pow-add 2 j (suc k)) ∙ sym (mul_assoc m (2 ^ j) (2 ^ suc k))

pub shape : (x : Float) → Num x → Shape x
shape nan h = absurd h.clear
shape (inf s) h = absurd h.clear
shape (fin true m e) h = absurd h.clear
shape (fin false zero e) h = record {
  n = 0;
  value = (refl, ap (λ (z : ℕ). z * one) (zero-mul (up e)) ∙ zero-mul one ∙ sym (zero-mul (down e)));
  rep = record { q = 0; j = 0; is = refl; few = lit< tt; under = pow_pos 277 };
}
shape (fin false (suc m) (pos k)) h =
    let p = parts m (pos k) h.held in
    let v : suc m * 2 ^ k * one ≡ suc m * 2 ^ (k + 149) * 1 = whole-shape (suc m) k in
    record {
      n = suc m * 2 ^ (k + 149);
      value = (refl, v);
      rep = record { q = suc m; j = k + 149; is = refl; few = p.0; under = below_top (suc m * 2 ^ k) 1 (suc m * 2 ^ (k + 149)) (zero-lt-suc 0) v p.2 };
    }
shape (fin false (suc m) (negsuc k)) h =
    let p = parts m (negsuc k) h.held in
    let v : suc m * 1 * one ≡ suc m * 2 ^ (149 - suc k) * 2 ^ suc k = share-shape (suc m) k (small k p.1) in
    record {
      n = suc m * 2 ^ (149 - suc k);
      value = (refl, v);
      rep = record { q = suc m; j = 149 - suc k; is = refl; few = p.0; under = below_top (suc m * 1) (2 ^ suc k) (suc m * 2 ^ (149 - suc k)) (pow_pos (suc k)) v p.2 };
    }

-- ---- the number of units
pub mag_is : (x : Float) (n : ℕ) → HasValue x false n one → mag x ≡ n
unfolding mag
mag_is x n h = ap (λ (z : ℕ). z / den x) (value→cross x n one h) ∙ mul-div_cancel n (den_pos x)

pub value : (x : Float) → Num x → HasValue x false (mag x) one
value x h = let s = shape x h in subst (λ (z : ℕ). HasValue x false z one) (sym (mag_is x s.n s.value)) s.value

pub rep : (x : Float) → Num x → Rep (mag x)
rep x h = let s = shape x h in subst Rep (sym (mag_is x s.n s.value)) s.rep

cross : (x : Float) → Num x → mag x * den x ≡ num x * one
cross x h = sym (value→cross x (mag x) one (value x h))

-- ---- the order is that of the numbers of units
pub lt-mag : (x y : Float) → Num x → Num y → lt x y ≡ ltb (mag x) (mag y)
unfolding lt
lt-mag nan y p q = absurd p.clear
lt-mag (inf s) y p q = absurd p.clear
lt-mag (fin true m e) y p q = absurd p.clear
lt-mag (fin false m e) nan p q = absurd q.clear
lt-mag (fin false m e) (inf t) p q = absurd q.clear
lt-mag (fin false m e) (fin true n d) p q = absurd q.clear
lt-mag (fin false m e) (fin false n d) p q =
    over ltb mul-ltb (m * up e) (down e) (n * up d) (down d) one (mag (fin false m e)) (mag (fin false n d)) one-pos (down_pos e) (down_pos d)
    (cross (fin false m e) p) (cross (fin false n d) q)

eq-mag : (x y : Float) → Num x → Num y → eq x y ≡ eqb (mag x) (mag y)
unfolding eq
eq-mag nan y p q = absurd p.clear
eq-mag (inf s) y p q = absurd p.clear
eq-mag (fin true m e) y p q = absurd p.clear
eq-mag (fin false m e) nan p q = absurd q.clear
eq-mag (fin false m e) (inf t) p q = absurd q.clear
eq-mag (fin false m e) (fin true n d) p q = absurd q.clear
eq-mag (fin false m e) (fin false n d) p q =
    keep (eqb (m * up e * down d) (n * up d * down e))
    ∙ over eqb mul-eqb (m * up e) (down e) (n * up d) (down d) one (mag (fin false m e)) (mag (fin false n d)) one-pos (down_pos e) (down_pos d)
    (cross (fin false m e) p) (cross (fin false n d) q)
  where
    keep : (b : Bool) → (b && true) ≡ b
    keep true = refl
    keep false = refl

pub le-mag : (x y : Float) → Num x → Num y → le x y ≡ leb (mag x) (mag y)
unfolding le
le-mag x y p q = ap₂ ◌||◌ (lt-mag x y p q) (eq-mag x y p q) ∙ lt-or-eq (mag x) (mag y)

-- ---- numbers of units that are values
pub rep_at : (q j : ℕ) → q < 2 ^ 24 → j ≤ 253 → Rep (q * 2 ^ j)
rep_at q j h k = record { q = q; j = j; is = refl; few = h; under = lt_of_lt_of_le (shl_lt 24 j h) (pow_mono {i = 24 + j} {j = 277} (omega arith)) }

pub rep-scale : (n t : ℕ) → Rep n → n * 2 ^ t < 2 ^ 277 → Rep (n * 2 ^ t)
rep-scale n t r h = record {
  q = r.q;
  j = r.j + t;
  is = ap (λ (z : ℕ). z * 2 ^ t) r.is ∙ mul_assoc r.q (2 ^ r.j) (2 ^ t) ∙ ap (λ (z : ℕ). r.q * z) (sym (pow-add 2 r.j t));
  few = r.few;
  under = h;
}

-- whole numbers
pub rep-whole : (n : ℕ) → n < 2 ^ 24 → Rep (n * one)
unfolding one
rep-whole n h = rep_at n 149 h (lit≤ tt)

pub exact : (n : ℕ) → Rep n → HasValue (round binary32 false n one) false n one
unfolding one
exact n r =
    round_exact binary32 false n one r.q r.j one-pos r.few (subst (λ (z : ℕ). z < 2 ^ 277) r.is r.under) (ap (λ (z : ℕ). z * 2 ^ 149) r.is)

-- ---- a rounded fraction is a number or infinite, with a clear sign
abbrev unsigned : Float → Bool
unsigned nan = false
unsigned (inf s) = not s
unsigned (fin s m e) = not s

odd-unsigned : (d q k l : ℕ) → T (unsigned (odd d false q k l))
unfolding odd
odd-unsigned d zero k l = tt
odd-unsigned d (suc q) k l = tt

units-unsigned : (q k : ℕ) → T (unsigned (units binary32 false q k))
unfolding units
units-unsigned q k = go (ltb (q * 2 ^ k) (2 ^ 277))
  where
    go : (b : Bool) → T (unsigned (cond b (odd 25 false q k 149) (inf false)))
    go true = odd-unsigned 25 q k 149
    go false = tt

round-unsigned : (a c : ℕ) → T (unsigned (round binary32 false a c))
round-unsigned a c = subst (λ (z : Float). T (unsigned z)) (sym (round_is binary32 false a c)) (units-unsigned _ _)

finite-plus : (x : Float) → T (unsigned x) → T (finite x) → T (plus x)
finite-plus nan u h = absurd h
finite-plus (inf s) u h = absurd h
finite-plus (fin s m e) u h = u

under-finite : (x y : Float) (n : ℕ) → T (unsigned x) → HasValue y false n one → T (le x y) → T (finite x)
unfolding le lt eq
under-finite nan y n u v h = absurd u
under-finite (inf true) y n u v h = absurd u
under-finite (inf false) nan n u v h = absurd v
under-finite (inf false) (inf t) n u v h = absurd v
under-finite (inf false) (fin t m e) n u v h = absurd h
under-finite (fin s m e) y n u v h = tt

pub value-plus : (x : Float) (n d : ℕ) → HasValue x false n d → T (plus x)
value-plus nan n d h = absurd h
value-plus (inf s) n d h = absurd h
value-plus (fin true m e) n d h = clash true refl h.0
value-plus (fin false m e) n d h = tt

pub round-num : (a c : ℕ) → T (plus (round binary32 false a c)) → Num (round binary32 false a c)
round-num a c h = record { held = round-fits binary32 false a c; clear = h }

abbrev pub AtMost : Float → ℕ → Type 0
AtMost x n = Num x × (mag x ≤ n)

le_of : (x y : Float) → Num x → Num y → T (le x y) → mag x ≤ mag y
le_of x y p q h = leb→le (mag x) (mag y) (subst T (le-mag x y p q) h)

-- a limit that needs no rounding is kept from above and from below
pub round-at-most : (a c B : ℕ) → 0 < c → Rep B → a * one ≤ B * c → AtMost (round binary32 false a c) B
round-at-most a c B C r h =
    let v = exact B r in
    let x = round binary32 false a c in
    let y = round binary32 false B one in
    let l : T (le x y) = round_mono binary32 a c B one C one-pos h in
    let p : Num x = round-num a c (finite-plus x (round-unsigned a c) (under-finite x y B (round-unsigned a c) v l)) in
    let q : Num y = round-num B one (value-plus y B one v) in
    (p, le_trans (le_of x y p q l) (le_of_eq (mag_is y B v)))

pub round-at-least : (a c B : ℕ) → 0 < c → Rep B → B * c ≤ a * one → Num (round binary32 false a c) → B ≤ mag (round binary32 false a c)
round-at-least a c B C r h p =
    let v = exact B r in
    let x = round binary32 false a c in
    let y = round binary32 false B one in
    let q : Num y = round-num B one (value-plus y B one v) in
    le_trans (le_of_eq (sym (mag_is y B v))) (le_of y x q p (round_mono binary32 B one a c one-pos C h))

pub round-order : (a c b d : ℕ) → 0 < c → 0 < d → a * d ≤ b * c → Num (round binary32 false b d) → AtMost (round binary32 false a c) (mag (round binary32 false b d))
round-order a c b d C D h q =
    let x = round binary32 false a c in
    let y = round binary32 false b d in
    let l : T (le x y) = round_mono binary32 a c b d C D h in
    let p : Num x = round-num a c (finite-plus x (round-unsigned a c) (under-finite x y (mag y) (round-unsigned a c) (value y q) l)) in
    (p, le_of x y p q l)

-- ---- a power of two goes through rounding: below 2 ^ 24 units nothing is rounded, and from there on values are in the normal range
pub round-scale : (n t : ℕ) → Num (round binary32 false n one) → mag (round binary32 false n one) * 2 ^ t < 2 ^ 277
    → AtMost (round binary32 false (n * 2 ^ t) one) (mag (round binary32 false n one) * 2 ^ t)
unfolding one
round-scale n t h k = go (ltb n (2 ^ 24)) refl
  where
    num-plus : (x : Float) → Num x → T (finite x)
    num-plus nan p = absurd p.clear
    num-plus (inf s) p = absurd p.clear
    num-plus (fin s m e) p = tt

    by : (m : ℕ) → HasValue (round binary32 false (n * 2 ^ t) one) false m one → m ≡ mag (round binary32 false n one) * 2 ^ t
        → AtMost (round binary32 false (n * 2 ^ t) one) (mag (round binary32 false n one) * 2 ^ t)
    by m v e = (round-num (n * 2 ^ t) one (value-plus (round binary32 false (n * 2 ^ t) one) m one v), le_of_eq (mag_is (round binary32 false (n * 2 ^ t) one) m v ∙ e))

    go : (b : Bool) → ltb n (2 ^ 24) ≡ b → AtMost (round binary32 false (n * 2 ^ t) one) (mag (round binary32 false n one) * 2 ^ t)
    go true e =
        let l : n < 2 ^ 24 = ltb-true n (2 ^ 24) e in
        let r : Rep n = record { q = n; j = 0; is = sym (mul-one n); few = l; under = lt_of_lt_of_le l (lit≤ tt) } in
        let g : mag (round binary32 false n one) ≡ n = mag_is (round binary32 false n one) n (exact n r) in
        by (n * 2 ^ t) (exact (n * 2 ^ t) (rep-scale n t r (subst (λ (z : ℕ). z * 2 ^ t < 2 ^ 277) g k))) (ap (λ (z : ℕ). z * 2 ^ t) (sym g))
    go false e =
        let x = round binary32 false n one in
        let N = normal_of_fraction binary32 n one one-pos (mul-le-mul_right one (le_trans (lit≤ {m = 2 ^ 23} {n = 2 ^ 24} tt) (ltb-false n (2 ^ 24) e))) in
        let s : grid binary32 (n * 2 ^ t) one ≡ grid binary32 n one * 2 ^ t = grid_scale binary32 n one t one-pos N in
        let g : mag x ≡ grid binary32 n one = mag_is x (grid binary32 n one) (round_val binary32 n one (round_under binary32 n one (num-plus x h))) in
        let w : grid binary32 (n * 2 ^ t) one ≡ mag x * 2 ^ t = s ∙ ap (λ (z : ℕ). z * 2 ^ t) (sym g) in
        by (grid binary32 (n * 2 ^ t) one) (round_val binary32 (n * 2 ^ t) one (subst (λ (z : ℕ). z < 2 ^ 277) (sym w) k)) w

-- ---- the operations as fractions of units
-- a sum of two fractions
pub joined : (a b c d u v l : ℕ) → u * c ≡ a * l → v * d ≡ b * l → (a * d + b * c) * l ≡ (u + v) * (c * d)
joined a b c d u v l g h =
    add-mul (a * d) (b * c) l
    ∙ ap₂ ◌+◌ (mul_right_comm a d l ∙ ap (λ (z : ℕ). z * d) (sym g) ∙ mul_assoc u c d)
    (mul_right_comm b c l ∙ ap (λ (z : ℕ). z * c) (sym h) ∙ mul_right_comm v d c ∙ mul_assoc v c d)
    ∙ sym (add-mul u v (c * d))

add-fin : (m n : ℕ) (e d : ℤ) → add binary32 (fin false m e) (fin false n d) ≡ round binary32 false (m * up e * down d + n * up d * down e) (down e * down d)
unfolding add sum
add-fin m n e d = refl

pub add_is : (x y : Float) → Num x → Num y → x ⊕ y ≡ round binary32 false (mag x + mag y) one
add_is nan y p q = absurd p.clear
add_is (inf s) y p q = absurd p.clear
add_is (fin true m e) y p q = absurd p.clear
add_is (fin false m e) nan p q = absurd q.clear
add_is (fin false m e) (inf t) p q = absurd q.clear
add_is (fin false m e) (fin true n d) p q = absurd q.clear
add_is (fin false m e) (fin false n d) p q =
    add-fin m n e d
    ∙ round_same binary32 false (m * up e * down d + n * up d * down e) (down e * down d) (mag (fin false m e) + mag (fin false n d)) one
    (mul-pos (down_pos e) (down_pos d)) one-pos
    (joined (m * up e) (n * up d) (down e) (down d) (mag (fin false m e)) (mag (fin false n d)) one (cross (fin false m e) p) (cross (fin false n d) q))

mul-fin : (m n : ℕ) (e d : ℤ) → mul binary32 (fin false m e) (fin false n d) ≡ round binary32 false (m * up e * (n * up d)) (down e * down d)
unfolding mul
mul-fin m n e d = refl

pub mul_is : (x y : Float) → Num x → Num y → x ⊗ y ≡ round binary32 false (mag x * mag y) (one * one)
mul_is nan y p q = absurd p.clear
mul_is (inf s) y p q = absurd p.clear
mul_is (fin true m e) y p q = absurd p.clear
mul_is (fin false m e) nan p q = absurd q.clear
mul_is (fin false m e) (inf t) p q = absurd q.clear
mul_is (fin false m e) (fin true n d) p q = absurd q.clear
mul_is (fin false m e) (fin false n d) p q =
    let u = mag (fin false m e) in
    let v = mag (fin false n d) in
    mul-fin m n e d
    ∙ round_same binary32 false (m * up e * (n * up d)) (down e * down d) (u * v) (one * one) (mul-pos (down_pos e) (down_pos d)) (mul-pos one-pos one-pos)
    (mul-mul-mul_comm (m * up e) (n * up d) one one ∙ ap₂ ◌*◌ (sym (cross (fin false m e) p)) (sym (cross (fin false n d) q)) ∙ mul-mul-mul_comm u (down e) v (down d))

div-fin : (m n : ℕ) (e d : ℤ) → 0 < n → div binary32 (fin false m e) (fin false n d) ≡ round binary32 false (m * up e * down d) (n * up d * down e)
unfolding div
div-fin m zero e d h = absurd (omega arith)
div-fin m (suc n) e d h = rw (lib.Dec.eqb-suc-zero n)

positive : (m u c v l : ℕ) → v * c ≡ m * u * l → 0 < v → 0 < c → 0 < m
positive zero u c v l e P C =
    let z : v * c ≡ 0 = e ∙ ap (λ (k : ℕ). k * l) (zero-mul u) ∙ zero-mul l in
    let p : 0 < v * c = mul-pos P C in absurd (omega arith)
positive (suc m) u c v l e P C = zero-lt-suc m

pub div_is : (x y : Float) → Num x → Num y → 0 < mag y → x ⊘ y ≡ round binary32 false (mag x) (mag y)
div_is nan y p q h = absurd p.clear
div_is (inf s) y p q h = absurd p.clear
div_is (fin true m e) y p q h = absurd p.clear
div_is (fin false m e) nan p q h = absurd q.clear
div_is (fin false m e) (inf t) p q h = absurd q.clear
div_is (fin false m e) (fin true n d) p q h = absurd q.clear
div_is (fin false m e) (fin false n d) p q h =
    let u = mag (fin false m e) in
    let v = mag (fin false n d) in
    let N : 0 < n = positive n (up d) (down d) v one (cross (fin false n d) q) h (down_pos d) in
    div-fin m n e d N
    ∙ round_same binary32 false (m * up e * down d) (n * up d * down e) u v (mul-pos (mul-pos N (lib.Ieee.Fits.up_pos d)) (down_pos e)) h
    (ratio (m * up e) (n * up d) (down e) (down d) u v one one-pos (cross (fin false m e) p) (cross (fin false n d) q))
  where
    ratio : (a b c d u v l : ℕ) → 0 < l → u * c ≡ a * l → v * d ≡ b * l → a * d * v ≡ u * (b * c)
    ratio a b c d u v l L g h =
        eq_of_mul-eq-mul_right l L (a * d * v) (u * (b * c))
        (let x : a * d * v * l ≡ a * l * (v * d) = simp (mul_assoc, mul_comm, mul_left_comm) in
        let y : u * c * (b * l) ≡ u * (b * c) * l = simp (mul_assoc, mul_comm, mul_left_comm) in
        x ∙ ap₂ ◌*◌ (sym g) h ∙ y)

sub-fin : (m n : ℕ) (e d : ℤ) → n * up d * down e ≤ m * up e * down d
    → sub binary32 (fin false m e) (fin false n d) ≡ round binary32 false (m * up e * down d - n * up d * down e) (down e * down d)
unfolding sub sum
sub-fin m n e d h = rw (le-ltb (m * up e * down d) (n * up d * down e) h)

pub sub_is : (x y : Float) → Num x → Num y → mag y ≤ mag x → x ⊖ y ≡ round binary32 false (mag x - mag y) one
sub_is nan y p q h = absurd p.clear
sub_is (inf s) y p q h = absurd p.clear
sub_is (fin true m e) y p q h = absurd p.clear
sub_is (fin false m e) nan p q h = absurd q.clear
sub_is (fin false m e) (inf t) p q h = absurd q.clear
sub_is (fin false m e) (fin true n d) p q h = absurd q.clear
sub_is (fin false m e) (fin false n d) p q h =
    let u = mag (fin false m e) in
    let v = mag (fin false n d) in
    let g = parted (m * up e) (n * up d) (down e) (down d) u v one (cross (fin false m e) p) (cross (fin false n d) q) in
    sub-fin m n e d (le_of_mul-le-mul_right (le_trans (le_of_eq g.1) (le_trans (mul-le-mul_right (down e * down d) h) (le_of_eq (sym g.0)))) one-pos)
    ∙ round_same binary32 false (m * up e * down d - n * up d * down e) (down e * down d) (u - v) one (mul-pos (down_pos e) (down_pos d)) one-pos
    (mul_comm (m * up e * down d - n * up d * down e) one
    ∙ mul-sub one (m * up e * down d) (n * up d * down e)
    ∙ ap₂ ◌-◌ (mul_comm one (m * up e * down d) ∙ g.0 ∙ mul_comm u (down e * down d)) (mul_comm one (n * up d * down e) ∙ g.1 ∙ mul_comm v (down e * down d))
    ∙ sym (mul-sub (down e * down d) u v)
    ∙ mul_comm (down e * down d) (u - v))
  where
    parted : (a b c d u v l : ℕ) → u * c ≡ a * l → v * d ≡ b * l → (a * d * l ≡ u * (c * d)) × (b * c * l ≡ v * (c * d))
    parted a b c d u v l g h = (
      mul_right_comm a d l ∙ ap (λ (z : ℕ). z * d) (sym g) ∙ mul_assoc u c d,
      mul_right_comm b c l ∙ ap (λ (z : ℕ). z * c) (sym h) ∙ mul_right_comm v d c ∙ mul_assoc v c d,
    )

-- ---- limits that the operations keep
pub add-at-most : (x y : Float) (B : ℕ) → Num x → Num y → Rep B → mag x + mag y ≤ B → AtMost (x ⊕ y) B
add-at-most x y B p q r h =
    subst (λ (z : Float). AtMost z B) (sym (add_is x y p q)) (round-at-most (mag x + mag y) one B one-pos r (mul-le-mul_right one h))

-- a sum is at least each part
pub add-at-least : (x y : Float) → Num x → Num y → Num (x ⊕ y) → (mag x ≤ mag (x ⊕ y)) × (mag y ≤ mag (x ⊕ y))
add-at-least x y p q n =
    let e = add_is x y p q in
    let k = subst Num e n in (
      subst (λ (z : Float). mag x ≤ mag z) (sym e) (round-at-least (mag x + mag y) one (mag x) one-pos (rep x p) (mul-le-mul_right one (le-add_right (mag x) (mag y))) k),
      subst (λ (z : Float). mag y ≤ mag z) (sym e) (round-at-least (mag x + mag y) one (mag y) one-pos (rep y q) (mul-le-mul_right one (le-add_left (mag y) (mag x))) k),
    )

pub sub-at-most : (x y : Float) (B : ℕ) → Num x → Num y → Rep B → mag y ≤ mag x → mag x - mag y ≤ B → AtMost (x ⊖ y) B
sub-at-most x y B p q r l h =
    subst (λ (z : Float). AtMost z B) (sym (sub_is x y p q l)) (round-at-most (mag x - mag y) one B one-pos r (mul-le-mul_right one h))

pub mul-at-most : (x y : Float) (B : ℕ) → Num x → Num y → Rep B → mag x * mag y ≤ B * one → AtMost (x ⊗ y) B
mul-at-most x y B p q r h =
    subst (λ (z : Float). AtMost z B) (sym (mul_is x y p q))
    (round-at-most (mag x * mag y) (one * one) B (mul-pos one-pos one-pos) r (le_trans (mul-le-mul_right one h) (le_of_eq (mul_assoc B one one))))

pub div-at-most : (x y : Float) (B : ℕ) → Num x → Num y → 0 < mag y → Rep B → mag x * one ≤ B * mag y → AtMost (x ⊘ y) B
div-at-most x y B p q D r h = subst (λ (z : Float). AtMost z B) (sym (div_is x y p q D)) (round-at-most (mag x) (mag y) B D r h)

-- with a ≤ c * 2 ^ t and b ≤ d * 2 ^ t, the rounded sums are in that order too
pub add-scaled : (a b c d : Float) (t : ℕ) → Num a → Num b → Num c → Num d → mag a ≤ mag c * 2 ^ t → mag b ≤ mag d * 2 ^ t
    → Num (c ⊕ d) → mag (c ⊕ d) * 2 ^ t < 2 ^ 277 → AtMost (a ⊕ b) (mag (c ⊕ d) * 2 ^ t)
add-scaled a b c d t A B C D h k n u =
    let e = add_is c d C D in
    let m = mag c + mag d in
    let s = round-scale m t (subst Num e n) (subst (λ (z : Float). mag z * 2 ^ t < 2 ^ 277) e u) in
    let o = round-order (mag a + mag b) one (m * 2 ^ t) one one-pos one-pos (mul-le-mul_right one (le_trans (add-le-add h k) (le_of_eq (sym (add-mul (mag c) (mag d) (2 ^ t)))))) s.0 in
    subst (λ (z : Float). AtMost z (mag (c ⊕ d) * 2 ^ t)) (sym (add_is a b A B))
    (o.0, le_trans o.1 (le_trans s.1 (le_of_eq (ap (λ (z : Float). mag z * 2 ^ t) (sym e)))))

-- ---- ranges of patterns as limits
below-infinity : pattern 23 (2 ^ 277) ≡ 0x7f80_0000
unfolding size
below-infinity = refl

fin-bits : (m : ℕ) (e : ℤ) → to_bits binary32 (fin false m e) ≡ pattern 23 (mag (fin false m e))
unfolding mag one
fin-bits m e = plus-bits m e

pub num-plain : (x : Float) → Num x → Plain x
unfolding in_range
num-plain nan p = absurd p.clear
num-plain (inf s) p = absurd p.clear
num-plain (fin true m e) p = absurd p.clear
num-plain (fin false m e) p = record {
  held = p.held;
  ranged =
      le-leb (to_bits binary32 (fin false m e)) 0x7f80_0000
      (le_trans (le_of_eq (fin-bits m e)) (le_trans (pattern-mono 23 (mag (fin false m e)) (2 ^ 277) (le_of_lt (rep (fin false m e) p).under)) (le_of_eq below-infinity)));
}

in-plus : (limit : ℕ) (x : Float) → limit < 0x7f80_0000 → in_range limit x ≡ true → T (plus x)
in-plus limit nan l h = below_inf limit nan l h
in-plus limit (inf s) l h = below_inf limit (inf s) l h
in-plus limit (fin true m e) l h = absurd (no_minus m e (wider limit (fin true m e) (le_of_lt l) h))
in-plus limit (fin false m e) l h = tt

pub in-num : (limit : ℕ) (x : Float) → limit < 0x7f80_0000 → T (fits binary32 x) → in_range limit x ≡ true → Num x
in-num limit x l f h = record { held = f; clear = in-plus limit x l h }

-- the bound's own float
abbrev pub limit_f : ℕ → Float
limit_f limit = of_bits binary32 limit

limit-bits : (limit : ℕ) → limit < 0x7f80_0000 → to_bits binary32 (limit_f limit) ≡ limit
limit-bits limit l =
    to_bits-of_bits binary32 limit (omega arith) (subst (λ (b : Bool). T (not b)) (nan_bits_is binary32 limit) (no_nan limit (omega arith)))

pub limit-num : (limit : ℕ) → limit < 0x7f80_0000 → Num (limit_f limit)
unfolding in_range
limit-num limit l = in-num limit (limit_f limit) l (of_bits-fits binary32 limit) (le-leb _ _ (le_of_eq (limit-bits limit l)))

pub in-at-most : (limit : ℕ) (x : Float) → limit < 0x7f80_0000 → T (fits binary32 x) → in_range limit x ≡ true → AtMost x (mag (limit_f limit))
unfolding in_range
in-at-most limit x l f h =
    let p = in-num limit x l f h in
    let q = limit-num limit l in
    (p, leb-true (mag x) (mag (limit_f limit)) (sym (le-mag x (limit_f limit) p q) ∙ le-bits x (limit_f limit) (num-plain x p) (num-plain (limit_f limit) q) ∙ ap (leb (to_bits binary32 x)) (limit-bits limit l) ∙ h))

pub at_most_in : (limit : ℕ) (x : Float) → limit < 0x7f80_0000 → AtMost x (mag (limit_f limit)) → in_range limit x ≡ true
unfolding in_range
at_most_in limit x l h =
    let q = limit-num limit l in
    ap (leb (to_bits binary32 x)) (sym (limit-bits limit l))
    ∙ sym (le-bits x (limit_f limit) (num-plain x h.0) (num-plain (limit_f limit) q))
    ∙ le-mag x (limit_f limit) h.0 q
    ∙ le-leb (mag x) (mag (limit_f limit)) h.1

pub all-range : (limit : ℕ) (y : List Float) → ((i : ℕ) → i < length y → in_range limit (at y i) ≡ true) → all_in_range limit y ≡ true
unfolding all_in_range
all-range limit [] h = refl
all-range limit (x ∷ xs) h = rw (h 0 (omega arith)) (all-range limit xs (λ i k. h (suc i) (omega arith)))

-- ---- literals and whole numbers
pub mag-zero : mag 𝟎 ≡ 0
unfolding mag one of_bits
mag-zero = refl

pub mag-one : mag 𝟏 ≡ one
unfolding mag one of_bits
mag-one = refl

-- 2 ^ 32
pub mag-readings : mag (limit_f 0x4f80_0000) ≡ one * 2 ^ 32
unfolding mag one of_bits
mag-readings = refl

pub num-zero : Num 𝟎
num-zero = limit-num 0 (lit< tt)

pub num-one : Num 𝟏
num-one = limit-num 0x3f80_0000 (lit< tt)
