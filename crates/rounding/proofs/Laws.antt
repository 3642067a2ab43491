-- Laws of `whole_by` at the values that the tests of the code tell apart.
use mathlib.Core.Path.{◌≡◌, refl, sym, ap, ◌∙◌, subst}
use mathlib.Core.Bool.{Bool, true, false, cond, not, ◌&&◌}
use Prim.Native.Nat.{ℕ, zero, suc, ◌+◌, ◌-◌, ◌*◌, ◌/◌, ◌%◌, ◌^◌, ◌≤◌, ◌<◌, compare}
use native.Mathlib.Nat.{le_trans, lt_of_lt_of_le, mul-one, one-mul, zero-mul, mul-pos, mul_comm, mul_assoc, mul_left_comm, mul_right_comm, add-mul, mul-sub, div-mul-le_self, div-lt_iff_lt-mul, le-div_iff_mul-le, div-eq_of_lt-le, add-mul-div_right, mul-le-mul_right, mul-lt-mul_of_pos_right, le_of_eq, not-le_of_lt, lt_of_not-le, eq_of_mul-eq-mul_right}
use native.Mathlib.Omega.{arith}
use borrow.Author.Tests.{ltb-true, ltb-false, lt-ltb, le-ltb}
use lib.Dec.{T, ltb, leb, eqb, ltb→lt, eqb→eq, lit<, lit≤}
use lib.IntN.{ℤ, pos, negsuc}
use lib.Pow.{pow-add, pow_pos, pow-lt, pow_mono, shl_lt}
use lib.Ieee.{Float, nan, inf, fin, binary32, up, down, size, odd, units, lt, neg, add, sub, sum, round, fits}
use lib.Ieee.Digits.{size-lt, size-le}
use lib.Ieee.Fits.{and_l, and_r, down_pos, core, round_is, round-fits, nearest-le}
use lib.Ieee.Exact.{HasValue, units_val, round_exact}
use lib.Ieee.Back.{round_whole, whole_unique}
use lib.Ieee.Nearest.{closest, closest_same, nearest-ge}
use lib.Ieee.Scale.{round_same}
use Rattle.refusal.proofs.Bools.{clash}
use Rattle.rounding.specs.Rounding.{below, above, nearby, whole_by, floor_f, ceil_f, round_f}
use Rattle.numeric.proofs.Order.{mul-ltb}

-- the literals 0, 0.5, 1 and 2 ^ 23
abbrev pub zero_f : Float
zero_f = fin false 0 (pos 0)

abbrev pub half_f : Float
half_f = fin false 1 (negsuc 0)

abbrev pub one_f : Float
one_f = fin false 1 (pos 0)

abbrev pub top_f : Float
top_f = fin false 1 (pos 23)

-- ---- signs: a rounded fraction with its sign turned
pub neg-odd : (d : ℕ) (s : Bool) (q k l : ℕ) → neg (odd d s q k l) ≡ odd d (not s) q k l
unfolding neg odd
neg-odd d s zero k l = refl
neg-odd d s (suc q) k l = refl

pub neg-units : (s : Bool) (q k : ℕ) → neg (units binary32 s q k) ≡ units binary32 (not s) q k
unfolding neg units
neg-units s q k = go (ltb (q * 2 ^ k) (2 ^ 277))
  where
    go : (b : Bool) → neg (cond b (odd 25 s q k 149) (inf s)) ≡ cond b (odd 25 (not s) q k 149) (inf (not s))
    go true = neg-odd 25 s q k 149
    go false = refl

pub neg-round : (s : Bool) (a d : ℕ) → neg (round binary32 s a d) ≡ round binary32 (not s) a d
neg-round s a d =
    let n = a * 2 ^ 149 in
    let k = size (n / d) - 24 in
    ap neg (round_is binary32 s a d) ∙ neg-units s (closest n (d * 2 ^ k)) k ∙ sym (round_is binary32 (not s) a d)

-- a value with its sign turned, made whole by the rule for that sign, and turned back
pub turned : (p q : Bool → ℕ → ℕ → ℕ) → ((s : Bool) (a d : ℕ) → q (not s) a d ≡ p s a d) → (x : Float) → neg (whole_by q (neg x)) ≡ whole_by p x
unfolding neg
turned p q h nan = refl
turned p q h (inf true) = refl
turned p q h (inf false) = refl
turned p q h (fin true m e) = neg-round false (q false (m * up e) (down e)) 1 ∙ ap (λ (n : ℕ). round binary32 true n 1) (h true (m * up e) (down e))
turned p q h (fin false m e) = neg-round true (q true (m * up e) (down e)) 1 ∙ ap (λ (n : ℕ). round binary32 false n 1) (h false (m * up e) (down e))

-- of a value below zero the negation is above it
pub mirrored : (x : Float) → lt x zero_f ≡ true → lt zero_f (neg x) ≡ true
unfolding lt neg
mirrored nan h = h
mirrored (inf true) h = refl
mirrored (inf false) h = h
mirrored (fin true m e) h =
    let k : 0 < m * up e * 1 + 0 * 1 * down e = ltb-true 0 (m * up e * 1 + 0 * 1 * down e) h in lt-ltb (0 * 1 * down e) (m * up e * 1) (omega arith)
mirrored (fin false m e) h = let k : m * up e * 1 < 0 * 1 * down e = ltb-true (m * up e * 1) (0 * 1 * down e) h in absurd (omega arith)

-- ---- what fits binary32
fits-parts : (s : Bool) (m : ℕ) (e : ℤ) → T (fits binary32 (fin s (suc m) e)) → (suc m < 2 ^ 24) × (suc m * up e < 2 ^ 128 * down e)
unfolding fits
fits-parts s m e t =
    let a : Bool = eqb (suc m % 2) 1 in
    let b : Bool = ltb (suc m) (2 ^ 24) in
    let c : Bool = leb (down e) (2 ^ 149) in
    let d : Bool = ltb (suc m * up e) (2 ^ 128 * down e) in
    (ltb→lt (suc m) (2 ^ 24) (and_r a b (and_l (a && b) c (and_l (a && b && c) d t))), ltb→lt (suc m * up e) (2 ^ 128 * down e) (and_r (a && b && c) d t))

pub fits-small : (s : Bool) (m : ℕ) (e : ℤ) → T (fits binary32 (fin s m e)) → m < 2 ^ 24
fits-small s zero e t = lit< tt
fits-small s (suc m) e t = (fits-parts s m e t).0

fits_under : (s : Bool) (m k : ℕ) → T (fits binary32 (fin s m (pos k))) → m * 2 ^ k < 2 ^ 128
fits_under s zero k t = subst (λ (z : ℕ). z < 2 ^ 128) (sym (zero-mul (2 ^ k))) (lit< tt)
fits_under s (suc m) k t = (fits-parts s m (pos k) t).1

-- ---- values that are whole already: those with no negative exponent, then zeros, NaNs and infinities, then values from 2 ^ 23 on

-- the rule gives a whole number back
abbrev pub Keeps : (Bool → ℕ → ℕ → ℕ) → Type 0
Keeps rule = (s : Bool) (n : ℕ) → rule s n 1 ≡ n

stays : (rule : Bool → ℕ → ℕ → ℕ) → Keeps rule → (s : Bool) (m k : ℕ) → T (fits binary32 (fin s m (pos k))) → fin s m (pos k) ≡ whole_by rule (fin s m (pos k))
stays rule r s m k t =
    let n = m * 2 ^ k in
    let e1 : m * 2 ^ (k + 149) ≡ n * 2 ^ 149 = ap (λ (z : ℕ). m * z) (pow-add 2 k 149) ∙ sym (mul_assoc m (2 ^ k) (2 ^ 149)) in
    let v : HasValue (round binary32 s n 1) s n 1 =
    round_exact binary32 s n 1 m (k + 149) (lit< tt) (fits-small s m (pos k) t)
    (subst (λ (z : ℕ). z < 2 ^ (149 + 128)) (sym e1) (shl_lt 128 149 (fits_under s m k t)))
    (sym (mul-one (m * 2 ^ (k + 149)) ∙ e1)) in
    whole_unique binary32 (fin s m (pos k)) (round binary32 s n 1) s n t (round-fits binary32 s n 1) (refl, refl) v
    ∙ ap (λ (z : ℕ). round binary32 s z 1) (sym (r s n))

-- a zero has no negative exponent
no-half : (s : Bool) (m k : ℕ) → T (fits binary32 (fin s m (negsuc k))) → m ≡ 0 → ⊥
unfolding fits
no-half s zero k t h = let e : 1 * 2 ^ suc k ≡ 1 = eqb→eq (1 * 2 ^ suc k) 1 t in let p : 1 < 2 ^ suc k = pow-lt {i = 0} {j = suc k} (omega arith) in omega arith
no-half s (suc m) k t h = omega arith

pub zero-stays : (rule : Bool → ℕ → ℕ → ℕ) → Keeps rule → (x : Float) → T (fits binary32 x) → lt zero_f x ≡ false → lt x zero_f ≡ false → x ≡ whole_by rule x
unfolding lt
zero-stays rule r nan t g h = refl
zero-stays rule r (inf s) t g h = refl
zero-stays rule r (fin s m (pos k)) t g h = stays rule r s m k t
zero-stays rule r (fin false m (negsuc k)) t g h =
    let z : m * 1 * 1 ≤ 0 * 1 * 2 ^ suc k = ltb-false (0 * 1 * 2 ^ suc k) (m * 1 * 1) g in absurd (no-half false m k t (omega arith))
zero-stays rule r (fin true m (negsuc k)) t g h =
    let z : m * 1 * 1 + 0 * 1 * 2 ^ suc k ≤ 0 = ltb-false 0 (m * 1 * 1 + 0 * 1 * 2 ^ suc k) h in absurd (no-half true m k t (omega arith))

pub high-stays : (rule : Bool → ℕ → ℕ → ℕ) → Keeps rule → (x : Float) → T (fits binary32 x) → lt zero_f x ≡ true → lt x top_f ≡ false → x ≡ whole_by rule x
unfolding lt
high-stays rule r nan t g h = refl
high-stays rule r (inf s) t g h = refl
high-stays rule r (fin s m (pos k)) t g h = stays rule r s m k t
high-stays rule r (fin true m (negsuc k)) t g h = clash false g refl
high-stays rule r (fin false m (negsuc k)) t g h =
    let z : 1 * 8388608 * 2 ^ suc k ≤ m * 1 * 1 = ltb-false (m * 1 * 1) (1 * 8388608 * 2 ^ suc k) h in
    let p : 1 < 2 ^ suc k = pow-lt {i = 0} {j = suc k} (omega arith) in
    let b : m < 16777216 = fits-small false m (negsuc k) t in
    absurd (omega arith)

-- ---- operations on values that are not negative, by the fractions that they equal
-- x / e is a / c, here with both sides times the other denominators
cross : (x a c e g d : ℕ) → x * c ≡ a * e → x * g * (c * d) ≡ a * d * (e * g)
cross x a c e g d h = simp (mul_assoc, mul_comm, mul_left_comm) (simp mul_assoc at (ap (λ (z : ℕ). z * (g * d)) h))

cross' : (y b c e g d : ℕ) → y * d ≡ b * g → y * e * (c * d) ≡ b * c * (e * g)
cross' y b c e g d h = ap (λ (z : ℕ). y * e * z) (mul_comm c d) ∙ cross y b d g e c h ∙ ap (λ (z : ℕ). b * c * z) (mul_comm g e)

pub add_is : (x y : Float) (a c b d : ℕ) → 0 < c → 0 < d → HasValue x false a c → HasValue y false b d → add binary32 x y ≡ round binary32 false (a * d + b * c) (c * d)
unfolding add sum
add_is nan y a c b d C D v w = absurd v
add_is (inf s) y a c b d C D v w = absurd v
add_is (fin true m e) y a c b d C D v w = clash true refl v.0
add_is (fin false m e) nan a c b d C D v w = absurd w
add_is (fin false m e) (inf t) a c b d C D v w = absurd w
add_is (fin false m e) (fin true n g) a c b d C D v w = clash true refl w.0
add_is (fin false m e) (fin false n g) a c b d C D v w =
    let p = m * up e * down g in
    let q = n * up g * down e in
    round_same binary32 false (p + q) (down e * down g) (a * d + b * c) (c * d) (mul-pos (down_pos e) (down_pos g)) (mul-pos C D)
    (add-mul p q (c * d)
    ∙ ap (λ (z : ℕ). z + q * (c * d)) (cross (m * up e) a c (down e) (down g) d v.1)
    ∙ ap (λ (z : ℕ). a * d * (down e * down g) + z) (cross' (n * up g) b c (down e) (down g) d w.1)
    ∙ sym (add-mul (a * d) (b * c) (down e * down g)))

sub-mul : (a b u : ℕ) → (a - b) * u ≡ a * u - b * u
sub-mul a b u = mul_comm (a - b) u ∙ mul-sub u a b ∙ ap (λ (z : ℕ). z - u * b) (mul_comm u a) ∙ ap (λ (z : ℕ). a * u - z) (mul_comm u b)

-- for whole numbers
sub_is : (x y : Float) (a b : ℕ) → b ≤ a → HasValue x false a 1 → HasValue y false b 1 → sub binary32 x y ≡ round binary32 false (a - b) 1
unfolding sub add sum neg
sub_is nan y a b l v w = absurd v
sub_is (inf s) y a b l v w = absurd v
sub_is (fin true m e) y a b l v w = clash true refl v.0
sub_is (fin false m e) nan a b l v w = absurd w
sub_is (fin false m e) (inf t) a b l v w = absurd w
sub_is (fin false m e) (fin true n g) a b l v w = clash true refl w.0
sub_is (fin false m e) (fin false n g) a b l v w =
    let p = m * up e * down g in
    let q = n * up g * down e in
    let u = down e * down g in
    let U : 0 < u = mul-pos (down_pos e) (down_pos g) in
    let ep : p ≡ a * u = ap (λ (z : ℕ). z * down g) (sym (mul-one (m * up e)) ∙ v.1) ∙ mul_assoc a (down e) (down g) in
    let eq : q ≡ b * u = ap (λ (z : ℕ). z * down e) (sym (mul-one (n * up g)) ∙ w.1) ∙ mul_assoc b (down g) (down e) ∙ ap (λ (z : ℕ). b * z) (mul_comm (down g) (down e)) in
    let le : b * u ≤ a * u = mul-le-mul_right u l in
    rw (le-ltb p q (omega arith))
    (round_same binary32 false (p - q) u (a - b) 1 U (lit< tt) (mul-one (p - q) ∙ ap (λ (z : ℕ). z - q) ep ∙ ap (λ (z : ℕ). a * u - z) eq ∙ sym (sub-mul a b u)))

pub lt-is : (x y : Float) (a c b d : ℕ) → 0 < c → 0 < d → HasValue x false a c → HasValue y false b d → lt x y ≡ ltb (a * d) (b * c)
unfolding lt
lt-is nan y a c b d C D v w = absurd v
lt-is (inf s) y a c b d C D v w = absurd v
lt-is (fin true m e) y a c b d C D v w = clash true refl v.0
lt-is (fin false m e) nan a c b d C D v w = absurd w
lt-is (fin false m e) (inf t) a c b d C D v w = absurd w
lt-is (fin false m e) (fin true n g) a c b d C D v w = clash true refl w.0
lt-is (fin false m e) (fin false n g) a c b d C D v w =
    let p = m * up e * down g in
    let q = n * up g * down e in
    let u = down e * down g in
    sym (mul-ltb p q (c * d) (mul-pos C D))
    ∙ ap (λ (z : ℕ). ltb z (q * (c * d))) (cross (m * up e) a c (down e) (down g) d v.1)
    ∙ ap (λ (z : ℕ). ltb (a * d * u) z) (cross' (n * up g) b c (down e) (down g) d w.1)
    ∙ mul-ltb (a * d) (b * c) u (mul-pos (down_pos e) (down_pos g))

-- ---- from 2 ^ 23 to 2 ^ 24 rounding gives one of the two whole numbers next to the fraction
-- a whole number written over p
whole-value : (x : Float) (n p : ℕ) → 0 < p → HasValue x false (n * p) p → HasValue x false n 1
whole-value nan n p h v = v
whole-value (inf s) n p h v = v
whole-value (fin s m e) n p h v = (
  v.0,
  mul-one (m * up e) ∙ eq_of_mul-eq-mul_right p h (m * up e) (n * down e) (v.1 ∙ mul_right_comm n p (down e)),
)

-- 149 digits are dropped, which are those of the fraction
digits : (w : ℕ) → 2 ^ 172 ≤ w → w < 2 ^ 173 → size w - 24 ≡ 149
digits w l h =
    let a : size w ≤ 173 = size-le w 173 h in
    let b : 172 < size w = lt_of_not-le (λ (g : size w ≤ 172). not-le_of_lt (lt_of_lt_of_le (size-lt w) (pow_mono g)) l) in
    omega arith

near : (a d : ℕ) → 0 < d → 8388608 * d ≤ a → a < 16777216 * d → (n : ℕ) × (a / d ≤ n) × (n ≤ a / d + 1) × HasValue (round binary32 false a d) false n 1
near a d D l h =
    let P = 2 ^ 149 in
    let n = closest a d in
    let q : a / d < 16777216 = (div-lt_iff_lt-mul D).1 h in
    let n-le : n ≤ suc (a / d) = nearest-le (a / d) (compare (a % d * 2) d) in
    let lo : 2 ^ 172 * d ≤ a * P = le_trans (le_of_eq (mul_right_comm 8388608 P d)) (mul-le-mul_right P l) in
    let hi : a * P < 2 ^ 173 * d = lt_of_lt_of_le (mul-lt-mul_of_pos_right h (pow_pos 149)) (le_of_eq (mul_right_comm 16777216 d P)) in
    let k : size (a * P / d) - 24 ≡ 149 = digits (a * P / d) ((le-div_iff_mul-le D).1 lo) ((div-lt_iff_lt-mul D).1 hi) in
    let e : round binary32 false a d ≡ units binary32 false n 149 =
    round_is binary32 false a d
    ∙ ap (λ (z : ℕ). core binary32 false (a * P) d z) k
    ∙ ap (λ (z : ℕ). units binary32 false z 149) (closest_same (a * P) (d * P) a d (mul-pos D (pow_pos 149)) D (mul_assoc a P d ∙ ap (λ (z : ℕ). a * z) (mul_comm P d))) in
    let room : n * P < 2 ^ (149 + 128) = lt_of_lt_of_le (shl_lt {a = n} 25 149 (omega arith)) (pow_mono {i = 174} {j = 277} (lit≤ tt)) in (
      n,
      nearest-ge (a / d) (compare (a % d * 2) d),
      omega arith,
      subst (λ (z : Float). HasValue z false n 1) (sym e) (whole-value (units binary32 false n 149) n P (pow_pos 149) (units_val binary32 false n 149 room)),
    )

-- ---- the whole numbers next to a fraction
above-up : (a d : ℕ) → 0 < d → a / d * d < a → (a + (d - 1)) / d ≡ a / d + 1
above-up a d p h =
    let q = a / d in
    let e1 : (q + 1) * d ≡ q * d + 1 * d = add-mul q 1 d in
    let e2 : (q + 1 + 1) * d ≡ (q + 1) * d + 1 * d = add-mul (q + 1) 1 d in
    let l : a < (q + 1) * d = (div-lt_iff_lt-mul p).0 (omega arith) in
    div-eq_of_lt-le d (omega arith) (omega arith)

above_same : (a d : ℕ) → 0 < d → a ≤ a / d * d → (a + (d - 1)) / d ≡ a / d
above_same a d p h =
    let q = a / d in
    let e1 : (q + 1) * d ≡ q * d + 1 * d = add-mul q 1 d in
    let l : q * d ≤ a = div-mul-le_self a d in
    div-eq_of_lt-le d (omega arith) (omega arith)

module _ (a d : ℕ) (p : 0 < d) where
  twice : (q : ℕ) → ((q * 2 + 1) * d ≡ q * d * 2 + d) × (q * (d * 2) ≡ q * d * 2)
  twice q = (add-mul (q * 2) 1 d ∙ ap (λ (z : ℕ). z + 1 * d) (mul_right_comm q 2 d) ∙ ap (λ (z : ℕ). q * d * 2 + z) (one-mul d), sym (mul_assoc q d 2))

  nearby-same : a * 2 < (a / d * 2 + 1) * d → (a + a + d) / (d * 2) ≡ a / d
  nearby-same h =
      let q = a / d in
      let t = twice q in
      let e1 : (q + 1) * (d * 2) ≡ q * (d * 2) + 1 * (d * 2) = add-mul q 1 (d * 2) in
      let l : q * d ≤ a = div-mul-le_self a d in
      div-eq_of_lt-le (d * 2) (omega arith) (omega arith)

  nearby-up : (a / d * 2 + 1) * d ≤ a * 2 → (a + a + d) / (d * 2) ≡ a / d + 1
  nearby-up h =
      let q = a / d in
      let t = twice q in
      let e1 : (q + 1) * (d * 2) ≡ q * (d * 2) + 1 * (d * 2) = add-mul q 1 (d * 2) in
      let e2 : (q + 1 + 1) * (d * 2) ≡ (q + 1) * (d * 2) + 1 * (d * 2) = add-mul (q + 1) 1 (d * 2) in
      let e3 : (q + 1) * d ≡ q * d + 1 * d = add-mul q 1 d in
      let l : a < (q + 1) * d = (div-lt_iff_lt-mul p).0 (omega arith) in
      div-eq_of_lt-le (d * 2) (omega arith) (omega arith)

-- a half of a number below 2 ^ 24 is held
pub half-value : (n : ℕ) → n < 16777216 → HasValue (round binary32 false n 2) false n 2
half-value n h =
    round_exact binary32 false n 2 n 148 (lit< tt) h (lt_of_lt_of_le (shl_lt {a = n} 24 148 h) (pow_mono {i = 172} {j = 277} (lit≤ tt)))
    (sym (mul_assoc n (2 ^ 148) 2))

-- ---- an x above zero and below 2 ^ 23
below_top : (P : Float → Type 0) → ((m : ℕ) (e : ℤ) → m * up e < 8388608 * down e → P (fin false m e)) → (x : Float) → lt zero_f x ≡ true → lt x top_f ≡ true → P x
unfolding lt
below_top P f nan g h = clash false g refl
below_top P f (inf true) g h = clash false g refl
below_top P f (inf false) g h = clash false h refl
below_top P f (fin true m e) g h = clash false g refl
below_top P f (fin false m e) g h = f m e (let k : m * up e * 1 < 1 * 8388608 * down e = ltb-true (m * up e * 1) (1 * 8388608 * down e) h in omega arith)

-- x + 2 ^ 23 - 2 ^ 23
abbrev pub whole_f : Float → Float
whole_f x = sub binary32 (add binary32 x top_f) top_f

whole-near : (m : ℕ) (e : ℤ) → m * up e < 8388608 * down e
    → (n : ℕ) × (m * up e / down e ≤ n) × (n ≤ m * up e / down e + 1) × (whole_f (fin false m e) ≡ round binary32 false n 1)
whole-near m e h =
    let a = m * up e in
    let d = down e in
    let D : 0 < d = down_pos e in
    let q : (a + 8388608 * d) / d ≡ a / d + 8388608 = add-mul-div_right a 8388608 D in
    let c = near (a + 8388608 * d) d D (omega arith) (omega arith) in
    let s : add binary32 (fin false m e) top_f ≡ round binary32 false (a + 8388608 * d) d =
    add_is (fin false m e) top_f a d 8388608 1 D (lit< tt) (refl, refl) (refl, refl)
    ∙ ap (λ (z : ℕ). round binary32 false (z + 8388608 * d) (d * 1)) (mul-one a)
    ∙ ap (λ (z : ℕ). round binary32 false (a + 8388608 * d) z) (mul-one d) in
    let lo = c.1 in
    let hi = c.2 in (
      c.0 - 8388608,
      omega arith,
      omega arith,
      ap (λ (z : Float). sub binary32 z top_f) s ∙ sub_is (round binary32 false (a + 8388608 * d) d) top_f c.0 8388608 (omega arith) c.3 (refl, refl),
    )

module _ (m : ℕ) (e : ℤ) (h : m * up e < 8388608 * down e) where
  quotient : m * up e / down e < 8388608
  quotient = (div-lt_iff_lt-mul (down_pos e)).1 h

  value : (n : ℕ) → n ≤ m * up e / down e + 1 → HasValue (round binary32 false n 1) false n 1
  value n l = round_whole binary32 false n (let k = quotient in omega arith)

  -- x against a whole number
  under : (n : ℕ) → n ≤ m * up e / down e + 1 → lt (fin false m e) (round binary32 false n 1) ≡ ltb (m * up e) (n * down e)
  under n l = lt-is (fin false m e) (round binary32 false n 1) (m * up e) (down e) n 1 (down_pos e) (lit< tt) (refl, refl) (value n l) ∙ ap (λ (z : ℕ). ltb z (n * down e)) (mul-one (m * up e))

  over : (n : ℕ) → n ≤ m * up e / down e + 1 → lt (round binary32 false n 1) (fin false m e) ≡ ltb (n * down e) (m * up e)
  over n l = lt-is (round binary32 false n 1) (fin false m e) n 1 (m * up e) (down e) (lit< tt) (down_pos e) (value n l) (refl, refl) ∙ ap (λ (z : ℕ). ltb (n * down e) z) (mul-one (m * up e))

  -- the sum of the whole number at most x and 1
  next : add binary32 (round binary32 false (m * up e / down e) 1) one_f ≡ round binary32 false (m * up e / down e + 1) 1
  next =
      let q = m * up e / down e in
      add_is (round binary32 false q 1) one_f q 1 1 1 (lit< tt) (lit< tt) (value q (omega arith)) (refl, refl) ∙ ap (λ (z : ℕ). round binary32 false (z + 1) 1) (mul-one q)

  floor-at : (b : Bool) → lt (fin false m e) (whole_f (fin false m e)) ≡ b → cond b (sub binary32 (whole_f (fin false m e)) one_f) (whole_f (fin false m e)) ≡ floor_f (fin false m e)
  unfolding floor_f
  floor-at b k = rw w.3 (go b (sym (under n w.2) ∙ ap (λ (z : Float). lt (fin false m e) z) (sym w.3) ∙ k))
    where
      w : (n : ℕ) × (m * up e / down e ≤ n) × (n ≤ m * up e / down e + 1) × (whole_f (fin false m e) ≡ round binary32 false n 1)
      w = whole-near m e h

      n : ℕ
      n = w.0

      go : (b : Bool) → ltb (m * up e) (n * down e) ≡ b → cond b (sub binary32 (round binary32 false n 1) one_f) (round binary32 false n 1) ≡ round binary32 false (m * up e / down e) 1
      go true g =
          let q = m * up e / down e in
          let lo : q ≤ n = w.1 in
          let hi : n ≤ q + 1 = w.2 in
          let l : m * up e < n * down e = ltb-true (m * up e) (n * down e) g in
          let more : q < n = (div-lt_iff_lt-mul (down_pos e)).1 l in
          let one : n - 1 ≡ q = omega arith in
          sub_is (round binary32 false n 1) one_f n 1 (omega arith) (value n hi) (refl, refl) ∙ ap (λ (z : ℕ). round binary32 false z 1) one
      go false g =
          let q = m * up e / down e in
          let lo : q ≤ n = w.1 in
          let less : n ≤ q = (le-div_iff_mul-le (down_pos e)).1 (ltb-false (m * up e) (n * down e) g) in
          let one : n ≡ q = omega arith in
          ap (λ (z : ℕ). round binary32 false z 1) one

  ceil-at : (b : Bool) → lt (floor_f (fin false m e)) (fin false m e) ≡ b → cond b (add binary32 (floor_f (fin false m e)) one_f) (floor_f (fin false m e)) ≡ ceil_f (fin false m e)
  unfolding floor_f ceil_f
  ceil-at b k = go b (sym (over (m * up e / down e) (omega arith)) ∙ k)
    where
      go : (b : Bool) → ltb (m * up e / down e * down e) (m * up e) ≡ b
          → cond b (add binary32 (round binary32 false (m * up e / down e) 1) one_f) (round binary32 false (m * up e / down e) 1) ≡ round binary32 false ((m * up e + (down e - 1)) / down e) 1
      go true g = next ∙ ap (λ (z : ℕ). round binary32 false z 1) (sym (above-up (m * up e) (down e) (down_pos e) (ltb-true (m * up e / down e * down e) (m * up e) g)))
      go false g = ap (λ (z : ℕ). round binary32 false z 1) (sym (above_same (m * up e) (down e) (down_pos e) (ltb-false (m * up e / down e * down e) (m * up e) g)))

  -- the sum of the whole number at most x and 0.5
  middle : HasValue (add binary32 (round binary32 false (m * up e / down e) 1) half_f) false (m * up e / down e * 2 + 1) 2
  middle =
      let q = m * up e / down e in
      let l = quotient in
      subst (λ (z : Float). HasValue z false (q * 2 + 1) 2) (sym (add_is (round binary32 false q 1) half_f q 1 1 2 (lit< tt) (lit< tt) (value q (omega arith)) (refl, refl)))
      (half-value (q * 2 + 1) (omega arith))

  round-at : (b : Bool) → lt (fin false m e) (add binary32 (floor_f (fin false m e)) half_f) ≡ b → cond b (floor_f (fin false m e)) (add binary32 (floor_f (fin false m e)) one_f) ≡ round_f (fin false m e)
  unfolding floor_f round_f
  round-at b k = go b (sym (lt-is (fin false m e) (add binary32 (round binary32 false (m * up e / down e) 1) half_f) (m * up e) (down e) (m * up e / down e * 2 + 1) 2 (down_pos e) (lit< tt) (refl, refl) middle) ∙ k)
    where
      go : (b : Bool) → ltb (m * up e * 2) ((m * up e / down e * 2 + 1) * down e) ≡ b
          → cond b (round binary32 false (m * up e / down e) 1) (add binary32 (round binary32 false (m * up e / down e) 1) one_f) ≡ round binary32 false ((m * up e + m * up e + down e) / (down e * 2)) 1
      go true g = ap (λ (z : ℕ). round binary32 false z 1) (sym (nearby-same (m * up e) (down e) (down_pos e) (ltb-true (m * up e * 2) ((m * up e / down e * 2 + 1) * down e) g)))
      go false g = next ∙ ap (λ (z : ℕ). round binary32 false z 1) (sym (nearby-up (m * up e) (down e) (down_pos e) (ltb-false (m * up e * 2) ((m * up e / down e * 2 + 1) * down e) g)))

-- by the answer b of the test in the code, with n the whole number at most x
pub floor-small : (x : Float) (b : Bool) → lt zero_f x ≡ true → lt x top_f ≡ true → lt x (whole_f x) ≡ b → cond b (sub binary32 (whole_f x) one_f) (whole_f x) ≡ floor_f x
floor-small x b g h = below_top (λ x. (b : Bool) → lt x (whole_f x) ≡ b → cond b (sub binary32 (whole_f x) one_f) (whole_f x) ≡ floor_f x) floor-at x g h b

pub ceil-small : (x n : Float) (b : Bool) → lt zero_f x ≡ true → lt x top_f ≡ true → n ≡ floor_f x → lt n x ≡ b → cond b (add binary32 n one_f) n ≡ ceil_f x
ceil-small x n b g h e =
    rw e (below_top (λ x. (b : Bool) → lt (floor_f x) x ≡ b → cond b (add binary32 (floor_f x) one_f) (floor_f x) ≡ ceil_f x) ceil-at x g h b)

pub round-small : (x n : Float) (b : Bool) → lt zero_f x ≡ true → lt x top_f ≡ true → n ≡ floor_f x → lt x (add binary32 n half_f) ≡ b → cond b n (add binary32 n one_f) ≡ round_f x
round-small x n b g h e =
    rw e (below_top (λ x. (b : Bool) → lt x (add binary32 (floor_f x) half_f) ≡ b → cond b (floor_f x) (add binary32 (floor_f x) one_f) ≡ round_f x) round-at x g h b)

-- ---- the three rules keep whole numbers, and turn into one another with the sign
abbrev pub floor_by : Bool → ℕ → ℕ → ℕ
floor_by negative = cond negative above below

abbrev pub ceil_by : Bool → ℕ → ℕ → ℕ
ceil_by negative = cond negative below above

abbrev pub round_by : Bool → ℕ → ℕ → ℕ
round_by negative = nearby

pub floor-keeps : Keeps floor_by
floor-keeps true n = omega arith
floor-keeps false n = omega arith

pub ceil-keeps : Keeps ceil_by
ceil-keeps true n = omega arith
ceil-keeps false n = omega arith

pub round_keeps : Keeps round_by
round_keeps s n = omega arith

pub floor-turned : (x : Float) → neg (ceil_f (neg x)) ≡ floor_f x
unfolding floor_f ceil_f
floor-turned = turned floor_by ceil_by swap
  where
    swap : (s : Bool) (a d : ℕ) → ceil_by (not s) a d ≡ floor_by s a d
    swap true a d = refl
    swap false a d = refl

pub ceil-turned : (x : Float) → neg (floor_f (neg x)) ≡ ceil_f x
unfolding floor_f ceil_f
ceil-turned = turned ceil_by floor_by swap
  where
    swap : (s : Bool) (a d : ℕ) → floor_by (not s) a d ≡ ceil_by s a d
    swap true a d = refl
    swap false a d = refl

pub round-turned : (x : Float) → neg (round_f (neg x)) ≡ round_f x
unfolding round_f
round-turned = turned round_by round_by (λ s a d. refl)
