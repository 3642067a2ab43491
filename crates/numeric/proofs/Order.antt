-- The order of floats, `lt`, `le` and `eq` as Boolean functions, and the size of a difference, which is the same both ways.
-- Floats that are no NaN order like natural numbers: for any three of them there are three numbers that compare the same
-- way (`three`), and each law of the order is read off such numbers. Where a NaN stands, a premise fails.
use Rattle.std.proofs.Common.{◌≡◌, ℕ, zero, suc, ◌+◌, ◌-◌, ◌*◌, ◌^◌, ◌<◌, ◌≤◌, Bool, true, false, cond, not, ◌&&◌, ◌||◌, eqb, ltb, leb, ◌⊎◌, sym, refl, ap, ◌∙◌, ap₂, inl, inr, ⊎_elim, mul-le-mul_right, mul_assoc, mul_comm, add-mul, add_comm, mul-lt-mul_of_pos_right, mul-pos, zero-mul, mul_right_comm, mul_left_comm, arith, ltb-false, ltb-true, le-ltb, lt-ltb, eq-eqb, ne_eqb, eqb-true, le-leb, leb-false, leb-true}
use mathlib.Core.Bool.{beq}
use native.Mathlib.Nat.{eq_of_mul-eq-mul_right}
use borrow.Author.Tests.{eqb-false, lt-leb}
use lib.Ieee.{Float, nan, inf, fin, Format, prec, emax, low, up, down, below, level, lt, le, eq, is_nan, sub, sum, round, units, odd}
use lib.Ieee.Fits.{down_pos}
use lib.Ieee.Positive.{num, den, den_pos}
use Rattle.numeric.specs.Numeric.{abs_f, max_f}
use Rattle.refusal.proofs.Bools.{clash}
use Rattle.std.proofs.Math.Bool.{and-true}

-- ---- two tests that say the same
same-ltb : (a b c d : ℕ) → (a < b → c < d) → (b ≤ a → d ≤ c) → ltb a b ≡ ltb c d
same-ltb a b c d f g = go (ltb a b) refl
  where
    go : (t : Bool) → ltb a b ≡ t → t ≡ ltb c d
    go true e = sym (lt-ltb c d (f (ltb-true a b e)))
    go false e = sym (le-ltb c d (g (ltb-false a b e)))

same-eqb : (a b c d : ℕ) → (a ≡ b → c ≡ d) → (c ≡ d → a ≡ b) → eqb a b ≡ eqb c d
same-eqb a b c d f g = go (eqb a b) refl
  where
    go : (t : Bool) → eqb a b ≡ t → t ≡ eqb c d
    go true e = sym (eq-eqb c d (f (eqb-true a b e)))
    go false e = sym (ne_eqb c d (λ q. eqb-false a b e (g q)))

pub lt-or-eq : (a b : ℕ) → (ltb a b || eqb a b) ≡ leb a b
lt-or-eq a b = go (ltb a b) (eqb a b) refl refl
  where
    go : (s t : Bool) → ltb a b ≡ s → eqb a b ≡ t → (s || t) ≡ leb a b
    go true t e d = sym (le-leb a b (omega (arith, ltb-true a b e)))
    go false true e d = sym (le-leb a b (omega (arith, eqb-true a b d)))
    go false false e d = sym (lt-leb a b (let n : a ≡ b → ⊥ = eqb-false a b d in omega (arith, ltb-false a b e)))

-- ---- a common factor changes no test
pub mul-ltb : (a b c : ℕ) → 0 < c → ltb (a * c) (b * c) ≡ ltb a b
mul-ltb a b c p = sym (same-ltb a b (a * c) (b * c) (λ h. mul-lt-mul_of_pos_right h p) (λ h. mul-le-mul_right c h))

pub mul-eqb : (a b c : ℕ) → 0 < c → eqb (a * c) (b * c) ≡ eqb a b
mul-eqb a b c p = same-eqb (a * c) (b * c) a b (λ h. eq_of_mul-eq-mul_right c p a b h) (λ h. ap (λ (k : ℕ). k * c) h)

mul-zero-ltb : (a c : ℕ) → 0 < c → ltb 0 (a * c) ≡ ltb 0 a
mul-zero-ltb a c p = ap (λ (z : ℕ). ltb z (a * c)) (sym (zero-mul c)) ∙ mul-ltb 0 a c p

mul-below : (s t : Bool) (a b c : ℕ) → 0 < c → below s (a * c) t (b * c) ≡ below s a t b
mul-below false false a b c p = mul-ltb a b c p
mul-below false true a b c p = refl
mul-below true false a b c p = ap (ltb 0) (sym (add-mul a b c)) ∙ mul-zero-ltb (a + b) c p
mul-below true true a b c p = mul-ltb b a c p

mul-level : (s t : Bool) (a b c : ℕ) → 0 < c → level s (a * c) t (b * c) ≡ level s a t b
mul-level s t a b c p =
    rw (mul-eqb a b c p) (ap (λ (z : Bool). eqb a b && (beq s t || z)) (ap (eqb (a * c)) (sym (zero-mul c)) ∙ mul-eqb a 0 c p))

-- a / p and b / q over one denominator k are u / k and v / k
pub over : (P : ℕ → ℕ → Bool) → ((a b c : ℕ) → 0 < c → P (a * c) (b * c) ≡ P a b)
    → (a p b q k u v : ℕ) → 0 < k → 0 < p → 0 < q → u * p ≡ a * k → v * q ≡ b * k → P (a * q) (b * p) ≡ P u v
over P scale a p b q k u v K Z Q d e =
    sym (scale (a * q) (b * p) k K)
    ∙ ap₂ P (mul_right_comm a q k ∙ ap (λ (z : ℕ). z * q) (sym d) ∙ mul_assoc u p q) (mul_right_comm b p k ∙ ap (λ (z : ℕ). z * p) (sym e) ∙ mul_right_comm v q p ∙ mul_assoc v p q)
    ∙ scale u v (p * q) (mul-pos Z Q)

-- ---- a signed size u below m, as a number from 1 to m + m - 1
abbrev spot : ℕ → Bool → ℕ → ℕ
spot m s u = cond s (m - u) (m + u)

-- a float's place among the numbers to m + m: u is its size in some unit, below m
abbrev place : ℕ → Float → ℕ → ℕ
place m nan u = 0
place m (inf s) u = cond s 0 (m + m)
place m (fin s n e) u = spot m s u

below-place : (m u v : ℕ) (s t : Bool) → u < m → v < m → below s u t v ≡ ltb (spot m s u) (spot m t v)
below-place m u v true true h k = same-ltb v u (m - u) (m - v) (λ l. omega arith) (λ l. omega arith)
below-place m u v true false h k = same-ltb 0 (u + v) (m - u) (m + v) (λ l. omega arith) (λ l. omega arith)
below-place m u v false true h k = sym (le-ltb (m + u) (m - v) (omega arith))
below-place m u v false false h k = same-ltb u v (m + u) (m + v) (λ l. omega arith) (λ l. omega arith)

-- two sizes are both zero
both_zero : (u v : ℕ) → (eqb u v && eqb u 0) ≡ eqb (u + v) 0
both_zero u v = go (eqb u v) (eqb u 0) refl refl
  where
    go : (s t : Bool) → eqb u v ≡ s → eqb u 0 ≡ t → (s && t) ≡ eqb (u + v) 0
    go true true e d = sym (eq-eqb (u + v) 0 (omega (arith, eqb-true u v e, eqb-true u 0 d)))
    go true false e d = sym (ne_eqb (u + v) 0 (λ z. eqb-false u 0 d (omega arith)))
    go false t e d = sym (ne_eqb (u + v) 0 (λ z. eqb-false u v e (omega arith)))

level-place : (m u v : ℕ) (s t : Bool) → u < m → v < m → level s u t v ≡ eqb (spot m s u) (spot m t v)
level-place m u v true true h k = and-true (eqb u v) ∙ same-eqb u v (m - u) (m - v) (λ l. omega arith) (λ l. omega arith)
level-place m u v true false h k = both_zero u v ∙ same-eqb (u + v) 0 (m - u) (m + v) (λ l. omega arith) (λ l. omega arith)
level-place m u v false true h k = both_zero u v ∙ same-eqb (u + v) 0 (m + u) (m - v) (λ l. omega arith) (λ l. omega arith)
level-place m u v false false h k = and-true (eqb u v) ∙ same-eqb u v (m + u) (m + v) (λ l. omega arith) (λ l. omega arith)

-- a finite float's place lies between those of the infinities
inside : (m u : ℕ) (s : Bool) → u < m → (0 < spot m s u) × (spot m s u < m + m)
inside m u true h = (omega arith, omega arith)
inside m u false h = (omega arith, omega arith)

-- the places of two floats whose sizes are u and v in the unit 1 / k
module _ (k m u v : ℕ) (K : 0 < k) (U : u < m) (W : v < m) where
  lt-place : (x y : Float) → is_nan x ≡ false → is_nan y ≡ false → u * den x ≡ num x * k → v * den y ≡ num y * k
      → lt x y ≡ ltb (place m x u) (place m y v)
  unfolding lt is_nan
  lt-place nan y a b d e = clash true refl a
  lt-place (inf s) nan a b d e = clash true refl b
  lt-place (inf true) (inf true) a b d e = refl
  lt-place (inf true) (inf false) a b d e = sym (lt-ltb 0 (m + m) (omega arith))
  lt-place (inf false) (inf true) a b d e = sym (le-ltb (m + m) 0 (omega arith))
  lt-place (inf false) (inf false) a b d e = sym (le-ltb (m + m) (m + m) (omega arith))
  lt-place (inf true) (fin t o j) a b d e = sym (lt-ltb 0 (spot m t v) (inside m v t W).0)
  lt-place (inf false) (fin t o j) a b d e = sym (le-ltb (m + m) (spot m t v) (let h = inside m v t W in omega arith))
  lt-place (fin s n i) nan a b d e = clash true refl b
  lt-place (fin s n i) (inf true) a b d e = sym (le-ltb (spot m s u) 0 (omega arith))
  lt-place (fin s n i) (inf false) a b d e = sym (lt-ltb (spot m s u) (m + m) (inside m u s U).1)
  lt-place (fin s n i) (fin t o j) a b d e =
      over (λ (x y : ℕ). below s x t y) (mul-below s t) (n * up i) (down i) (o * up j) (down j) k u v K (down_pos i) (down_pos j) d e
      ∙ below-place m u v s t U W

  eq-place : (x y : Float) → is_nan x ≡ false → is_nan y ≡ false → u * den x ≡ num x * k → v * den y ≡ num y * k
      → eq x y ≡ eqb (place m x u) (place m y v)
  unfolding eq is_nan
  eq-place nan y a b d e = clash true refl a
  eq-place (inf s) nan a b d e = clash true refl b
  eq-place (inf true) (inf true) a b d e = refl
  eq-place (inf true) (inf false) a b d e = sym (ne_eqb 0 (m + m) (omega arith))
  eq-place (inf false) (inf true) a b d e = sym (ne_eqb (m + m) 0 (omega arith))
  eq-place (inf false) (inf false) a b d e = sym (eq-eqb (m + m) (m + m) refl)
  eq-place (inf true) (fin t o j) a b d e = sym (ne_eqb 0 (spot m t v) (let h = inside m v t W in omega arith))
  eq-place (inf false) (fin t o j) a b d e = sym (ne_eqb (m + m) (spot m t v) (let h = inside m v t W in omega arith))
  eq-place (fin s n i) nan a b d e = clash true refl b
  eq-place (fin s n i) (inf true) a b d e = sym (ne_eqb (spot m s u) 0 (let h = inside m u s U in omega arith))
  eq-place (fin s n i) (inf false) a b d e = sym (ne_eqb (spot m s u) (m + m) (let h = inside m u s U in omega arith))
  eq-place (fin s n i) (fin t o j) a b d e =
      over (λ (x y : ℕ). level s x t y) (mul-level s t) (n * up i) (down i) (o * up j) (down j) k u v K (down_pos i) (down_pos j) d e
      ∙ level-place m u v s t U W

-- ---- two floats compare as two numbers do
pub record Alike (x y : Float) (i j : ℕ) : Type 0 where
  pub lt-is : lt x y ≡ ltb i j
  pub eq_is : eq x y ≡ eqb i j
  pub le_is : le x y ≡ leb i j

alike : (x y : Float) (i j : ℕ) → lt x y ≡ ltb i j → eq x y ≡ eqb i j → Alike x y i j
unfolding le
alike x y i j l e = record { lt-is = l; eq_is = e; le_is = ap₂ ◌||◌ l e ∙ lt-or-eq i j }

pub record Three (x y z : Float) : Type 0 where
  pub i : ℕ
  pub j : ℕ
  pub k : ℕ
  pub xy : Alike x y i j
  pub yx : Alike y x j i
  pub yz : Alike y z j k
  pub xz : Alike x z i k

-- three floats that are no NaN compare as three numbers do
pub three : (x y z : Float) → is_nan x ≡ false → is_nan y ≡ false → is_nan z ≡ false → Three x y z
three x y z a b c =
    let p = den x in
    let q = den y in
    let r = den z in
    let k = p * q * r in
    let u = num x * (q * r) in
    let v = num y * (p * r) in
    let w = num z * (p * q) in
    let m = suc (u + v + w) in
    let K : 0 < k = mul-pos (mul-pos (den_pos x) (den_pos y)) (den_pos z) in
    let U : u < m = omega arith in
    let H : v < m = omega arith in
    let W : w < m = omega arith in
    let d : u * p ≡ num x * k = simp (mul_assoc, mul_comm, mul_left_comm) in
    let e : v * q ≡ num y * k = simp (mul_assoc, mul_comm, mul_left_comm) in
    let f : w * r ≡ num z * k = simp (mul_assoc, mul_comm, mul_left_comm) in
    record {
      i = place m x u;
      j = place m y v;
      k = place m z w;
      xy = alike x y (place m x u) (place m y v) (lt-place k m u v K U H x y a b d e) (eq-place k m u v K U H x y a b d e);
      yx = alike y x (place m y v) (place m x u) (lt-place k m v u K H U y x b a e d) (eq-place k m v u K H U y x b a e d);
      yz = alike y z (place m y v) (place m z w) (lt-place k m v w K H W y z b c e f) (eq-place k m v w K H W y z b c e f);
      xz = alike x z (place m x u) (place m z w) (lt-place k m u w K U W x z a c d f) (eq-place k m u w K U W x z a c d f);
    }

-- what a comparison says of the numbers
lt-true : {x y : Float} {i j : ℕ} → Alike x y i j → lt x y ≡ true → i < j
lt-true {i = i} {j = j} a h = ltb-true i j (sym a.lt-is ∙ h)

le-true : {x y : Float} {i j : ℕ} → Alike x y i j → le x y ≡ true → i ≤ j
le-true {i = i} {j = j} a h = leb-true i j (sym a.le_is ∙ h)

-- and what the numbers say of a comparison
true-lt : {x y : Float} {i j : ℕ} → Alike x y i j → i < j → lt x y ≡ true
true-lt {i = i} {j = j} a h = a.lt-is ∙ lt-ltb i j h

true-le : {x y : Float} {i j : ℕ} → Alike x y i j → i ≤ j → le x y ≡ true
true-le {i = i} {j = j} a h = a.le_is ∙ le-leb i j h

true-eq : {x y : Float} {i j : ℕ} → Alike x y i j → i ≡ j → eq x y ≡ true
true-eq {i = i} {j = j} a h = a.eq_is ∙ eq-eqb i j h

false-lt : {x y : Float} {i j : ℕ} → Alike x y i j → j ≤ i → lt x y ≡ false
false-lt {i = i} {j = j} a h = a.lt-is ∙ le-ltb i j h

false-le : {x y : Float} {i j : ℕ} → Alike x y i j → j < i → le x y ≡ false
false-le {i = i} {j = j} a h = a.le_is ∙ lt-leb i j h

-- ---- only numbers compare
pub lt-no-nan : (a b : Float) → lt a b ≡ true → (is_nan a ≡ false) × (is_nan b ≡ false)
unfolding lt is_nan
lt-no-nan nan b h = clash false h refl
lt-no-nan (inf s) nan h = clash false h refl
lt-no-nan (inf s) (inf t) h = (refl, refl)
lt-no-nan (inf s) (fin t n d) h = (refl, refl)
lt-no-nan (fin s m e) nan h = clash false h refl
lt-no-nan (fin s m e) (inf t) h = (refl, refl)
lt-no-nan (fin s m e) (fin t n d) h = (refl, refl)

pub eq-no-nan : (a b : Float) → eq a b ≡ true → (is_nan a ≡ false) × (is_nan b ≡ false)
unfolding eq is_nan
eq-no-nan nan b h = clash false h refl
eq-no-nan (inf s) nan h = clash false h refl
eq-no-nan (inf s) (inf t) h = (refl, refl)
eq-no-nan (inf s) (fin t n d) h = (refl, refl)
eq-no-nan (fin s m e) nan h = clash false h refl
eq-no-nan (fin s m e) (inf t) h = (refl, refl)
eq-no-nan (fin s m e) (fin t n d) h = (refl, refl)

-- le is one of the two
pub le-cases : (a b : Float) → le a b ≡ true → (lt a b ≡ true) ⊎ (eq a b ≡ true)
unfolding le
le-cases a b h = go (lt a b) (eq a b) h
  where
    go : (s t : Bool) → (s || t) ≡ true → (s ≡ true) ⊎ (t ≡ true)
    go true t h = inl refl
    go false t h = inr h

pub le-no-nan : (a b : Float) → le a b ≡ true → (is_nan a ≡ false) × (is_nan b ≡ false)
le-no-nan a b h = ⊎_elim (lt-no-nan a b) (eq-no-nan a b) (le-cases a b h)

-- ---- one way excludes the other
pub le_not_lt : (a b : Float) → le b a ≡ true → lt a b ≡ false
le_not_lt a b h = let n = le-no-nan b a h in let t = three a b b n.1 n.0 n.0 in false-lt t.xy (le-true t.yx h)

-- the higher of two, where the first is
pub max-above : (a b : Float) → le b a ≡ true → max_f a b ≡ a
unfolding max_f
max-above a b h = rw ((le-no-nan b a h).1, le_not_lt a b h)

pub lt_not_le : (a b : Float) → lt a b ≡ true → le b a ≡ false
lt_not_le a b h = let n = lt-no-nan a b h in let t = three a b b n.0 n.1 n.1 in false-le t.yx (lt-true t.xy h)

pub lt-le : (a b : Float) → lt a b ≡ true → le a b ≡ true
lt-le a b h =
    let n = lt-no-nan a b h in
    let t = three a b b n.0 n.1 n.1 in
    let l = lt-true t.xy h in true-le t.xy (omega arith)

pub lt-asym : (a b : Float) → lt a b ≡ true → lt b a ≡ false
lt-asym a b h = le_not_lt b a (lt-le a b h)

pub lt_irrefl : (a : Float) → lt a a ≡ false
lt_irrefl a = go (lt a a) refl
  where
    go : (t : Bool) → lt a a ≡ t → t ≡ false
    go true h = sym h ∙ lt-asym a a h
    go false h = refl

-- ---- numbers compare one way or the other
pub not-le : (a b : Float) → is_nan a ≡ false → is_nan b ≡ false → le a b ≡ false → lt b a ≡ true
not-le a b p q h = let t = three a b b p q q in true-lt t.yx (leb-false t.i t.j (sym t.xy.le_is ∙ h))

pub not-lt : (a b : Float) → is_nan a ≡ false → is_nan b ≡ false → lt a b ≡ false → le b a ≡ true
not-lt a b p q h = let t = three a b b p q q in true-le t.yx (ltb-false t.i t.j (sym t.xy.lt-is ∙ h))

pub le_total : (a b : Float) → is_nan a ≡ false → is_nan b ≡ false → (le a b ≡ true) ⊎ (le b a ≡ true)
le_total a b p q = go (le a b) refl
  where
    go : (t : Bool) → le a b ≡ t → (le a b ≡ true) ⊎ (le b a ≡ true)
    go true h = inl h
    go false h = inr (lt-le b a (not-le a b p q h))

pub le_antisym : (a b : Float) → le a b ≡ true → le b a ≡ true → eq a b ≡ true
le_antisym a b h k =
    let n = le-no-nan a b h in
    let t = three a b b n.0 n.1 n.1 in
    let l = le-true t.xy h in
    let r = le-true t.yx k in true-eq t.xy (omega arith)

-- ---- from one to the next
pub le_trans : (a b c : Float) → le a b ≡ true → le b c ≡ true → le a c ≡ true
le_trans a b c h k =
    let n = le-no-nan a b h in
    let t = three a b c n.0 n.1 (le-no-nan b c k).1 in
    let l = le-true t.xy h in
    let r = le-true t.yz k in true-le t.xz (omega arith)

pub lt-le-trans : (a b c : Float) → lt a b ≡ true → le b c ≡ true → lt a c ≡ true
lt-le-trans a b c h k =
    let n = lt-no-nan a b h in
    let t = three a b c n.0 n.1 (le-no-nan b c k).1 in
    let l = lt-true t.xy h in
    let r = le-true t.yz k in true-lt t.xz (omega arith)

pub le_lt_trans : (a b c : Float) → le a b ≡ true → lt b c ≡ true → lt a c ≡ true
le_lt_trans a b c h k =
    let n = le-no-nan a b h in
    let t = three a b c n.0 n.1 (lt-no-nan b c k).1 in
    let l = le-true t.xy h in
    let r = lt-true t.yz k in true-lt t.xz (omega arith)

pub lt_trans : (a b c : Float) → lt a b ≡ true → lt b c ≡ true → lt a c ≡ true
lt_trans a b c h k = lt-le-trans a b c h (lt-le b c k)

-- ---- the size of a difference does not depend on the order
-- nor does a rounded size depend on the sign
abs-odd : (d : ℕ) (s : Bool) (q k l : ℕ) → abs_f (odd d s q k l) ≡ abs_f (odd d false q k l)
unfolding abs_f odd
abs-odd d s zero k l = refl
abs-odd d s (suc q) k l = refl

abs-units : (f : Format) (s : Bool) (q k : ℕ) → abs_f (units f s q k) ≡ abs_f (units f false q k)
unfolding abs_f units
abs-units f s q k = go (ltb (q * 2 ^ k) (2 ^ (low f + suc (emax f))))
  where
    go : (b : Bool) → abs_f (cond b (odd (suc (prec f)) s q k (low f)) (inf s)) ≡ abs_f (cond b (odd (suc (prec f)) false q k (low f)) (inf false))
    go true = abs-odd (suc (prec f)) s q k (low f)
    go false = refl

abs-round : (f : Format) (d : ℕ) (s t : Bool) (n : ℕ) → abs_f (round f s n d) ≡ abs_f (round f t n d)
unfolding round
abs-round f d s t n = abs-units f s _ _ ∙ sym (abs-units f t _ _)

-- R s n is the size n rounded with the sign s
module _ (R : Bool → ℕ → Float) (same : (s t : Bool) (n : ℕ) → abs_f (R s n) ≡ abs_f (R t n)) (a b : ℕ) where
  apart : (i j k l : Bool) → abs_f (cond (ltb a b) (R i (b - a)) (R j (a - b))) ≡ abs_f (cond (ltb b a) (R k (a - b)) (R l (b - a)))
  apart i j k l = go (ltb a b) (ltb b a) refl refl
    where
      go : (s t : Bool) → ltb a b ≡ s → ltb b a ≡ t → abs_f (cond s (R i (b - a)) (R j (a - b))) ≡ abs_f (cond t (R k (a - b)) (R l (b - a)))
      go true true d e = absurd (omega (arith, ltb-true a b d, ltb-true b a e))
      go true false d e = same i l (b - a)
      go false true d e = same j k (a - b)
      go false false d e = same j l (a - b) ∙ ap (λ (n : ℕ). abs_f (R l n)) (omega (arith, ltb-false a b d, ltb-false b a e))

  either : (s t : Bool)
      → abs_f (cond (beq s (not t)) (R s (a + b)) (cond (ltb a b) (R (not t) (b - a)) (R (s && ltb b a) (a - b))))
      ≡ abs_f (cond (beq t (not s)) (R t (b + a)) (cond (ltb b a) (R (not s) (a - b)) (R (t && ltb a b) (b - a))))
  either true true = apart false (ltb b a) false (ltb a b)
  either true false = same true false (a + b) ∙ ap (λ (n : ℕ). abs_f (R false n)) (add_comm a b)
  either false true = same false true (a + b) ∙ ap (λ (n : ℕ). abs_f (R true n)) (add_comm a b)
  either false false = apart true false true false

abs-sum : (f : Format) (s t : Bool) (a b c d : ℕ) → c ≡ d → abs_f (sum f s a (not t) b c) ≡ abs_f (sum f t b (not s) a d)
unfolding sum
abs-sum f s t a b c d e = either (λ (g : Bool) (n : ℕ). round f g n c) (abs-round f c) a b s t ∙ ap (λ (k : ℕ). abs_f (sum f t b (not s) a k)) e

pub abs-sub : (f : Format) (a b : Float) → abs_f (sub f a b) ≡ abs_f (sub f b a)
unfolding sub abs_f
abs-sub f nan nan = refl
abs-sub f nan (inf t) = refl
abs-sub f nan (fin t n d) = refl
abs-sub f (inf s) nan = refl
abs-sub f (inf true) (inf true) = refl
abs-sub f (inf true) (inf false) = refl
abs-sub f (inf false) (inf true) = refl
abs-sub f (inf false) (inf false) = refl
abs-sub f (inf s) (fin t n d) = refl
abs-sub f (fin s m e) nan = refl
abs-sub f (fin s m e) (inf t) = refl
abs-sub f (fin s m e) (fin t n d) = abs-sum f s t (m * up e * down d) (n * up d * down e) (down e * down d) (down d * down e) (mul_comm (down e) (down d))
