-- Floats with a clear sign order like their bit patterns, infinity included.
use Rattle.std.proofs.Common.{◌≡◌, ℕ, zero, suc, ◌+◌, ◌-◌, ◌*◌, ◌/◌, ◌%◌, ◌^◌, ◌<◌, ◌≤◌, Bool, true, false, cond, not, ◌&&◌, ◌||◌, T, eqb, ltb, leb, List, [], ◌∷◌, length, take, drop, ℤ, sym, refl, ap, ◌∙◌, subst, inl, inr, le_trans, le_of_eq, lt_of_le_of_lt, mul-le-mul_right, suc-mul, eq-or-lt_of_le, le-div_iff_mul-le, zero-add, mul_right_comm, arith, pow_pos, pow-add, ltb-false, ltb-true, le-ltb, lt-ltb, eqb-true, le-leb, leb-true}
use native.Mathlib.Nat.{pow-succ'}
use mathlib.Core.Bool.{beq}
use borrow.Author.Tests.{lt-leb}
use lib.Ieee.{Float, nan, inf, fin, Format, binary32, prec, emax, low, up, down, size, lt, le, eq, neg, is_nan, to_bits, of_bits, odd, units, round, sum}
use lib.Ieee.Digits.{size-lt, size-le, size_reaches}
use lib.Ieee.Fits.{kept-lt, down_pos}
use lib.Ieee.Scale.{finite}
use lib.Ieee.Nearest.{div_mono}
use lib.Ieee.Bits.{of_bits-to_bits, to_bits-of_bits, nan_bits_is}
use Rattle.numeric.specs.Arith.{𝟎, ½, at}
use Rattle.numeric.specs.Numeric.{in_range, all_in_range}
use Rattle.numeric.specs.Plain.{Plain, AllFit, AllPlain, LeAsPatterns, LtAsPatterns}
use Rattle.refusal.proofs.Bools.{clash, both}
use Rattle.numeric.proofs.Laws.{no_nan as no-nan-word, is-nan}
use Rattle.numeric.proofs.Order.{lt-le, lt_irrefl, not-le, not-lt}

-- ---- the pattern of n units of the smallest value, in a format of p digits behind the leading one: it grows with n
abbrev pub pattern : ℕ → ℕ → ℕ
pattern p n = (size n - suc p) * 2 ^ p + n / 2 ^ (size n - suc p)

fewer : (x y p : ℕ) → x ≤ y → x - p ≤ y - p
fewer x y p h = omega arith

all_in_use : (z p : ℕ) → 0 < z - suc p → p + (z - suc p) < z
all_in_use z p h = omega arith

join : (a b h q r : ℕ) → q < 2 * h → h ≤ r → h + a ≤ b → a + q ≤ b + r
join a b h q r Q R B = omega arith

more : (a q r : ℕ) → q ≤ r → a + q ≤ a + r
more a q r h = omega arith

least_size : (a b : ℕ) → a < b → 0 < b
least_size a b h = omega arith

pub pattern-mono : (p a b : ℕ) → a ≤ b → pattern p a ≤ pattern p b
pattern-mono p a b h =
    let j = size a - suc p in
    let k = size b - suc p in
    let H = 2 ^ p in
    elim (eq-or-lt_of_le (fewer (size a) (size b) (suc p) (size-le a (size b) (lt_of_le_of_lt h (size-lt b))))) [
      | inl e ↦ subst (λ (x : ℕ). x * H + a / 2 ^ x ≤ k * H + b / 2 ^ k) (sym e) (more (k * H) (a / 2 ^ k) (b / 2 ^ k) (div_mono a (2 ^ k) b (2 ^ k) (pow_pos k) (pow_pos k) (mul-le-mul_right (2 ^ k) h)))
      | inr l ↦
          join (j * H) (k * H) H (a / 2 ^ j) (b / 2 ^ k)
          (subst (λ (x : ℕ). a / 2 ^ j < x) (pow-succ' 2 p) (kept-lt (suc p) a))
          ((le-div_iff_mul-le (pow_pos k)).1 (le_trans (le_of_eq (sym (pow-add 2 p k))) (size_reaches b (p + k) (all_in_use (size b) p (least_size j k l)))))
          (le_trans (le_of_eq (turn (suc j * H) (j * H) H (suc-mul j H))) (mul-le-mul_right H l))
    ]
  where
    turn : (x y z : ℕ) → x ≡ y + z → z + y ≡ x
    turn x y z e = omega arith

-- ---- patterns of finite values
pub plus-bits : (m : ℕ) (e : ℤ) → to_bits binary32 (fin false m e) ≡ pattern 23 (m * up e * 2 ^ 149 / down e)
unfolding to_bits
plus-bits m e = ap (λ (z : ℕ). z + m * up e * 2 ^ 149 / down e / 2 ^ (size (m * up e * 2 ^ 149 / down e) - 24)) (zero-add ((size (m * up e * 2 ^ 149 / down e) - 24) * 2 ^ 23))

high : (a b : ℕ) → 0x8000_0000 ≤ 0x8000_0000 + a + b
high a b = omega arith

minus-bits : (m : ℕ) (e : ℤ) → 0x8000_0000 ≤ to_bits binary32 (fin true m e)
unfolding to_bits
minus-bits m e = high _ _

-- at most infinity's pattern
pub no_nan : (x : Float) → in_range 0x7f80_0000 x ≡ true → is_nan x ≡ false
unfolding in_range to_bits is_nan
no_nan nan h = clash false h refl
no_nan (inf s) h = refl
no_nan (fin s m e) h = refl

pub no_minus : (m : ℕ) (e : ℤ) → in_range 0x7f80_0000 (fin true m e) ≡ true → ⊥
unfolding in_range
no_minus m e h = let l = leb-true (to_bits binary32 (fin true m e)) 0x7f80_0000 h in let k = minus-bits m e in omega arith

no-minus-inf : in_range 0x7f80_0000 (inf true) ≡ true → ⊥
unfolding in_range to_bits
no-minus-inf h = clash false h refl

to-inf : (x : Float) → in_range 0x7f80_0000 x ≡ true → to_bits binary32 x ≤ to_bits binary32 (inf false)
unfolding in_range to_bits
to-inf x h = leb-true (to_bits binary32 x) 0x7f80_0000 h

at_most : (a b : ℕ) (c : Bool) → (ltb a b || (eqb a b && c)) ≡ true → a ≤ b
at_most a b c h = go (ltb a b) refl (eqb a b) refl h
  where
    go : (s : Bool) → ltb a b ≡ s → (t : Bool) → eqb a b ≡ t → (s || (t && c)) ≡ true → a ≤ b
    go true d t e h = omega (arith, ltb-true a b d)
    go false d true e h = omega (arith, eqb-true a b e)
    go false d false e h = clash false h refl

scaled : (a b c d l : ℕ) → a * d ≤ b * c → a * l * d ≤ b * l * c
scaled a b c d l h = le_trans (le_of_eq (mul_right_comm a l d)) (le_trans (mul-le-mul_right l h) (le_of_eq (mul_right_comm b c l)))

pub bits_mono : (x y : Float) → in_range 0x7f80_0000 x ≡ true → in_range 0x7f80_0000 y ≡ true → le x y ≡ true → to_bits binary32 x ≤ to_bits binary32 y
unfolding le lt eq
bits_mono nan y p q h = clash false h refl
bits_mono (inf true) y p q h = absurd (no-minus-inf p)
bits_mono (inf false) nan p q h = clash false h refl
bits_mono (inf false) (inf true) p q h = absurd (no-minus-inf q)
bits_mono (inf false) (inf false) p q h = omega arith
bits_mono (inf false) (fin t n d) p q h = clash false h refl
bits_mono (fin true m e) y p q h = absurd (no_minus m e p)
bits_mono (fin false m e) nan p q h = clash false h refl
bits_mono (fin false m e) (inf true) p q h = absurd (no-minus-inf q)
bits_mono (fin false m e) (inf false) p q h = to-inf (fin false m e) p
bits_mono (fin false m e) (fin true n d) p q h = absurd (no_minus n d q)
bits_mono (fin false m e) (fin false n d) p q h =
    let l : m * up e * down d ≤ n * up d * down e = at_most (m * up e * down d) (n * up d * down e) _ h in
    subst (λ (z : ℕ). z ≤ to_bits binary32 (fin false n d)) (sym (plus-bits m e))
    (subst (λ (z : ℕ). pattern 23 (m * up e * 2 ^ 149 / down e) ≤ z) (sym (plus-bits n d))
    (pattern-mono 23 (m * up e * 2 ^ 149 / down e) (n * up d * 2 ^ 149 / down d)
    (div_mono (m * up e * 2 ^ 149) (down e) (n * up d * 2 ^ 149) (down d) (down_pos e) (down_pos d) (scaled (m * up e) (n * up d) (down e) (down d) (2 ^ 149) l))))

-- ---- the law: two floats from plus zero to infinity compare as their patterns do
bits-strict : (x y : Float) → Plain x → Plain y → lt x y ≡ true → to_bits binary32 x < to_bits binary32 y
bits-strict x y p q h = elim (eq-or-lt_of_le (bits_mono x y p.ranged q.ranged (lt-le x y h))) [
  | inl e ↦
      let s : x ≡ y = sym (of_bits-to_bits binary32 x p.held) ∙ ap (of_bits binary32) e ∙ of_bits-to_bits binary32 y q.held in
      clash (lt x y) h (ap (lt x) (sym s) ∙ lt_irrefl x)
  | inr l ↦ l
]

pub le-bits : LeAsPatterns
le-bits x y p q = go (le x y) refl
  where
    go : (b : Bool) → le x y ≡ b → b ≡ leb (to_bits binary32 x) (to_bits binary32 y)
    go true e = sym (le-leb _ _ (bits_mono x y p.ranged q.ranged e))
    go false e = sym (lt-leb _ _ (bits-strict y x q p (not-le x y (no_nan x p.ranged) (no_nan y q.ranged) e)))

pub lt-bits : LtAsPatterns
lt-bits x y p q = go (lt x y) refl
  where
    go : (b : Bool) → lt x y ≡ b → b ≡ ltb (to_bits binary32 x) (to_bits binary32 y)
    go true e = sym (lt-ltb _ _ (bits-strict x y p q e))
    go false e = sym (le-ltb _ _ (bits_mono y x q.ranged p.ranged (not-lt x y (no_nan x p.ranged) (no_nan y q.ranged) e)))

-- below infinity's pattern there are only finite floats
pub below_inf : (limit : ℕ) (x : Float) → limit < 0x7f80_0000 → in_range limit x ≡ true → T (finite x)
unfolding in_range to_bits
below_inf limit nan l h = let k = leb-true 0x7fc0_0000 limit h in absurd (omega arith)
below_inf limit (inf true) l h = let k = leb-true 0xff80_0000 limit h in absurd (omega arith)
below_inf limit (inf false) l h = let k = leb-true 0x7f80_0000 limit h in absurd (omega arith)
below_inf limit (fin s m e) l h = tt

-- ---- what a check of readings gives
pub wider : (limit : ℕ) (x : Float) → limit ≤ 0x7f80_0000 → in_range limit x ≡ true → in_range 0x7f80_0000 x ≡ true
unfolding in_range
wider limit x l h = let w = leb-true (to_bits binary32 x) limit h in le-leb (to_bits binary32 x) 0x7f80_0000 (omega arith)

pub range_at : (limit : ℕ) (y : List Float) (i : ℕ) → all_in_range limit y ≡ true → i < length y → in_range limit (at y i) ≡ true
unfolding all_in_range
range_at limit [] i h k = absurd (omega arith)
range_at limit (x ∷ xs) zero h k = (both (in_range limit x) h).0
range_at limit (x ∷ xs) (suc i) h k = range_at limit xs i (both (in_range limit x) h).1 (omega arith)

pub all_plain : (limit : ℕ) (y : List Float) → limit ≤ 0x7f80_0000 → all_in_range limit y ≡ true → AllFit y → AllPlain y
all_plain limit y l h f i k = record { held = f i k; ranged = wider limit (at y i) l (range_at limit y i h k) }

pub all-wider : (limit top : ℕ) (y : List Float) → limit ≤ top → all_in_range limit y ≡ true → all_in_range top y ≡ true
unfolding all_in_range in_range
all-wider limit top [] l h = refl
all-wider limit top (x ∷ xs) l h =
    let b = both (leb (to_bits binary32 x) limit) h in
    let w = leb-true (to_bits binary32 x) limit b.0 in
    rw (le-leb (to_bits binary32 x) top (omega arith), all-wider limit top xs l b.1)

-- of a part of a row
pub all_take : (limit n : ℕ) (y : List Float) → all_in_range limit y ≡ true → all_in_range limit (take n y) ≡ true
unfolding all_in_range
all_take limit zero y h = refl
all_take limit (suc n) [] h = refl
all_take limit (suc n) (x ∷ xs) h =
    let b = both (in_range limit x) h in rw (b.0, all_take limit n xs b.1)

pub all_drop : (limit n : ℕ) (y : List Float) → all_in_range limit y ≡ true → all_in_range limit (drop n y) ≡ true
unfolding all_in_range
all_drop limit zero y h = h
all_drop limit (suc n) [] h = refl
all_drop limit (suc n) (x ∷ xs) h = all_drop limit n xs (both (in_range limit x) h).1

-- ---- words and the floats that are read from them

-- a word that is no NaN's is the word of its float
pub word_back : (w : ℕ) → w < 2 ^ 32 → w % 0x8000_0000 ≤ 0x7f80_0000 → to_bits binary32 (of_bits binary32 w) ≡ w
word_back w h k = to_bits-of_bits binary32 w h (subst (λ (b : Bool). T (not b)) (nan_bits_is binary32 w) (no-nan-word w k))

nan-word : to_bits binary32 nan ≡ 0x7fc0_0000
unfolding to_bits
nan-word = refl

-- a test that no NaN's word passes is the same of a word and of the word of its float
pub same_test : (t : ℕ → Bool) (w : ℕ) → w < 2 ^ 32 → ((v : ℕ) → 0x7f80_0000 < v % 0x8000_0000 → t v ≡ false) → t (to_bits binary32 (of_bits binary32 w)) ≡ t w
same_test t w h n = go (ltb 0x7f80_0000 (w % 0x8000_0000)) refl
  where
    go : (b : Bool) → ltb 0x7f80_0000 (w % 0x8000_0000) ≡ b → t (to_bits binary32 (of_bits binary32 w)) ≡ t w
    go true e = let k = ltb-true _ _ e in rw (is-nan w k, nan-word) (n 0x7fc0_0000 (omega arith) ∙ sym (n w k))
    go false e = rw (word_back w h (ltb-false _ _ e))

-- a float in a range
pub range-word : (limit w : ℕ) → w < 2 ^ 32 → limit < 0x7f80_0000 → in_range limit (of_bits binary32 w) ≡ leb w limit
unfolding in_range
range-word limit w h g = same_test (λ v. leb v limit) w h (λ v k. lt-leb v limit (omega arith))

-- ---- rounding gives numbers, and a sign is the highest bit
pub odd_number : (d : ℕ) (s : Bool) (q k l : ℕ) → is_nan (odd d s q k l) ≡ false
unfolding odd is_nan
odd_number d s zero k l = refl
odd_number d s (suc q) k l = refl

pub units_number : (f : Format) (s : Bool) (q k : ℕ) → is_nan (units f s q k) ≡ false
unfolding units is_nan
units_number f s q k = go (ltb (q * 2 ^ k) (2 ^ (low f + suc (emax f))))
  where
    go : (b : Bool) → is_nan (cond b (odd (suc (prec f)) s q k (low f)) (inf s)) ≡ false
    go true = odd_number (suc (prec f)) s q k (low f)
    go false = refl

pub round_number : (f : Format) (s : Bool) (a b : ℕ) → is_nan (round f s a b) ≡ false
unfolding round
round_number f s a b = units_number f s _ _

pub sum_number : (f : Format) (s : Bool) (a : ℕ) (t : Bool) (b c : ℕ) → is_nan (sum f s a t b c) ≡ false
unfolding sum
sum_number f s a t b c = go (beq s t) (ltb a b)
  where
    go : (x y : Bool) → is_nan (cond x (round f s (a + b) c) (cond y (round f t (b - a) c) (round f (s && ltb b a) (a - b) c))) ≡ false
    go true y = round_number f s (a + b) c
    go false true = round_number f t (b - a) c
    go false false = round_number f (s && ltb b a) (a - b) c

pub minus_plus : (m : ℕ) (e : ℤ) → to_bits binary32 (fin true m e) ≡ 0x8000_0000 + to_bits binary32 (fin false m e)
unfolding to_bits
minus_plus m e = regroup _ _
  where
    regroup : (a b : ℕ) → 0x8000_0000 + a + b ≡ 0x8000_0000 + (0 + a + b)
    regroup a b = omega arith

pub zero_number : is_nan 𝟎 ≡ false
unfolding of_bits is_nan
zero_number = refl

pub minus_half : neg ½ ≡ of_bits binary32 0xbf00_0000
unfolding neg of_bits
minus_half = refl
