-- The baseline of an apex is not above its half height, which is not above the apex; and on either side there is a reading that is not
-- above the baseline. In units of the smallest value (numeric/proofs/Bounds.antt).
use mathlib.Core.Path.{◌≡◌, refl, sym, ap, ◌∙◌, subst}
use mathlib.Core.Bool.{Bool, true, false, cond}
use mathlib.Core.List.{List, [], ◌∷◌}
use Prim.Native.Nat.{ℕ, zero, suc, ◌+◌, ◌-◌, ◌*◌, ◌/◌, ◌^◌, ◌≤◌, ◌<◌}
use native.Mathlib.Nat.{sub-le, le_trans, le_of_eq, lt_of_le_of_lt, mul_comm, mul_assoc, mul-one, mul-le-mul_left}
use native.Mathlib.Omega.{arith}
use borrow.Author.Tests.{ltb-true, ltb-false}
use lib.Dec.{ltb, lit<, lit≤}
use lib.Pow.{pow-add}
use lib.ListN.{length, drop, length-drop}
use lib.Seq.{get_or-drop}
use lib.Ieee.{Float, nan, inf, fin, lt, is_nan, size, of_bits}
use lib.Ieee.Digits.{size-lt, size-le, size_reaches}
use Rattle.numeric.specs.Arith.{◌⊖◌, ◌⊗◌, ½, at}
use Rattle.numeric.specs.Numeric.{max_f}
use Rattle.numeric.proofs.Bounds.{one, mag, Num, Rep, AtMost, rep, rep_at, lt-mag, limit-num, add-at-most, add-at-least, sub-at-most, mul-at-most}
use Rattle.row_apex.specs.Apex.{left_of, right_of, up_to_higher, least, baseline, prominence, half_height}

-- ---- the higher of two numbers
pub no_nan : (x : Float) → Num x → is_nan x ≡ false
unfolding is_nan
no_nan nan h = absurd h.clear
no_nan (inf s) h = absurd h.clear
no_nan (fin s m e) h = refl

pub record Higher (a b m : Float) : Type 0 where
  pub num : Num m
  pub first : mag a ≤ mag m
  pub second : mag b ≤ mag m
  pub most : (B : ℕ) → mag a ≤ B → mag b ≤ B → mag m ≤ B

pub higher : (a b : Float) → Num a → Num b → Higher a b (max_f a b)
unfolding max_f
higher a b p q = rw (no_nan a p) (go (lt a b) (lt-mag a b p q))
  where
    go : (t : Bool) → t ≡ ltb (mag a) (mag b) → Higher a b (cond t b a)
    go true e = let l = ltb-true (mag a) (mag b) (sym e) in record { num = q; first = omega arith; second = omega arith; most = λ B h k. k }
    go false e = let l = ltb-false (mag a) (mag b) (sym e) in record { num = p; first = omega arith; second = omega arith; most = λ B h k. h }

-- ---- the least of some readings is one of them
abbrev AllOf : (Float → Type 0) → List Float → Type 0
AllOf S [] = Unit {0}
AllOf S (v ∷ vs) = S v × AllOf S vs

all_left : (S : Float → Type 0) (y : List Float) (i : ℕ) → ((k : ℕ) → k < i → S (at y k)) → AllOf S (left_of y i)
unfolding left_of
all_left S y zero f = tt
all_left S y (suc i) f = (f i (omega arith), all_left S y i (λ k h. f k (omega arith)))

all_of : (S : Float → Type 0) (xs : List Float) → ((k : ℕ) → k < length xs → S (at xs k)) → AllOf S xs
all_of S [] f = tt
all_of S (v ∷ vs) f = (f 0 (omega arith), all_of S vs (λ k h. f (suc k) (omega arith)))

all_right : (S : Float → Type 0) (y : List Float) (r : ℕ) → ((k : ℕ) → r ≤ k → k < length y → S (at y k)) → AllOf S (drop r y)
all_right S y r f =
    all_of S (drop r y) (λ k h. subst S (sym (get_or-drop r y k nan)) (f (r + k) (omega arith) (let n : length (drop r y) ≡ length y - r = length-drop r y in omega arith)))

least-of : (S : Float → Type 0) → ((x : Float) → S x → Num x) → (apex : Float) (top : ℕ) (xs : List Float) (m : Float) → S m → mag m ≤ top → AllOf S xs
    → S (least m (up_to_higher apex xs)) × (mag (least m (up_to_higher apex xs)) ≤ top)
unfolding least up_to_higher
least-of S num apex top [] m s l a = (s, l)
least-of S num apex top (v ∷ vs) m s l a = next (lt v m) (lt-mag v m (num v a.0) (num m s)) (λ n p q. least-of S num apex top vs n p q a.1)
  where
    Low : Float → Type 0
    Low x = S x × (mag x ≤ top)

    stop : (c : Bool) (n : Float) → Low n → Low (least n (up_to_higher apex vs)) → Low (least n (cond c [] (up_to_higher apex vs)))
    stop true n here on = here
    stop false n here on = on

    next : (b : Bool) → b ≡ ltb (mag v) (mag m) → ((n : Float) → S n → mag n ≤ top → Low (least n (up_to_higher apex vs))) → Low (least (cond b v m) (cond (lt apex v) [] (up_to_higher apex vs)))
    next true e on = let d = ltb-true (mag v) (mag m) (sym e) in let k : mag v ≤ top = omega arith in stop (lt apex v) v (a.0, k) (on v a.0 k)
    next false e on = stop (lt apex v) m (s, l) (on m s l)

-- ---- half of a number, and a difference, by whole units
rep-half : (n : ℕ) → Rep n → Rep ((n + 1) / 2)
rep-half n r = go r.j refl
  where
    under : (n + 1) / 2 < 2 ^ 277
    under = lt_of_le_of_lt (most n) r.under
      where
        most : (n : ℕ) → (n + 1) / 2 ≤ n
        most n = omega arith

    go : (j : ℕ) → r.j ≡ j → Rep ((n + 1) / 2)
    go zero e =
        let f : r.q < 16777216 = r.few in
        let i : n ≡ r.q * 1 = r.is ∙ ap (λ (k : ℕ). r.q * 2 ^ k) e in
        record { q = (n + 1) / 2; j = 0; is = sym (mul-one _); few = omega arith; under = under }
    go (suc j) e =
        let i : n ≡ r.q * 2 ^ j * 2 = r.is ∙ ap (λ (k : ℕ). r.q * 2 ^ k) (e ∙ omega arith) ∙ ap (λ (z : ℕ). r.q * z) (pow-add 2 j 1) ∙ sym (mul_assoc r.q (2 ^ j) 2) in
        record { q = r.q; j = j; is = omega arith; few = r.few; under = under }

pub num-half : Num ½
num-half = limit-num 0x3f00_0000 (lit< tt)

pub two-halves : mag ½ * 2 ≡ one
unfolding mag one of_bits
two-halves = refl

pub half_at_most : (x : Float) → Num x → AtMost (½ ⊗ x) ((mag x + 1) / 2)
half_at_most x p =
    let H = (mag x + 1) / 2 in
    let l : mag x ≤ 2 * H = omega arith in
    mul-at-most ½ x H num-half p (rep-half (mag x) (rep x p))
    (le_trans (mul-le-mul_left (mag ½) l) (le_of_eq (sym (mul_assoc (mag ½) 2 H) ∙ ap (λ (z : ℕ). z * H) two-halves ∙ mul_comm one H)))

-- a rounded difference is at most twice the difference
sub-twice : (x y : Float) → Num x → Num y → mag y ≤ mag x → mag x < 2 ^ 253 → AtMost (x ⊖ y) ((mag x - mag y) * 2)
sub-twice x y p q l u = go (mag x - mag y) refl (size (mag x - mag y)) refl
  where
    go : (D : ℕ) → mag x - mag y ≡ D → (k : ℕ) → size D ≡ k → AtMost (x ⊖ y) (D * 2)
    go zero e k s = sub-at-most x y 0 p q (rep_at 0 0 (lit< tt) (lit≤ tt)) l (le_of_eq e)
    go (suc D) e zero s = absurd (let h : suc D < 2 ^ 0 = subst (λ (z : ℕ). suc D < 2 ^ z) s (size-lt (suc D)) in omega arith)
    go (suc D) e (suc k) s =
        let h : suc D < 2 ^ suc k = subst (λ (z : ℕ). suc D < 2 ^ z) s (size-lt (suc D)) in
        let g : 2 ^ k ≤ suc D = size_reaches (suc D) k (omega arith) in
        let two : 2 ^ suc k ≡ 2 ^ k * 2 = ap (λ (z : ℕ). 2 ^ z) (omega arith) ∙ pow-add 2 k 1 in
        let f : size (suc D) ≤ 253 = size-le (suc D) 253 (lt_of_le_of_lt (le_trans (le_of_eq (sym e)) (sub-le (mag x) (mag y))) u) in
        let r = sub-at-most x y (1 * 2 ^ suc k) p q (rep_at 1 (suc k) (lit< tt) (omega arith)) l (omega arith) in
        (r.0, omega (arith, r.1))

-- ---- an apex
-- x is a reading at such a place
pub record Reading (y : List Float) (P : ℕ → Type 0) (x : Float) : Type 0 where
  pub place : ℕ
  pub side : P place
  pub within : place < length y
  pub is : x ≡ at y place

module _ (y : List Float) (nums : (k : ℕ) → k < length y → Num (at y k)) (i : ℕ) (inside : i < length y) where
  abbrev apex : Float
  apex = at y i

  lows : (P : ℕ → Type 0) → P i → (xs : List Float) → AllOf (Reading y P) xs → Reading y P (least apex (up_to_higher apex xs)) × (mag (least apex (up_to_higher apex xs)) ≤ mag apex)
  lows P h xs a =
      least-of (Reading y P) (λ x r. subst Num (sym r.is) (nums r.place r.within)) apex (mag apex) xs apex (record { place = i; side = h; within = inside; is = refl }) (le_of_eq refl) a

  pub record Base (b : Float) : Type 0 where
    pub num : Num b
    pub low : mag b ≤ mag (at y i)
    pub left : (k : ℕ) × (k ≤ i) × (mag (at y k) ≤ mag b)
    pub right : (k : ℕ) × (i ≤ k) × (k < length y) × (mag (at y k) ≤ mag b)

  pub base-is : Base (baseline y i)
  unfolding baseline
  base-is =
      let l = lows (λ k. k ≤ i) (le_of_eq refl) (left_of y i) (all_left (Reading y (λ k. k ≤ i)) y i (λ k h. record { place = k; side = omega arith; within = omega arith; is = refl })) in
      let r = lows (λ k. i ≤ k) (le_of_eq refl) (right_of y i) (all_right (Reading y (λ k. i ≤ k)) y (i + 1) (λ k g h. record { place = k; side = omega arith; within = h; is = refl })) in
      let L = l.0 in
      let R = r.0 in
      let a = least apex (up_to_higher apex (left_of y i)) in
      let b = least apex (up_to_higher apex (right_of y i)) in
      let m = higher a b (subst Num (sym L.is) (nums L.place L.within)) (subst Num (sym R.is) (nums R.place R.within)) in
      record {
        num = m.num;
        low = m.most (mag apex) l.1 r.1;
        left = (L.place, L.side, le_trans (le_of_eq (ap mag (sym L.is))) m.first);
        right = (R.place, R.side, R.within, le_trans (le_of_eq (ap mag (sym R.is))) m.second);
      }

  pub prominence-at-most : AtMost (prominence y i) (mag (at y i))
  unfolding prominence
  prominence-at-most = sub-at-most apex (baseline y i) (mag apex) (nums i inside) base-is.num (rep apex (nums i inside)) base-is.low (sub-le (mag apex) (mag (baseline y i)))

  pub record Half (h : Float) : Type 0 where
    pub num : Num h
    pub low : mag (baseline y i) ≤ mag h
    pub high : mag h ≤ mag (at y i)

  pub half_is : mag (at y i) < 2 ^ 253 → Half (half_height y i)
  unfolding half_height prominence
  half_is u =
      let b = baseline y i in
      let p = sub-twice apex b (nums i inside) base-is.num base-is.low u in
      let h = half_at_most (apex ⊖ b) p.0 in
      let s = add-at-most b (½ ⊗ (apex ⊖ b)) (mag apex) base-is.num h.0 (rep apex (nums i inside)) (fit (mag apex) (mag b) (mag (apex ⊖ b)) (mag (½ ⊗ (apex ⊖ b))) base-is.low p.1 h.1) in
      record { num = s.0; low = (add-at-least b (½ ⊗ (apex ⊖ b)) base-is.num h.0 s.0).0; high = s.1 }
    where
      fit : (A B P H : ℕ) → B ≤ A → P ≤ (A - B) * 2 → H ≤ (P + 1) / 2 → B + H ≤ A
      fit A B P H a b c = omega arith
