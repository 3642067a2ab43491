-- Results with their sign turned, and bounds on the size of results of either sign.
use mathlib.Core.Path.{◌≡◌, refl, sym, ap, ◌∙◌, subst}
use mathlib.Core.Bool.{Bool, true, false, not, cond, ◌&&◌, beq}
use Prim.Native.Nat.{ℕ, ◌+◌, ◌-◌, ◌*◌, ◌≤◌, ◌<◌}
use native.Mathlib.Nat.{le_trans, le_of_eq, mul_comm, mul-le-mul_right, mul-pos}
use native.Mathlib.Omega.{arith}
use borrow.Author.Tests.{ltb-true, lt-ltb, le-ltb}
use lib.Dec.{ltb}
use lib.IntN.{ℤ}
use lib.Ieee.{Float, nan, inf, fin, binary32, up, down, unlike, lt, neg, round, sum, add, sub, mul, div}
use lib.Ieee.Fits.{down_pos}
use Rattle.numeric.specs.Arith.{◌⊕◌, ◌⊖◌, ◌⊗◌, ◌⊘◌}
use Rattle.numeric.specs.Numeric.{abs_f}
use Rattle.numeric.proofs.Bounds.{one, mag, Num, Rep, AtMost, value, joined, lt-mag, round-at-most}
use Rattle.rounding.proofs.Laws.{neg-round}

-- ---- a rounded fraction with its sign turned
-- ---- differences, products and quotients
sum-turned : (a b c d : ℕ) → a < b → c ≡ d → sum binary32 false a true b c ≡ neg (sum binary32 false b true a d)
unfolding sum
sum-turned a b c d l e = rw (lt-ltb a b l, le-ltb b a (omega arith), e) (sym (neg-round false (b - a) d))

fin-turned : (m n : ℕ) (e d : ℤ) → lt (fin false m e) (fin false n d) ≡ true → fin false m e ⊖ fin false n d ≡ neg (fin false n d ⊖ fin false m e)
unfolding sub add neg lt
fin-turned m n e d t =
    sum-turned (m * up e * down d) (n * up d * down e) (down e * down d) (down d * down e) (ltb-true (m * up e * down d) (n * up d * down e) t) (mul_comm (down e) (down d))

pub sub-turned : (x y : Float) → Num x → Num y → mag x < mag y → x ⊖ y ≡ neg (y ⊖ x)
sub-turned nan y p q h = absurd p.clear
sub-turned (inf s) y p q h = absurd p.clear
sub-turned (fin true m e) y p q h = absurd p.clear
sub-turned (fin false m e) nan p q h = absurd q.clear
sub-turned (fin false m e) (inf t) p q h = absurd q.clear
sub-turned (fin false m e) (fin true n d) p q h = absurd q.clear
sub-turned (fin false m e) (fin false n d) p q h =
    fin-turned m n e d (lt-mag (fin false m e) (fin false n d) p q ∙ lt-ltb (mag (fin false m e)) (mag (fin false n d)) h)

pub add_turned : (x y : Float) → x ⊕ neg y ≡ x ⊖ y
unfolding sub
add_turned x y = refl

unlike-turned : (s t : Bool) → unlike (not s) (not t) ≡ unlike s t
unlike-turned true true = refl
unlike-turned true false = refl
unlike-turned false true = refl
unlike-turned false false = refl

pub div-turned : (x y : Float) → neg x ⊘ neg y ≡ x ⊘ y
unfolding div neg
div-turned nan y = refl
div-turned (inf s) nan = refl
div-turned (inf s) (inf t) = refl
div-turned (inf s) (fin t n d) = ap inf (unlike-turned s t)
div-turned (fin s m e) nan = refl
div-turned (fin s m e) (inf t) = rw (unlike-turned s t)
div-turned (fin s m e) (fin t n d) = rw (unlike-turned s t)

pub mul-turned : (x y : Float) → Num x → Num y → x ⊗ neg y ≡ neg (x ⊗ y)
unfolding mul neg
mul-turned nan y p q = absurd p.clear
mul-turned (inf s) y p q = absurd p.clear
mul-turned (fin true m e) y p q = absurd p.clear
mul-turned (fin false m e) nan p q = absurd q.clear
mul-turned (fin false m e) (inf t) p q = absurd q.clear
mul-turned (fin false m e) (fin true n d) p q = absurd q.clear
mul-turned (fin false m e) (fin false n d) p q = sym (neg-round false (m * up e * (n * up d)) (down e * down d))

-- ---- the size of a result of either sign
pub abs-num : (x : Float) → Num x → abs_f x ≡ x
unfolding abs_f
abs-num nan p = absurd p.clear
abs-num (inf s) p = absurd p.clear
abs-num (fin true m e) p = absurd p.clear
abs-num (fin false m e) p = refl

pub abs_neg : (x : Float) → abs_f (neg x) ≡ abs_f x
unfolding abs_f neg
abs_neg nan = refl
abs_neg (inf s) = refl
abs_neg (fin s m e) = refl

round-size : (s : Bool) (a c B : ℕ) → 0 < c → Rep B → a * one ≤ B * c → AtMost (abs_f (round binary32 s a c)) B
round-size false a c B C r h = let k = round-at-most a c B C r h in subst (λ (x : Float). AtMost x B) (sym (abs-num (round binary32 false a c) k.0)) k
round-size true a c B C r h =
    let k = round-at-most a c B C r h in
    subst (λ (x : Float). AtMost x B) (sym (ap abs_f (sym (neg-round false a c)) ∙ abs_neg (round binary32 false a c) ∙ abs-num (round binary32 false a c) k.0)) k

sum-size : (s t : Bool) (a b c B : ℕ) → 0 < c → Rep B → (a + b) * one ≤ B * c → AtMost (abs_f (sum binary32 s a t b c)) B
unfolding sum
sum-size s t a b c B C r h = go (beq s t) (ltb a b)
  where
    less : (n : ℕ) → n ≤ a + b → n * one ≤ B * c
    less n l = le_trans (mul-le-mul_right one l) h

    go : (x y : Bool) → AtMost (abs_f (cond x (round binary32 s (a + b) c) (cond y (round binary32 t (b - a) c) (round binary32 (s && ltb b a) (a - b) c)))) B
    go true y = round-size s (a + b) c B C r h
    go false true = round-size t (b - a) c B C r (less (b - a) (omega arith))
    go false false = round-size (s && ltb b a) (a - b) c B C r (less (a - b) (omega arith))

pub add-size : (x y : Float) (B : ℕ) → Num (abs_f x) → Num (abs_f y) → Rep B → mag (abs_f x) + mag (abs_f y) ≤ B → AtMost (abs_f (x ⊕ y)) B
unfolding add abs_f
add-size nan y B p q r h = absurd p.clear
add-size (inf s) y B p q r h = absurd p.clear
add-size (fin s m e) nan B p q r h = absurd q.clear
add-size (fin s m e) (inf t) B p q r h = absurd q.clear
add-size (fin s m e) (fin t n d) B p q r h =
    sum-size s t (m * up e * down d) (n * up d * down e) (down e * down d) B (mul-pos (down_pos e) (down_pos d)) r
    (le_trans (le_of_eq (joined (m * up e) (n * up d) (down e) (down d) (mag (fin false m e)) (mag (fin false n d)) one (sym (value (fin false m e) p).1) (sym (value (fin false n d) q).1)))
    (mul-le-mul_right (down e * down d) h))

pub sub-size : (x y : Float) (B : ℕ) → Num (abs_f x) → Num (abs_f y) → Rep B → mag (abs_f x) + mag (abs_f y) ≤ B → AtMost (abs_f (x ⊖ y)) B
sub-size x y B p q r h =
    subst (λ (z : Float). AtMost (abs_f z) B) (add_turned x y)
    (add-size x (neg y) B p (subst Num (sym (abs_neg y)) q) r (subst (λ (z : Float). mag (abs_f x) + mag z ≤ B) (sym (abs_neg y)) h))
