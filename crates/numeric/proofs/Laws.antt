-- Laws of the helpers on binary32 values.
use Rattle.std.proofs.Common.{◌≡◌, ℕ, ◌*◌, ◌%◌, ◌^◌, ◌<◌, ◌≤◌, Bool, true, false, not, ◌&&◌, ◌||◌, T, List, [], ◌∷◌, ◌++◌, ap, eqb, pos, sym, refl, ◌∙◌, subst, le→leb, le-ltb, lt-ltb, cond, arith, ◌+◌}
use lib.Dec.{eqb_refl}
use lib.Ieee.{Float, nan, inf, fin, binary32, up, down, ne, is_nan, of_bits, nan_bits, in_float}
use lib.Ieee.Bits.{nan_bits_is, nan_bits_above}
use Rattle.std.specs.Float.{float_with_sign}
use denote.Param.Members.{Mut}
use denote.Ref.{Bor}
use Rattle.std.specs.Fn.{Called}
use Rattle.std.specs.Iterator.{Drains}
use Rattle.std.specs.List.{FoldsTo}
use Rattle.std.specs.declared.slice.Iter.{Iter}
use Rattle.std.proofs.lemmas.Fn.{fold_over, slice_gives, fronts}
use Rattle.refusal.proofs.Bools.{clash}
use Rattle.numeric.specs.Numeric.{abs_f}
use Rattle.std.proofs.Math.Bool.{and_assoc, or_assoc, and-true, or-false}
use mir.Val.{bool_byte}
use native.Mathlib.Nat.{add-mul}

-- ---- whole numbers as floats
pub index_in : (n : ℕ) → n ≤ 16777216 → T (in_float binary32 (pos n))
unfolding in_float
index_in n h = le→leb n (2 ^ 24) h

-- ---- NaNs and bit patterns
pub differs : (x : Float) → ne x x ≡ is_nan x
unfolding ne is_nan
differs nan = refl
differs (inf true) = refl
differs (inf false) = refl
differs (fin s m e) = go s (eqb (m * up e * down e) (m * up e * down e)) (lib.Ieee.Bits.is_true _ (eqb_refl (m * up e * down e)))
  where
    go : (s b : Bool) → b ≡ true → not (b && (mathlib.Core.Bool.beq s s || eqb (m * up e * down e) 0)) ≡ false
    go true b e = rw e
    go false b e = rw e

pub no_nan : (w : ℕ) → w % 0x8000_0000 ≤ 0x7f80_0000 → T (not (nan_bits binary32 w))
no_nan w h = subst (λ (b : Bool). T (not b)) (sym (nan_bits_above binary32 w ∙ le-ltb 0x7f80_0000 (w % 0x8000_0000) h)) tt

pub nan-only : (x : Float) → is_nan x ≡ true → x ≡ nan
unfolding is_nan
nan-only nan h = refl
nan-only (inf s) h = clash false h refl
nan-only (fin s m e) h = clash false h refl

pub is-nan : (w : ℕ) → 0x7f80_0000 < w % 0x8000_0000 → of_bits binary32 w ≡ nan
is-nan w h = nan-only (of_bits binary32 w) (sym (nan_bits_is binary32 w) ∙ nan_bits_above binary32 w ∙ lt-ltb 0x7f80_0000 (w % 0x8000_0000) h)

-- ---- the absolute value
pub abs_is : (x : Float) → float_with_sign false x ≡ abs_f x
unfolding float_with_sign abs_f
abs_is nan = refl
abs_is (inf s) = refl
abs_is (fin s m e) = refl

-- ---- conjunctions and disjunctions
-- ---- a fold over a slice that asks a test of all of it
module _ {A F : Type 0} (t : A → Bool) (of : List A → Bool) (more : (x : A) (xs : List A) → of (x ∷ xs) ≡ (t x && of xs)) (none : of [] ≡ true)
    (g : Mut F (Bool × (Bor A × Unit {0})) Bool) (f : F)
    (step : (a : Bool) (x : Bor A) (b : Bool) (f' : F) → Called g f (a, (x, tt)) b f' → (b ≡ (a && t x.now)) × (f' ≡ f)) where
  push-all : (xs : List A) (x : A) → of (xs ++ (x ∷ [])) ≡ (of xs && t x)
  push-all [] x = more x [] ∙ ap (λ a. t x && a) none ∙ and-true (t x) ∙ sym (ap (λ a. a && t x) none)
  push-all (y ∷ ys) x = more y (ys ++ (x ∷ [])) ∙ ap (λ a. t y && a) (push-all ys x) ∙ sym (and_assoc (t y) (of ys) (t x)) ∙ sym (ap (λ a. a && t x) (more y ys))

  pub fold-all : (s : Iter A) (r : Bool) → (xs : List (Bor A)) × (f' : F) × Drains fronts s xs × FoldsTo {P = F × Bool} (λ p x q. Called g p.0 (p.1, (x, tt)) q.1 q.0) (f, true) xs (f', r)
      → r ≡ of s.rest.now
  fold-all s r ran = fold_over fronts (λ y. y.now) g (λ ys b. b ≡ of ys) f
      (λ ys a x b f' j k. let u = step a x b f' k in (u.0 ∙ ap (λ a. a && t x.now) j ∙ sym (push-all ys x.now), u.1))
      s _ true r (slice_gives s) (sym none) ran

module _ {A F : Type 0} (t : A → Bool) (of : List A → Bool) (more : (x : A) (xs : List A) → of (x ∷ xs) ≡ (t x || of xs)) (none : of [] ≡ false)
    (g : Mut F (Bool × (Bor A × Unit {0})) Bool) (f : F)
    (step : (a : Bool) (x : Bor A) (b : Bool) (f' : F) → Called g f (a, (x, tt)) b f' → (b ≡ (a || t x.now)) × (f' ≡ f)) where
  push-any : (xs : List A) (x : A) → of (xs ++ (x ∷ [])) ≡ (of xs || t x)
  push-any [] x = more x [] ∙ ap (λ a. t x || a) none ∙ or-false (t x) ∙ sym (ap (λ a. a || t x) none)
  push-any (y ∷ ys) x = more y (ys ++ (x ∷ [])) ∙ ap (λ a. t y || a) (push-any ys x) ∙ sym (or_assoc (t y) (of ys) (t x)) ∙ sym (ap (λ a. a || t x) (more y ys))

  pub fold-any : (s : Iter A) (c r : Bool) → (xs : List (Bor A)) × (f' : F) × Drains fronts s xs × FoldsTo {P = F × Bool} (λ p x q. Called g p.0 (p.1, (x, tt)) q.1 q.0) (f, c) xs (f', r)
      → r ≡ (c || of s.rest.now)
  fold-any s c r ran = fold_over fronts (λ y. y.now) g (λ ys b. b ≡ (c || of ys)) f
      (λ ys a x b f' j k. let u = step a x b f' k in (u.0 ∙ ap (λ a. a || t x.now) j ∙ (or_assoc c (of ys) (t x.now)) ∙ sym (ap (λ a. c || a) (push-any ys x.now)), u.1))
      s _ c r (slice_gives s) (sym (ap (λ a. c || a) none ∙ or-false c)) ran

-- ---- a Boolean as a number, and one product more
pub as_number : (b : Bool) → bool_byte b ≡ cond b 1 0
as_number true = refl
as_number false = refl

pub product-step : (k m : ℕ) → (k + 1) * m ≡ k * m + m
product-step k m = let e : (k + 1) * m ≡ k * m + 1 * m = add-mul k 1 m in omega arith
