-- Sums of lengths, weights list by list, and products that are not worked out.
use mathlib.Core.Path.{◌≡◌, refl, sym, ap, ◌∙◌}
use mathlib.Core.Bool.{Bool, true, false, ◌&&◌}
use mathlib.Core.List.{List}
use Prim.Native.Nat.{ℕ, suc, ◌≤◌, ◌<◌, ◌+◌, ◌-◌, min}
use native.Mathlib.Numerals.{add-one}
use native.Mathlib.Omega.{arith}
use borrow.Author.Tests.{leb-true, leb-false, eq-eqb, ne_eqb, eqb-true, eqb-false}
use lib.Dec.{leb, eqb}
use lib.ListN.{length, get_or, take, drop, drop_of_length-le}
use lib.Seq.{drop-cons, take_all}
use lib.Ieee.{Float}
use Rattle.row_smoothing.specs.Smoothing.{sound_weights}
use Rattle.expand_numbers.specs.ExpandNumber.{sum_of, all_weights}
use Rattle.std.proofs.Math.Bool.{and_assoc, and-true}

-- ---- sums
pub sum_step : (l : List ℕ) (i : ℕ) → i < length l → sum_of (drop i l) ≡ get_or l i 0 + sum_of (drop (i + 1) l)
unfolding sum_of
sum_step l i h = rw (add-one, drop-cons l i 0)

pub sum-end : (l : List ℕ) (i : ℕ) → length l ≤ i → sum_of (drop i l) ≡ 0
unfolding sum_of
sum-end l i h = rw (drop_of_length-le l h)

-- ---- sums against a number
pub sum_less : (a b n : ℕ) → n < a → eqb (a + b) n ≡ false
sum_less a b n h = ne_eqb (a + b) n (λ k. absurd (omega arith))

pub sum-on : (a b n : ℕ) → a ≤ n → eqb (a + b) n ≡ eqb b (n - a)
sum-on a b n h = go (eqb b (n - a)) refl
  where
    go : (c : Bool) → eqb b (n - a) ≡ c → eqb (a + b) n ≡ c
    go true e = eq-eqb (a + b) n (omega (arith, eqb-true b (n - a) e))
    go false e = ne_eqb (a + b) n (λ k. eqb-false b (n - a) e (omega arith))

pub zero-eqb : (n : ℕ) → eqb 0 n ≡ eqb n 0
zero-eqb n = go (eqb n 0) refl
  where
    go : (b : Bool) → eqb n 0 ≡ b → eqb 0 n ≡ b
    go true e = eq-eqb 0 n (sym (eqb-true n 0 e))
    go false e = ne_eqb 0 n (λ k. eqb-false n 0 e (sym k))

-- ---- weights list by list
take-cut : {A : Type 0} (l : List A) (k n : ℕ) → k ≡ min n (length l) → take k l ≡ take n l
take-cut l k n e = go (leb n (length l)) refl
  where
    go : (b : Bool) → leb n (length l) ≡ b → take k l ≡ take n l
    go true h = let f : k ≡ n = omega (arith, leb-true n (length l) h) in rw f
    go false h =
        let m = leb-false n (length l) h in
        let f : k ≡ length l = omega arith in
        rw f (take_all (length l) l (omega arith) ∙ sym (take_all n l (omega arith)))

drop-cut : {A : Type 0} (l : List A) (n k : ℕ) → k ≡ min n (length l) → drop n l ≡ drop k l
drop-cut l n k e = go (leb n (length l)) refl
  where
    go : (b : Bool) → leb n (length l) ≡ b → drop n l ≡ drop k l
    go true h = let f : k ≡ n = omega (arith, leb-true n (length l) h) in rw f
    go false h =
        let m = leb-false n (length l) h in
        let f : k ≡ length l = omega arith in
        let past : length l ≤ n = omega arith in let own : length l ≤ length l = omega arith in rw f (drop_of_length-le l past ∙ sym (drop_of_length-le l own))

pub weights-step : (l : List ℕ) (ws : List Float) (i mid : ℕ) (all : Bool) → i < length l → mid ≡ min (get_or l i 0) (length ws)
    → (all && all_weights (drop i l) ws) ≡ ((all && sound_weights (take mid ws)) && all_weights (drop (i + 1) l) (drop mid ws))
unfolding all_weights
weights-step l ws i mid all h e =
    rw (add-one, drop-cons l i 0)
    (ap (λ (b : Bool). all && b) (ap (λ (x : List Float). sound_weights x && all_weights (drop (suc i) l) (drop (get_or l i 0) ws)) (sym (take-cut ws mid (get_or l i 0) e))
    ∙ ap (λ (x : List Float). sound_weights (take mid ws) && all_weights (drop (suc i) l) x) (drop-cut ws (get_or l i 0) mid e))
    ∙ sym (and_assoc all (sound_weights (take mid ws)) (all_weights (drop (suc i) l) (drop mid ws))))

pub weights-end : (l : List ℕ) (ws : List Float) (i : ℕ) (all : Bool) → length l ≤ i → (all && all_weights (drop i l) ws) ≡ all
unfolding all_weights
weights-end l ws i all h = rw (drop_of_length-le l h) (and-true all)
