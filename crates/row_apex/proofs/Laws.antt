-- One step of each walk from an apex, as the code's loops take it.
use mathlib.Core.Path.{◌≡◌, refl, sym, ap, ◌∙◌}
use mathlib.Core.Bool.{Bool, true, false, cond, not}
use mathlib.Core.List.{List, [], ◌∷◌}
use mathlib.Core.Logic.{⊎_elim}
use Prim.Native.Nat.{ℕ, zero, suc, ◌≤◌, ◌<◌, ◌-◌, ◌+◌}
use native.Mathlib.Omega.{arith}
use native.Mathlib.Nat.{add-zero, eq-or-lt_of_le}
use native.Mathlib.Numerals.{add-one, sub-one}
use lib.ListN.{length, get_or, drop, take}
use lib.Seq.{drop-cons, get_or-take, get_or-drop}
use lib.Ieee.{Float, nan, inf, fin, lt, le, is_nan}
use Rattle.numeric.specs.Arith.{at}
use borrow.Author.Tests.{not-true, ltb-true, ltb-false}
use lib.Dec.{ltb}
use Rattle.refusal.proofs.Bools.{clash, both}
use Rattle.numeric.specs.Numeric.{max_f}
use Rattle.numeric.proofs.Order.{lt-no-nan, le_not_lt, not-lt, lt-le, le_trans, lt-le-trans, max-above}
use Rattle.row_apex.specs.Apex.{none_below, left_of, up_to_higher, least, run_above, left_foot, right_foot}

-- ---- what is left of an index, and right of it
pub left-cons : (y : List Float) (l : ℕ) → 0 < l → left_of y l ≡ at y (l - 1) ∷ left_of y (l - 1)
unfolding left_of
left-cons y l h = let e : l ≡ suc (l - 1) = omega arith in ap (left_of y) e

pub left-none : (y : List Float) (l : ℕ) → l ≤ 0 → left_of y l ≡ []
unfolding left_of
left-none y l h = let e : l ≡ 0 = omega arith in rw e

pub right-cons : (y : List Float) (r : ℕ) → r < length y → drop r y ≡ at y r ∷ drop (r + 1) y
right-cons y r h = rw (add-one, drop-cons y r nan)

-- ---- the least reading as far as a higher one
-- nothing is left
pub walk_none : (apex m : Float) (xs : List Float) → xs ≡ [] → least m (up_to_higher apex xs) ≡ m
unfolding least up_to_higher
walk_none apex m xs e = rw e

-- the next reading is not above the apex, and the walk goes on; n is the least so far
pub walk-on : (apex m n v : Float) (xs vs : List Float) → xs ≡ v ∷ vs → cond (lt v m) v m ≡ n → lt apex v ≡ false
    → least m (up_to_higher apex xs) ≡ least n (up_to_higher apex vs)
unfolding least up_to_higher
walk-on apex m n v xs vs e d h = rw (e, h) (ap (λ (k : Float). least k (up_to_higher apex vs)) d)

-- the next reading is above the apex, and the walk ends
pub walk-stop : (apex m n v : Float) (xs vs : List Float) → xs ≡ v ∷ vs → cond (lt v m) v m ≡ n → lt apex v ≡ true
    → least m (up_to_higher apex xs) ≡ n
unfolding least up_to_higher
walk-stop apex m n v xs vs e d h = rw (e, h, d)

-- no float is below minus infinity
pub none-below-all : (y : List Float) → none_below (inf true) y ≡ true
unfolding none_below lt
none-below-all [] = refl
none-below-all (nan ∷ vs) = none-below-all vs
none-below-all (inf true ∷ vs) = none-below-all vs
none-below-all (inf false ∷ vs) = none-below-all vs
none-below-all (fin s m e ∷ vs) = none-below-all vs

-- neither a part of the row nor what is left of an index goes below the ground
pub ground-drop : (low : Float) (y : List Float) (r : ℕ) → none_below low y ≡ true → none_below low (drop r y) ≡ true
unfolding none_below
ground-drop low y zero h = h
ground-drop low [] (suc r) h = refl
ground-drop low (v ∷ vs) (suc r) h = ground-drop low vs r (both (not (lt v low)) h).1

at-ground : (low : Float) (y : List Float) (k : ℕ) → none_below low y ≡ true → lt (at y k) low ≡ false
unfolding none_below lt
at-ground low [] k h = refl
at-ground low (v ∷ vs) zero h = not-true (lt v low) (both (not (lt v low)) h).0
at-ground low (v ∷ vs) (suc k) h = at-ground low vs k (both (not (lt v low)) h).1

pub ground-left : (low : Float) (y : List Float) (l : ℕ) → none_below low y ≡ true → none_below low (left_of y l) ≡ true
unfolding left_of none_below
ground-left low y zero h = refl
ground-left low y (suc l) h = rw (at-ground low y l h) (ground-left low y l h)

-- what is not below the ground is not below what the ground is not below
above-ground : (low v m : Float) → is_nan low ≡ false → lt v low ≡ false → lt low m ≡ false → lt v m ≡ false
above-ground low v m n p q = go (lt v m) refl
  where
    go : (t : Bool) → lt v m ≡ t → lt v m ≡ false
    go true e = let k = lt-no-nan v m e in clash (lt v m) e (le_not_lt v m (le_trans m low v (not-lt low m n k.1 q) (not-lt v low k.0 n p)))
    go false e = e

-- at the ground a walk finds nothing lower
pub walk-ground : (low apex m : Float) (xs : List Float) → is_nan low ≡ false → none_below low xs ≡ true → lt low m ≡ false → least m (up_to_higher apex xs) ≡ m
unfolding least up_to_higher none_below
walk-ground low apex m [] n h g = refl
walk-ground low apex m (v ∷ vs) n h g =
    let p = both (not (lt v low)) h in
    let stays : cond (lt v m) v m ≡ m = rw (above-ground low v m n (not-true (lt v low) p.0) g) in
    ap (λ (k : Float). least k (cond (lt apex v) [] (up_to_higher apex vs))) stays ∙ go (lt apex v) (walk-ground low apex m vs n p.1 g)
  where
    go : (b : Bool) → least m (up_to_higher apex vs) ≡ m → least m (cond b [] (up_to_higher apex vs)) ≡ m
    go true r = refl
    go false r = r

-- ---- the higher of two lows
low-stays : (top m : Float) (xs : List Float) → le m top ≡ true → le (least m xs) top ≡ true
unfolding least
low-stays top m [] h = h
low-stays top m (v ∷ vs) h = low-stays top (cond (lt v m) v m) vs (go (lt v m) refl)
  where
    go : (b : Bool) → lt v m ≡ b → le (cond b v m) top ≡ true
    go true e = lt-le v top (lt-le-trans v m top e h)
    go false e = h

-- a walk that has come down to one low finds nothing that counts beside it
pub walk-enough : (top apex m : Float) (xs : List Float) → le m top ≡ true → max_f top (least m (up_to_higher apex xs)) ≡ max_f top m
walk-enough top apex m xs h = max-above top (least m (up_to_higher apex xs)) (low-stays top m (up_to_higher apex xs) h) ∙ sym (max-above top m h)

-- ---- the feet
pub run_on : (h v : Float) (xs vs : List Float) → xs ≡ v ∷ vs → lt h v ≡ true → run_above h xs ≡ suc (run_above h vs)
unfolding run_above
run_on h v xs vs e t = rw (e, t)

pub run-stop : (h v : Float) (xs vs : List Float) → xs ≡ v ∷ vs → lt h v ≡ false → run_above h xs ≡ 0
unfolding run_above
run-stop h v xs vs e t = rw (e, t)

pub left-on : (y : List Float) (h : Float) (w : ℕ) → 0 < w → lt h (at y w) ≡ true → left_foot y h w ≡ left_foot y h (w - 1)
unfolding left_of
left-on y h w p t =
    let e : suc (w - 1) ≡ w = omega arith in
    let s : run_above h (left_of y (suc w)) ≡ suc (run_above h (left_of y w)) = run_on h (at y w) (left_of y (suc w)) (left_of y w) refl t in
    omega (arith, s, ap (λ (k : ℕ). run_above h (left_of y k)) e)

pub left-stop : (y : List Float) (h : Float) (w : ℕ) → lt h (at y w) ≡ false → left_foot y h w ≡ w
unfolding left_of
left-stop y h w t = omega (arith, run-stop h (at y w) (left_of y (suc w)) (left_of y w) refl t)

pub right-on : (y : List Float) (h : Float) (w : ℕ) → w < length y → lt h (at y w) ≡ true → right_foot y h w ≡ right_foot y h (w + 1)
right-on y h w p t = omega (arith, run_on h (at y w) (drop w y) (drop (w + 1) y) (right-cons y w p) t)

pub right-stop : (y : List Float) (h : Float) (w : ℕ) → w < length y → lt h (at y w) ≡ false → right_foot y h w ≡ w
right-stop y h w p t = omega (arith, run-stop h (at y w) (drop w y) (drop (w + 1) y) (right-cons y w p) t)

-- ---- what lies between the feet of an apex is above the height
pub left-above : (y : List Float) (h : Float) (i k : ℕ) → left_foot y h i < k → k ≤ i → lt h (at y k) ≡ true
left-above y h zero k a b = absurd (omega arith)
left-above y h (suc i) k a b = go (left-above y h i k) (lt h (at y (suc i))) refl
  where
    go : (left_foot y h i < k → k ≤ i → lt h (at y k) ≡ true) → (t : Bool) → lt h (at y (suc i)) ≡ t → lt h (at y k) ≡ true
    go again false e = absurd (omega (arith, left-stop y h (suc i) e))
    go again true e =
        let f : left_foot y h (suc i) ≡ left_foot y h i = rw sub-one at (left-on y h (suc i) (omega arith) e) in
        ⊎_elim (λ s. rw s e) (λ l. again (omega (arith, f)) (omega arith)) (eq-or-lt_of_le b)

right-first : (y : List Float) (h : Float) (i : ℕ) → i < right_foot y h i → lt h (at y i) ≡ true
right-first y h i a = go (lt h (at y i)) refl
  where
    go : (t : Bool) → lt h (at y i) ≡ t → t ≡ true
    go false e = absurd (omega (arith, right-stop y h i (omega arith) e))
    go true e = refl

right-above-by : (y : List Float) (h : Float) (n i : ℕ) → i + n < right_foot y h i → lt h (at y (i + n)) ≡ true
right-above-by y h zero i a = rw add-zero (right-first y h i (omega arith))
right-above-by y h (suc n) i a =
    let e : i + suc n ≡ i + 1 + n = omega arith in
    rw e (right-above-by y h n (i + 1) (omega (arith, right-on y h i (omega arith) (right-first y h i (omega arith)))))

pub right-above : (y : List Float) (h : Float) (i k : ℕ) → i ≤ k → k < right_foot y h i → lt h (at y k) ≡ true
right-above y h i k a b =
    let e : i + (k - i) ≡ k = omega arith in
    rw e at (right-above-by y h (k - i) i (omega arith))

-- over readings above the height the foot stays the same
left-run : (y : List Float) (h : Float) (n a : ℕ) → ((k : ℕ) → a < k → k ≤ a + n → lt h (at y k) ≡ true) → left_foot y h (a + n) ≡ left_foot y h a
left-run y h zero a up = rw add-zero
left-run y h (suc n) a up =
    let e : a + suc n - 1 ≡ a + n = omega arith in
    left-on y h (a + suc n) (omega arith) (up (a + suc n) (omega arith) (omega arith)) ∙ ap (left_foot y h) e ∙ left-run y h n a (λ k p q. up k p (omega arith))

right-run : (y : List Float) (h : Float) (n a : ℕ) → a + n ≤ length y → ((k : ℕ) → a ≤ k → k < a + n → lt h (at y k) ≡ true) → right_foot y h a ≡ right_foot y h (a + n)
right-run y h zero a l up = rw add-zero
right-run y h (suc n) a l up =
    let e : a + n + 1 ≡ a + suc n = omega arith in
    right-run y h n a (omega arith) (λ k p q. up k p (omega arith)) ∙ right-on y h (a + n) (omega arith) (up (a + n) (omega arith) (omega arith)) ∙ ap (right_foot y h) e

-- The right foot is the first reading that is not above the height, of the part of the row from i on, or the row's end.
module _ (y part : List Float) (h : Float) (i : ℕ) (inside : i < length y) (is : part ≡ take (length y - i) (drop i y)) where
  from : (k : ℕ) → i + k < length y → lt h (get_or part k nan) ≡ lt h (at y (i + k))
  from k l = ap (lt h) (ap (λ (p : List Float). get_or p k nan) is ∙ get_or-take (length y - i) (drop i y) k nan (omega arith) ∙ get_or-drop i y k nan)

  up_from : (n : ℕ) → i + n ≤ length y → ((k : ℕ) → k < n → lt h (get_or part k nan) ≡ true) → right_foot y h i ≡ right_foot y h (i + n)
  up_from n l up = right-run y h n i l (λ k p q. let e : i + (k - i) ≡ k = omega arith in rw e at (sym (from (k - i) (omega arith)) ∙ up (k - i) (omega arith)))

  pub right-found : (n : ℕ) → i + n < length y → ((k : ℕ) → k < n → lt h (get_or part k nan) ≡ true) → lt h (get_or part n nan) ≡ false → i + n ≡ right_foot y h i
  right-found n l up stop = sym (up_from n (omega arith) up ∙ right-stop y h (i + n) l (sym (from n l) ∙ stop))

  pub right-none : ((k : ℕ) → k < length y - i → lt h (get_or part k nan) ≡ true) → length y - 1 ≡ right_foot y h i
  right-none up =
      let e : i + (length y - 1 - i) ≡ length y - 1 = omega arith in
      omega (arith, up_from (length y - 1 - i) (omega arith) (λ k p. up k (omega arith)), ap (right_foot y h) e)

-- so that the feet of an apex are those of every sample strictly between them
pub record Feet (y : List Float) (h : Float) (i j : ℕ) : Type 0 where
  pub left : left_foot y h j ≡ left_foot y h i
  pub right : right_foot y h j ≡ right_foot y h i

pub feet-same : (y : List Float) (h : Float) (i j : ℕ) → left_foot y h i < j → j < right_foot y h i → i < length y → Feet y h i j
feet-same y h i j a b l = go (ltb i j) refl
  where
    go : (t : Bool) → ltb i j ≡ t → Feet y h i j
    go true t =
        let p : i < j = ltb-true i j t in
        let e : i + (j - i) ≡ j = omega arith in
        record {
          left = rw e at (left-run y h (j - i) i (λ k q r. right-above y h i k (omega arith) (omega arith)));
          right = sym (rw e at (right-run y h (j - i) i (omega arith) (λ k q r. right-above y h i k (omega arith) (omega arith))));
        }
    go false t =
        let p : j ≤ i = ltb-false i j t in
        let e : j + (i - j) ≡ i = omega arith in
        record {
          left = sym (rw e at (left-run y h (i - j) j (λ k q r. left-above y h i k (omega arith) (omega arith))));
          right = rw e at (right-run y h (i - j) j (omega arith) (λ k q r. left-above y h i k (omega arith) (omega arith)));
        }
