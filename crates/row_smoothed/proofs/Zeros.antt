-- A row of zeros and NaNs has only zeros and NaNs when it is smoothed, by any weights, and no candidate; so nothing of a row of zeros is
-- listed.
use mathlib.Core.Path.{◌≡◌, refl, sym, ap, ◌∙◌}
use mathlib.Core.Bool.{Bool, true, false, cond, ◌&&◌, ◌||◌, beq}
use mathlib.Core.List.{List, [], ◌∷◌, ◌++◌}
use Prim.Native.Nat.{ℕ, zero, suc, ◌+◌, ◌-◌, ◌*◌, ◌≤◌, ◌<◌}
use native.Mathlib.Nat.{mul-pos, zero-mul, mul-zero}
use native.Mathlib.Omega.{arith}
use borrow.Author.Tests.{eqb-true, eqb-false, ltb-true, ltb-false}
use lib.Dec.{leb, ltb, eqb}
use lib.ListN.{length, get_or-eq_default}
use lib.Ieee.{Float, nan, inf, fin, binary32, up, down, unlike, round, sum, add, mul, div, lt, eq, of_bits, size, span, climb, units, odd}
use lib.Ieee.Fits.{up_pos, down_pos}
use lib.Ieee.Scale.{round_same}
use Rattle.numeric.specs.Arith.{◌⊕◌, ◌⊗◌, ◌⊘◌, 𝟎, at}
use Rattle.refusal.proofs.Bools.{clash, both}
use Rattle.row_smoothing.specs.Smoothing.{radius, meets, weighted, met, smoothed_at, smoothed, normalised}
use Rattle.row_smoothing.proofs.Laws.{at-tab, smoothed-length}
use Rattle.row_apex.specs.Apex.{is_candidate, candidates_to, candidates}
use Rattle.row_apex.proofs.Candidates.{none_more}
use Rattle.row_params.specs.declared.ImDetectParams.{ImDetectParams}
use Rattle.row_search.specs.Qualifying.{highest_reading, reaches, that_qualify, qualifying, kept}
use Rattle.row_search.specs.Suppression.{keep_all}
use Rattle.row_smoothed.specs.SmoothRow.{searched, all_zero, NoneOfZeros}
use Rattle.std.proofs.Math.Bool.{and_assoc, and-true}

-- ---- zeros and NaNs

-- a zero, of either sign, or a NaN
unfoldable pub idle : Float → Bool
idle nan = true
idle (inf s) = false
idle (fin s m e) = eqb m 0

round-zero : (s : Bool) (b : ℕ) → 0 < b → idle (round binary32 s 0 b) ≡ true
unfolding idle round size span climb units odd
round-zero s b h = rw (round_same binary32 s 0 b 0 1 h (omega arith) (zero-mul 1 ∙ sym (zero-mul b)))

-- a product with a zero or a NaN
mul-idle : (x y : Float) → idle y ≡ true → idle (x ⊗ y) ≡ true
unfolding idle mul
mul-idle nan y h = refl
mul-idle (inf s) nan h = refl
mul-idle (inf s) (inf t) h = clash false h refl
mul-idle (inf s) (fin t n d) h = rw h
mul-idle (fin s m e) nan h = refl
mul-idle (fin s m e) (inf t) h = clash false h refl
mul-idle (fin s m e) (fin t n d) h =
    let z : m * up e * (n * up d) ≡ 0 = ap (λ (k : ℕ). m * up e * (k * up d)) (eqb-true n 0 h) ∙ ap (λ (k : ℕ). m * up e * k) (zero-mul (up d)) ∙ mul-zero (m * up e) in
    rw z (round-zero _ _ (mul-pos (down_pos e) (down_pos d)))

nothing : (m a b : ℕ) → eqb m 0 ≡ true → m * a * b ≡ 0
nothing m a b h = ap (λ (k : ℕ). k * a * b) (eqb-true m 0 h) ∙ ap (λ (k : ℕ). k * b) (zero-mul a) ∙ zero-mul b

-- a sum of two of them
add-idle : (x y : Float) → idle x ≡ true → idle y ≡ true → idle (x ⊕ y) ≡ true
unfolding idle add sum
add-idle nan y g h = refl
add-idle (inf s) y g h = clash false g refl
add-idle (fin s m e) nan g h = refl
add-idle (fin s m e) (inf t) g h = clash false h refl
add-idle (fin s m e) (fin t n d) g h =
    rw (nothing m (up e) (down d) g, nothing n (up d) (down e) h) (go (beq s t))
  where
    p : 0 < down e * down d
    p = mul-pos (down_pos e) (down_pos d)

    go : (b : Bool) → idle (cond b (round binary32 s (0 + 0) (down e * down d)) (cond (ltb 0 0) (round binary32 t (0 - 0) (down e * down d)) (round binary32 (s && ltb 0 0) (0 - 0) (down e * down d)))) ≡ true
    go true = round-zero s (down e * down d) p
    go false = round-zero _ (down e * down d) p

pos_of : (n : ℕ) → (n ≡ 0 → ⊥) → 0 < n
pos_of zero h = absurd (h refl)
pos_of (suc n) h = omega arith

-- a quotient of one of them by anything
div-idle : (x y : Float) → idle x ≡ true → idle (x ⊘ y) ≡ true
unfolding idle div
div-idle nan y h = refl
div-idle (inf s) y h = clash false h refl
div-idle (fin s m e) nan h = refl
div-idle (fin s m e) (inf t) h = refl
div-idle (fin s m e) (fin t n d) h = rw (nothing m (up e) (down d) h) (go (eqb n 0) refl)
  where
    go : (b : Bool) → eqb n 0 ≡ b → idle (cond b (cond (eqb m 0) nan (inf (unlike s t))) (round binary32 (unlike s t) 0 (n * up d * down e))) ≡ true
    go true k = rw h
    go false k =
        let p : 0 < n = pos_of n (eqb-false n 0 k) in
        round-zero (unlike s t) (n * up d * down e) (mul-pos (mul-pos p (up_pos d)) (down_pos e))

-- none of two is below the other
lt-idle : (x y : Float) → idle x ≡ true → idle y ≡ true → lt x y ≡ false
unfolding idle lt
lt-idle nan y g h = refl
lt-idle (inf s) y g h = clash false g refl
lt-idle (fin s m e) nan g h = refl
lt-idle (fin s m e) (inf t) g h = clash false h refl
lt-idle (fin s m e) (fin t n d) g h = rw (nothing m (up e) (down d) g, nothing n (up d) (down e) h) (go s t)
  where
    go : (s t : Bool) → lib.Ieee.below s 0 t 0 ≡ false
    go true true = refl
    go true false = refl
    go false true = refl
    go false false = refl

nan-idle : idle nan ≡ true
unfolding idle
nan-idle = refl

zero-idle : idle 𝟎 ≡ true
unfolding idle of_bits
zero-idle = refl

-- what equals zero
eq-idle : (x : Float) → eq x 𝟎 ≡ true → idle x ≡ true
unfolding idle eq of_bits
eq-idle nan h = refl
eq-idle (inf s) h = clash false h refl
eq-idle (fin s zero e) h = refl
eq-idle (fin s (suc m) e) h =
    let z : suc m * up e * 1 ≡ 0 * 1 * down e = eqb-true _ _ (both (eqb (suc m * up e * 1) (0 * 1 * down e)) h).0 in
    let p : 0 < suc m * up e = mul-pos {m = suc m} (omega arith) (up_pos e) in absurd (omega arith)

-- ---- a row of them
-- past a row there is a NaN
row-idle : (z : List Float) (i : ℕ) → all_zero z ≡ true → idle (at z i) ≡ true
unfolding all_zero idle
row-idle [] i h = refl
row-idle (x ∷ xs) zero h = eq-idle x (both (eq x 𝟎) h).0
row-idle (x ∷ xs) (suc i) h = row-idle xs i (both (eq x 𝟎) h).1

weighted-idle : (u z : List Float) (i k : ℕ) → ((j : ℕ) → idle (at z j) ≡ true) → idle (weighted u z i k) ≡ true
unfolding weighted
weighted-idle u z i zero h = zero-idle
weighted-idle u z i (suc k) h = go (meets (length z) (radius u) i k) (weighted-idle u z i k h)
  where
    go : (b : Bool) → idle (weighted u z i k) ≡ true → idle (cond b (weighted u z i k ⊕ at u k ⊗ at z (i + k - radius u)) (weighted u z i k)) ≡ true
    go true a = add-idle (weighted u z i k) (at u k ⊗ at z (i + k - radius u)) a (mul-idle (at u k) (at z (i + k - radius u)) (h (i + k - radius u)))
    go false a = a

sample-idle : (u z : List Float) (i : ℕ) → ((j : ℕ) → idle (at z j) ≡ true) → idle (smoothed_at u z i) ≡ true
unfolding smoothed_at
sample-idle u z i h = go (lt 𝟎 (met u (length z) i (length u)))
  where
    go : (b : Bool) → idle (cond b (weighted u z i (length u) ⊘ met u (length z) i (length u)) 𝟎) ≡ true
    go true = div-idle (weighted u z i (length u)) _ (weighted-idle u z i (length u) h)
    go false = zero-idle

pub smoothed-idle : (ws z : List Float) (i : ℕ) → ((j : ℕ) → idle (at z j) ≡ true) → idle (at (smoothed ws z) i) ≡ true
unfolding smoothed
smoothed-idle ws z i h = go (ltb i (length z)) refl
  where
    f : ℕ → Float
    f = smoothed_at (normalised ws) z

    go : (b : Bool) → ltb i (length z) ≡ b → idle (at (smoothed ws z) i) ≡ true
    go true e = rw (at-tab (length z) f i (ltb-true i (length z) e)) (sample-idle (normalised ws) z i h)
    go false e =
        let p : length (smoothed ws z) ≤ i = rw smoothed-length (ltb-false i (length z) e) in
        let q : at (smoothed ws z) i ≡ nan = get_or-eq_default (smoothed ws z) nan p in
        ap idle q ∙ nan-idle

-- it has no candidate
pub idle-candidate : (y : List Float) (i : ℕ) → ((j : ℕ) → idle (at y j) ≡ true) → is_candidate y i ≡ false
unfolding is_candidate
idle-candidate y i h = rw (lt-idle (at y (i - 1)) (at y i) (h (i - 1)) (h i)) refl

no-candidate : (y : List Float) (k : ℕ) → ((i : ℕ) → idle (at y i) ≡ true) → candidates_to y k ≡ []
unfolding candidates_to
no-candidate y zero h = refl
no-candidate y (suc k) h = none_more y k (idle-candidate y (suc k) h) ∙ no-candidate y k h

none_kept : (p : ImDetectParams) (y z : List Float) → candidates y ≡ [] → kept p y z ≡ []
unfolding kept qualifying keep_all that_qualify
none_kept p y z h = rw h (go (reaches p.min_prom (highest_reading 𝟎 z)))
  where
    go : (b : Bool) → keep_all p.min_distance_scans y [] (cond b [] []) ≡ []
    go true = refl
    go false = refl

-- a row of zeros has no peak, smoothed or not: to skip it changes nothing
pub zeros-skip : NoneOfZeros
unfolding searched
zeros-skip p ws z h = go (eqb (length ws) 0 || leb (length z) 2)
  where
    go : (b : Bool) → kept p (cond b z (smoothed ws z)) z ≡ []
    go true = none_kept p z z (no-candidate z (length z - 2) (λ i. row-idle z i h))
    go false = none_kept p (smoothed ws z) z (no-candidate (smoothed ws z) (length (smoothed ws z) - 2) (λ i. smoothed-idle ws z i (λ j. row-idle z j h)))

-- ---- the test for it
pub zeros-push : (z : List Float) (x : Float) → all_zero (z ++ (x ∷ [])) ≡ (all_zero z && eq x 𝟎)
unfolding all_zero
zeros-push [] x = and-true (eq x 𝟎)
zeros-push (y ∷ z) x = ap (λ (b : Bool). eq y 𝟎 && b) (zeros-push z x) ∙ sym (and_assoc (eq y 𝟎) (all_zero z) (eq x 𝟎))
