-- The candidates of a row are the apexes among its turns.
use mathlib.Core.Path.{◌≡◌, refl, sym, ap, ◌∙◌}
use mathlib.Core.Bool.{Bool, true, false}
use mathlib.Core.List.{List, [], ◌∷◌, ◌++◌}
use Prim.Native.Nat.{ℕ, zero, suc, ◌+◌, ◌-◌, ◌*◌, ◌≤◌, ◌<◌}
use native.Mathlib.Omega.{arith}
use native.Mathlib.Numerals.{add-one, sub-one}
use borrow.Author.Tests.{ltb-true, ltb-false, lt-ltb, le-ltb, le-leb, lt-leb}
use lib.Dec.{ltb}
use lib.ListN.{length, get_or-eq_default}
use lib.Ieee.{Float, nan, lt, le, eq}
use Rattle.numeric.specs.Arith.{at}
use Rattle.numeric.specs.Plain.{word_in, AllPlain}
use Rattle.numeric.proofs.Patterns.{lt-bits, le-bits}
use Rattle.row_apex.specs.Apex.{is_candidate, candidates_to, candidates}
use Rattle.row_apex.proofs.Candidates.{one_more, none_more}
use Rattle.row_turns.specs.Turns.{turn, Turning, apexes_of}
use Rattle.std.proofs.Math.Bool.{and-false}

-- ---- one sample
-- no candidate where the row falls to it, nor where it rises behind it, nor at the end
module _ (y : List Float) (p : AllPlain y) where
  fallen : (i : ℕ) → i + 1 < length y → word_in y (i + 1) ≤ word_in y i → is_candidate y (suc i) ≡ false
  unfolding is_candidate
  fallen i h d =
      let e : lt (at y i) (at y (suc i)) ≡ false = lt-bits (at y i) (at y (suc i)) (p i (omega arith)) (p (suc i) (omega arith)) ∙ le-ltb _ _ (rw add-one at d) in
      rw (sub-one, e)

  rising : (i : ℕ) → i + 1 < length y → word_in y i < word_in y (i + 1) → is_candidate y i ≡ false
  unfolding is_candidate
  rising i h d =
      let e : le (at y (i + 1)) (at y i) ≡ false = le-bits (at y (i + 1)) (at y i) (p (i + 1) (omega arith)) (p i (omega arith)) ∙ lt-leb _ _ d in
      rw e (and-false (lt (at y (i - 1)) (at y i)))

  apex : (c : ℕ) → c + 1 < length y → word_in y (c - 1) < word_in y c → word_in y (c + 1) ≤ word_in y c → is_candidate y c ≡ true
  unfolding is_candidate
  apex c h d f =
      let e : lt (at y (c - 1)) (at y c) ≡ true = lt-bits (at y (c - 1)) (at y c) (p (c - 1) (omega arith)) (p c (omega arith)) ∙ lt-ltb _ _ d in
      let g : le (at y (c + 1)) (at y c) ≡ true = le-bits (at y (c + 1)) (at y c) (p (c + 1) (omega arith)) (p c (omega arith)) ∙ le-leb _ _ f in
      rw (e, g)

at-end : (y : List Float) (i : ℕ) → length y ≤ i + 1 → is_candidate y i ≡ false
unfolding is_candidate le lt eq
at-end y i h = let e : at y (i + 1) ≡ nan = get_or-eq_default y nan h in rw e (and-false (lt (at y (i - 1)) (at y i)))

-- ---- a stretch with none
none_from : (y : List Float) (a d b : ℕ) → b ≡ d + a → ((i : ℕ) → a ≤ i → i < b → is_candidate y (suc i) ≡ false) → candidates_to y b ≡ candidates_to y a
none_from y a zero b e f = let q : b ≡ a = omega arith in ap (candidates_to y) q
none_from y a (suc d) b e f =
    let q : b ≡ suc (d + a) = omega arith in
    ap (candidates_to y) q ∙ none_more y (d + a) (f (d + a) (omega arith) (omega arith)) ∙ none_from y a d (d + a) refl (λ i h k. f i h (omega arith))

none-to : (y : List Float) (a b : ℕ) → a ≤ b → ((i : ℕ) → a ≤ i → i < b → is_candidate y (suc i) ≡ false) → candidates_to y b ≡ candidates_to y a
none-to y a b h f = none_from y a (b - a) b (omega arith) f

-- ---- every turn lies in the row
valley-from : {y : List Float} {turns : List ℕ} {m : ℕ} → Turning y turns m → (d k : ℕ) → k + d ≡ m → turn turns (2 * k) < length y
valley-from {y} {turns} {m} t zero k e = let q : k ≡ m = omega arith in rw q t.inside
valley-from {y} {turns} {m} t (suc d) k e =
    let q : 2 * k + 2 ≡ 2 * (k + 1) = omega arith in
    omega (arith, t.climbs k (omega arith), t.drops k (omega arith), ap (turn turns) q, valley-from t d (k + 1) (omega arith))

pub valley-in : {y : List Float} {turns : List ℕ} {m : ℕ} → Turning y turns m → (k : ℕ) → k ≤ m → turn turns (2 * k) < length y
valley-in {y} {turns} {m} t k h = valley-from t (m - k) k (omega arith)

pub next-valley : (turns : List ℕ) (k : ℕ) → turn turns (2 * k + 2) ≡ turn turns (2 * (k + 1))
next-valley turns k = let q : 2 * k + 2 ≡ 2 * (k + 1) = omega arith in ap (turn turns) q

pub apex-in : {y : List Float} {turns : List ℕ} {m : ℕ} → Turning y turns m → (k : ℕ) → k < m → turn turns (2 * k + 1) + 1 < length y
apex-in {y} {turns} {m} t k h = omega (arith, t.drops k h, next-valley turns k, valley-in t (k + 1) (omega arith))

-- ---- the law
module _ {y : List Float} {turns : List ℕ} {m : ℕ} (p : AllPlain y) (t : Turning y turns m) where
  to-valley : (k : ℕ) → k ≤ m → candidates_to y (turn turns (2 * k)) ≡ apexes_of turns k
  unfolding apexes_of candidates_to
  to-valley zero h = none-to y 0 (turn turns 0) (omega arith) (λ i a b. fallen y p i (omega (arith, valley-in t 0 (omega arith))) (t.first i a b))
  to-valley (suc k) h =
      let v = turn turns (2 * k) in
      let c = turn turns (2 * k + 1) in
      let w = turn turns (2 * k + 2) in
      let e : 2 * suc k ≡ 2 * k + 2 = omega arith in
      let up = t.climbs k (omega arith) in
      let down = t.drops k (omega arith) in
      let in_row = apex-in t k (omega arith) in
      let w-in : w < length y = omega (arith, next-valley turns k, valley-in t (k + 1) (omega arith)) in
      let s : suc (c - 1) ≡ c = omega arith in
      let z : c - 1 + 1 ≡ c = omega arith in
      let is : is_candidate y c ≡ true = apex y p c in_row (rw z at (t.up k (omega arith) (c - 1) (omega arith) (omega arith))) (t.down k (omega arith) c (omega arith) (omega arith)) in
      ap (λ (q : ℕ). candidates_to y (turn turns q)) e
      ∙ none-to y c w (omega arith) (λ i a b. fallen y p i (omega arith) (t.down k (omega arith) i a b))
      ∙ ap (candidates_to y) (sym s)
      ∙ one_more y (c - 1) (rw s is)
      ∙ rw s
      (ap (λ (l : List ℕ). l ++ (c ∷ []))
      (none-to y v (c - 1) (omega arith) (λ i a b. rising y p (suc i) (omega arith) (t.up k (omega arith) (suc i) (omega arith) (omega arith)))
      ∙ to-valley k (omega arith)))

  pub candidates-are : candidates y ≡ apexes_of turns m
  candidates-are =
      let n = length y in
      let in_row = t.inside in
      sym (none-to y (n - 2) (n - 1) (omega arith) (λ i a b. at-end y (suc i) (omega arith)))
      ∙ none-to y (turn turns (2 * m)) (n - 1) (omega arith) (λ i a b. last i a b (ltb (i + 2) n) refl)
      ∙ to-valley m (omega arith)
    where
      last : (i : ℕ) → turn turns (2 * m) ≤ i → i < length y - 1 → (b : Bool) → ltb (i + 2) (length y) ≡ b → is_candidate y (suc i) ≡ false
      last i a b true e = let l = ltb-true (i + 2) (length y) e in rising y p (suc i) (omega arith) (t.last (suc i) (omega arith) (omega arith))
      last i a b false e = let l = ltb-false (i + 2) (length y) e in at-end y (suc i) (omega arith)

pub no-candidates : (y : List Float) (turns : List ℕ) → length y < 3 → candidates y ≡ apexes_of turns 0
unfolding apexes_of candidates_to
no-candidates y turns h = let e : length y - 2 ≡ 0 = omega arith in rw e
