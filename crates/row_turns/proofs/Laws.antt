-- What a pass over a row knows at a sample: the turns that it has passed, and the way it is on.
use mathlib.Core.Path.{◌≡◌, refl, sym, ap, ◌∙◌}
use mathlib.Core.Bool.{Bool, true, false, not, cond, beq}
use mathlib.Core.List.{List}
use Prim.Native.Nat.{ℕ, zero, suc, ◌+◌, ◌-◌, ◌*◌, ◌/◌, ◌≤◌, ◌<◌}
use native.Mathlib.Omega.{arith}
use native.Mathlib.Numerals.{add-one}
use borrow.Author.Tests.{ltb-true, ltb-false, eqb-true, eqb-false}
use lib.Dec.{ltb, eqb}
use lib.ListN.{length, set, length-set}
use lib.Seq.{get_or-set_same, get_or-set_other}
use lib.Ieee.{Float}
use Rattle.numeric.specs.Plain.{word_in}
use Rattle.row_turns.specs.Turns.{turn, Turning}

-- a row rises to the turns at odd places
abbrev pub odd : ℕ → Bool
odd zero = false
odd (suc p) = not (odd p)

-- from a to b every step goes up, or none does
abbrev pub Straight : List Float → Bool → ℕ → ℕ → Type 0
Straight y up a b = (i : ℕ) → a ≤ i → i < b → ltb (word_in y i) (word_in y (i + 1)) ≡ up

-- where the way to the turn p starts
abbrev pub from : List ℕ → ℕ → ℕ
from turns zero = 0
from turns (suc p) = turn turns p

-- the ways to the first j turns
pub record Ways (y : List Float) (turns : List ℕ) (j : ℕ) : Type 0 where
  pub straight : (p : ℕ) → p < j → Straight y (odd p) (from turns p) (turn turns p)
  pub apart : (p : ℕ) → suc p < j → turn turns p < turn turns (suc p)

-- j turns lie behind, and the way that leads to i goes up or not
pub record Going (y : List Float) (turns : List ℕ) (j i : ℕ) (up : Bool) : Type 0 where
  pub few : j ≤ i
  pub parity : odd j ≡ up
  pub ways : Ways y turns j
  pub way : Straight y up (from turns j) i
  pub ahead : from turns j < i

-- ---- a store at j changes nothing before it
before : (turns : List ℕ) (j v p : ℕ) → p < j → turn (set turns j v) p ≡ turn turns p
before turns j v p h = get_or-set_other turns j p v 0 (λ e. omega arith)

from-before : (turns : List ℕ) (j v p : ℕ) → p ≤ j → from (set turns j v) p ≡ from turns p
from-before turns j v zero h = refl
from-before turns j v (suc p) h = before turns j v p (omega arith)

keeps : {y : List Float} {turns : List ℕ} {j : ℕ} (v : ℕ) → Ways y turns j → Ways y (set turns j v) j
keeps {y} {turns} {j} v w = record {
  straight = λ p h. rw (before turns j v p h, from-before turns j v p (omega arith)) (w.straight p h);
  apart = λ p h. rw (before turns j v p (omega arith), before turns j v (suc p) h) (w.apart p h);
}

-- ---- the turn at j is i
commits : {y : List Float} {turns : List ℕ} {j : ℕ} (i : ℕ) → Ways y turns j → Straight y (odd j) (from turns j) i → from turns j < i → j < length turns
    → Ways y (set turns j i) (suc j)
commits {y} {turns} {j} i w s a h = record {
  straight = λ p k. go p (eqb p j) refl k;
  apart = λ p k. step p (eqb (suc p) j) refl k;
}
  where
    last : turn (set turns j i) j ≡ i
    last = get_or-set_same turns j i 0 h

    go : (p : ℕ) (b : Bool) → eqb p j ≡ b → p < suc j → Straight y (odd p) (from (set turns j i) p) (turn (set turns j i) p)
    go p true e k = rw (eqb-true p j e, last, from-before turns j i j (omega arith)) s
    go p false e k = let ne : p ≡ j → ⊥ = eqb-false p j e in (keeps i w).straight p (omega arith)

    step : (p : ℕ) (b : Bool) → eqb (suc p) j ≡ b → suc p < suc j → turn (set turns j i) p < turn (set turns j i) (suc p)
    step p true e k = let q = eqb-true (suc p) j e in let b : turn turns p < i = rw (← q) at a in rw (q, last, before turns j i p (omega arith)) b
    step p false e k = let ne : suc p ≡ j → ⊥ = eqb-false (suc p) j e in (keeps i w).apart p (omega arith)

-- ---- one sample more: the way goes on, or it turns at i
step-on : (y : List Float) (up : Bool) (a i : ℕ) → Straight y up a i → ltb (word_in y i) (word_in y (i + 1)) ≡ up → Straight y up a (i + 1)
step-on y up a i s h k l r = go (eqb k i) refl
  where
    go : (b : Bool) → eqb k i ≡ b → ltb (word_in y k) (word_in y (k + 1)) ≡ up
    go true e = rw (eqb-true k i e) h
    go false e = let ne : k ≡ i → ⊥ = eqb-false k i e in s k l (omega arith)

same : (a b : Bool) → not (beq a b) ≡ false → b ≡ a
same true true h = refl
same true false h = sym h
same false true h = h
same false false h = refl

other : (a b : Bool) → not (beq a b) ≡ true → b ≡ not a
other true true h = sym h
other true false h = refl
other false true h = refl
other false false h = h

-- `on` tells whether the row rises behind i
pub goes_on : {y : List Float} {turns : List ℕ} {j i : ℕ} {up on : Bool} → Going y turns j i up → ltb (word_in y i) (word_in y (i + 1)) ≡ on
    → not (beq up on) ≡ false → Going y (set turns j i) j (i + 1) on
goes_on {y} {turns} {j} {i} {up} {on} g h t =
    let f = from-before turns j i j (omega arith) in
    let q = same up on t in
    let b = g.few in
    let a = g.ahead in
    record {
      few = omega arith;
      parity = g.parity ∙ sym q;
      ways = keeps i g.ways;
      way = rw f (step-on y on (from turns j) i (rw q g.way) h);
      ahead = rw f (omega arith);
    }

pub turns-here : {y : List Float} {turns : List ℕ} {j i : ℕ} {up on : Bool} → Going y turns j i up → ltb (word_in y i) (word_in y (i + 1)) ≡ on
    → not (beq up on) ≡ true → j < length turns → Going y (set turns j i) (j + 1) (i + 1) on
turns-here {y} {turns} {j} {i} {up} {on} g h t r =
    let f = get_or-set_same turns j i 0 r in
    let b = g.few in
    rw (add-one j)
    (record {
      few = omega arith;
      parity = ap not g.parity ∙ sym (other up on t);
      ways = commits i g.ways (rw g.parity g.way) g.ahead r;
      way = rw f (step-on y on i i (λ k l q. absurd (omega arith)) h);
      ahead = rw f (omega arith);
    })

-- ---- the first step
pub starts : (y : List Float) (turns : List ℕ) (up : Bool) → ltb (word_in y 0) (word_in y 1) ≡ up → 0 < length turns → Going y (set turns 0 0) (cond up 1 0) 1 up
starts y turns true h r = let z : turn (set turns 0 0) 0 ≡ 0 = get_or-set_same turns 0 0 0 r in record {
  few = omega arith;
  parity = refl;
  ways = record { straight = λ p k i a b. let e : p ≡ 0 = omega arith in absurd (omega (arith, rw (e, z) at b)); apart = λ p k. absurd (omega arith) };
  way = λ i a b. let e : i ≡ 0 = omega arith in rw e h;
  ahead = rw z (omega arith);
}
starts y turns false h r = record {
  few = omega arith;
  parity = refl;
  ways = record { straight = λ p k. absurd (omega arith); apart = λ p k. absurd (omega arith) };
  way = λ i a b. let e : i ≡ 0 = omega arith in rw e h;
  ahead = omega arith;
}

-- ---- the end
twice : (b : Bool) → cond {A = ℕ} (not (not b)) 1 0 ≡ cond b 1 0
twice true = refl
twice false = refl

halves : (j : ℕ) → j ≡ 2 * (j / 2) + cond (odd j) 1 0
halves zero = refl
halves (suc zero) = refl
halves (suc (suc j)) = omega (arith, halves j, twice (odd j))

even : (k : ℕ) → odd (2 * k) ≡ false
even zero = refl
even (suc k) = let e : 2 * suc k ≡ suc (suc (2 * k)) = omega arith in rw (e, even k)

shaped : {y : List Float} {turns : List ℕ} (m : ℕ) → Ways y turns (suc (2 * m)) → Straight y true (turn turns (2 * m)) (length y - 1)
    → turn turns (2 * m) < length y → 2 * m < length turns → Turning y turns m
shaped {y} {turns} m w s h r = record {
  room = r;
  first = λ i a b. ltb-false _ _ (w.straight 0 (omega arith) i a b);
  climbs = λ k l. rw (add-one (2 * k)) (w.apart (2 * k) (omega arith));
  up = λ k l i a b. ltb-true _ _ (way (2 * k) true (ap not (even k)) (omega arith) (2 * k + 1) (omega arith) i a b);
  drops = λ k l. let e : 2 * k + 2 ≡ suc (2 * k + 1) = omega arith in rw e (w.apart (2 * k + 1) (omega arith));
  down = λ k l i a b. ltb-false _ _ (way (2 * k + 1) false (rw (add-one (2 * k), even k)) (omega arith) (2 * k + 2) (omega arith) i a b);
  inside = h;
  last = λ i a b. ltb-true _ _ (s i a b);
}
  where
    way : (p : ℕ) (b : Bool) → odd (suc p) ≡ b → p < 2 * m → (q : ℕ) → q ≡ suc p → Straight y b (turn turns p) (turn turns q)
    way p b o l q e = rw (e, ← o) (w.straight (suc p) (omega arith))

pub ends-up : {y : List Float} {turns : List ℕ} {j i : ℕ} → Going y turns j i true → i ≡ length y - 1 → 0 < length y → length y ≤ length turns → Turning y turns (j / 2)
ends-up {y} {turns} {j} {i} g e h r =
    let m = j / 2 in
    let d : j ≡ suc (2 * m) = omega (arith, rw g.parity at (halves j)) in
    let b = g.few in
    let f : from turns j ≡ turn turns (2 * m) = ap (from turns) d in
    shaped m (rw d at g.ways) (rw (← f, ← e) g.way) (omega (arith, f, g.ahead)) (omega arith)

pub ends-down : {y : List Float} {turns : List ℕ} {j i : ℕ} → Going y turns j i false → i ≡ length y - 1 → 0 < length y → length y ≤ length turns
    → Turning y (set turns j (length y - 1)) (j / 2)
ends-down {y} {turns} {j} {i} g e h r =
    let m = j / 2 in
    let d : j ≡ 2 * m = omega (arith, rw g.parity at (halves j)) in
    let b = g.few in
    let z : turn (set turns j i) (2 * m) ≡ i = rw (← d) (get_or-set_same turns j i 0 (omega arith)) in
    rw (← e)
    (shaped m (rw (← d) (commits i g.ways (rw g.parity g.way) g.ahead (omega arith))) (rw z (λ k l q. absurd (omega arith))) (rw z (omega arith)) (rw length-set (omega arith)))
