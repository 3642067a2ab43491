-- Laws of `first_of`.
use mathlib.Core.Path.{◌≡◌, refl, sym, ◌∙◌}
use mathlib.Core.Bool.{Bool, true, false, cond, not, ◌&&◌}
use mathlib.Core.List.{List, [], ◌∷◌, ◌++◌}
use Prim.Native.Nat.{ℕ, zero, suc, ◌<◌, ◌≤◌}
use native.Mathlib.Omega.{arith}
use borrow.Author.Tests.{not-true, eq-eqb, ne_eqb, ltb-true}
use lib.Dec.{eqb, ltb}
use Rattle.refusal.specs.Refusal.{Check, first_of, clear, refuses, ascending_from, Lowest}
use Rattle.refusal.specs.RefusalLaws.{IsLowest, LowestIs, ZeroForNone, NoneAtZero}
use Rattle.refusal.proofs.Bools.{clash, both}
use Rattle.std.proofs.Math.Bool.{and-false}

-- ---- one check

pub stop : (c : Check) (cs : List Check) → c.applies ≡ true → first_of (c ∷ cs) ≡ c.number
unfolding first_of
stop c cs h = rw h

pub skip : (c : Check) (cs : List Check) → c.applies ≡ false → first_of (c ∷ cs) ≡ first_of cs
unfolding first_of
skip c cs h = rw h

-- ---- a list of checks

-- (a) the checks in front do not apply, and this one does
pub first-at : (front : List Check) (c : Check) (rest : List Check) → clear front ≡ true → c.applies ≡ true → first_of (front ++ (c ∷ rest)) ≡ c.number
unfolding clear
first-at [] c rest f h = stop c rest h
first-at (b ∷ bs) c rest f h =
    let e = both (not b.applies) f in skip b (bs ++ (c ∷ rest)) (not-true b.applies e.0) ∙ first-at bs c rest e.1 h

-- (b) none applies
pub none-applies : ZeroForNone
unfolding clear first_of
none-applies [] f = refl
none-applies (c ∷ cs) f =
    let e = both (not c.applies) f in skip c cs (not-true c.applies e.0) ∙ none-applies cs e.1

-- (c) where the numbers ascend, none is 0, and the answer is the lowest that applies
none_below : (m n : ℕ) (cs : List Check) → ascending_from m cs ≡ true → n ≤ m → refuses n cs ≡ false
unfolding ascending_from refuses
none_below m n [] h l = refl
none_below m n (c ∷ cs) h l =
    let e = both (ltb m c.number) h in
    let k = ltb-true m c.number e.0 in
    rw (ne_eqb c.number n (λ q. omega arith), none_below c.number n cs e.1 (omega arith))

pub lowest : IsLowest
unfolding ascending_from refuses first_of
lowest m [] h p = absurd (omega arith)
lowest m (c ∷ cs) h p = go c.applies refl p (lowest c.number cs (both (ltb m c.number) h).1)
  where
    go : (a : Bool) → c.applies ≡ a → 0 < cond a c.number (first_of cs) → (0 < first_of cs → Lowest cs (first_of cs)) → Lowest (c ∷ cs) (cond a c.number (first_of cs))
    go true e q f =
        record {
          applies = rw (e, eq-eqb c.number c.number refl);
          none-lower = λ k l. rw (ne_eqb c.number k (λ q. omega arith), none_below c.number k cs (both (ltb m c.number) h).1 (omega arith));
        }
    go false e q f = record { applies = rw (e, and-false (eqb c.number (first_of cs)), (f q).applies); none-lower = λ k l. rw (e, and-false (eqb c.number k), (f q).none-lower k l) }

-- and it is 0 only where none applies
pub none_at_zero : NoneAtZero
unfolding ascending_from first_of clear
none_at_zero m [] h z = refl
none_at_zero m (c ∷ cs) h z = go c.applies refl z (none_at_zero c.number cs (both (ltb m c.number) h).1)
  where
    go : (a : Bool) → c.applies ≡ a → cond a c.number (first_of cs) ≡ 0 → (first_of cs ≡ 0 → clear cs ≡ true) → (not c.applies && clear cs) ≡ true
    go true e y f = let k = ltb-true m c.number (both (ltb m c.number) h).0 in absurd (omega arith)
    go false e y f = rw (e, f y)

none-refuses : (n : ℕ) (cs : List Check) → clear cs ≡ true → refuses n cs ≡ false
unfolding clear refuses
none-refuses n [] h = refl
none-refuses n (c ∷ cs) h =
    let e = both (not c.applies) h in rw (not-true c.applies e.0, and-false (eqb c.number n), none-refuses n cs e.1)

same : (a b : ℕ) → (a < b → ⊥) → (b < a → ⊥) → a ≡ b
same a b p q = omega arith

-- the other way: the lowest number that applies is the answer
pub lowest-is : LowestIs
lowest-is cs n h w = go (first_of cs) refl
  where
    go : (k : ℕ) → first_of cs ≡ k → k ≡ n
    go zero z = clash (refuses n cs) w.applies (none-refuses n cs (none_at_zero 0 cs h z))
    go (suc k) z =
        let v : Lowest cs (suc k) = rw z at (lowest 0 cs h (omega arith)) in
        same (suc k) n (λ l. clash (refuses (suc k) cs) v.applies (w.none-lower (suc k) l)) (λ l. clash (refuses n cs) w.applies (v.none-lower n l))

-- ---- what the answer 0 says

-- whether the check with the number n applies; it computes where the numbers are written out
abbrev pub applies_for : ℕ → List Check → Bool
applies_for n [] = false
applies_for n (c ∷ cs) = cond (eqb c.number n) c.applies (applies_for n cs)

off : (n : ℕ) (cs : List Check) → clear cs ≡ true → applies_for n cs ≡ false
unfolding clear
off n [] h = refl
off n (c ∷ cs) h = go (eqb c.number n) (off n cs (both (not c.applies) h).1)
  where
    go : (z : Bool) → applies_for n cs ≡ false → cond z c.applies (applies_for n cs) ≡ false
    go true f = not-true c.applies (both (not c.applies) h).0
    go false f = f

pub off-for : (n : ℕ) (cs : List Check) → ascending_from 0 cs ≡ true → first_of cs ≡ 0 → applies_for n cs ≡ false
off-for n cs h z = off n cs (none_at_zero 0 cs h z)

-- ---- a number that is given by a list of checks in ascending order

pub lowest_by : {n : ℕ} (cs : List Check) → n ≡ first_of cs → ascending_from 0 cs ≡ true → 0 < n → Lowest cs n
lowest_by cs e a h = rw e (lowest 0 cs a (rw e at h))

-- where it is 0, the check with the number k does not apply
pub none-by : {n : ℕ} (k : ℕ) (cs : List Check) → n ≡ first_of cs → ascending_from 0 cs ≡ true → n ≡ 0 → applies_for k cs ≡ false
none-by k cs e a z = off-for k cs a (sym e ∙ z)
