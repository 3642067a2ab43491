-- The account of every apex of a ranked order, and the steps of the choice.
use mathlib.Core.Path.{◌≡◌, refl, sym, ap, ◌∙◌}
use mathlib.Core.Bool.{Bool, true, false, cond}
use mathlib.Core.List.{List, [], ◌∷◌, ◌++◌, append_assoc, append-nil}
use mathlib.Core.List.Memᴰ
use mathlib.Core.List.Memᴰ.{head as here}
use mathlib.Core.List.Memᴰ.{tail as there}
use mathlib.Core.Logic.{◌⊎◌, inl, inr, ⊎_elim, ◌≢◌}
use Prim.Native.Nat.{ℕ, suc, ◌+◌, ◌≤◌, ◌<◌}
use native.Mathlib.Omega.{arith}
use lib.ListN.{length, get_or, take, length-append}
use lib.Seq.{take-suc}
use Rattle.refusal.proofs.Bools.{clash}
use Rattle.row_search.specs.Account.{◌∈◌, All}
use Rattle.rt_choice.specs.Chosen.{Each, Distinct, near_any, choose, choose_all, chosen, passing, listed, Ranked, GivesWay, Accounted, AllAccounted}
use Rattle.row_search.proofs.Account.{all_none, all_cons, all_tail}

-- ---- lists

all_append : (P : ℕ → Type 0) (a b : List ℕ) → All P a → All P b → All P (a ++ b)
all_append P a b f g j m = ⊎_elim (f j) (g j) (Memᴰ.append_cases a m)

-- a relation between the ones of a list may be weakened
pub each-imp : (R S : ℕ → ℕ → Type 0) (l : List ℕ) → ((i j : ℕ) → i ∈ l → j ∈ l → R i j → S i j) → Each R l → Each S l
each-imp R S [] f e = tt
each-imp R S (i ∷ is) f e = (λ j m. f i j (here refl) (there m) (e.0 j m), each-imp R S is (λ a b m n. f a b (there m) (there n)) e.1)

each_append : (R : ℕ → ℕ → Type 0) (a b : List ℕ) → Each R a → Each R b → All (λ i. All (R i) b) a → Each R (a ++ b)
each_append R [] b f g h = g
each_append R (i ∷ a) b f g h = (all_append (R i) a b f.0 (h i (here refl)), each_append R a b f.1 g (all_tail (λ k. All (R k) b) i a h))

-- ---- near one of a list

module _ (near : ℕ → ℕ → Bool) where
  none-near : (i : ℕ) (ks : List ℕ) → near_any near i ks ≡ false → All (λ k. near i k ≡ false) ks
  unfolding near_any
  none-near i [] h = all_none (λ k. near i k ≡ false)
  none-near i (k ∷ ks) h = go (near i k) refl h (none-near i ks)
    where
      go : (b : Bool) → near i k ≡ b → cond b true (near_any near i ks) ≡ false → (near_any near i ks ≡ false → All (λ k. near i k ≡ false) ks) → All (λ k. near i k ≡ false) (k ∷ ks)
      go true e h f = clash true refl h
      go false e h f = all_cons (λ k. near i k ≡ false) k ks e (f h)

  some_near : (i : ℕ) (ks : List ℕ) → near_any near i ks ≡ true → (k : ℕ) × (k ∈ ks) × (near i k ≡ true)
  unfolding near_any
  some_near i [] h = clash false h refl
  some_near i (k ∷ ks) h = go (near i k) refl h (some_near i ks)
    where
      go : (b : Bool) → near i k ≡ b → cond b true (near_any near i ks) ≡ true → (near_any near i ks ≡ true → (j : ℕ) × (j ∈ ks) × (near i j ≡ true))
          → (j : ℕ) × (j ∈ (k ∷ ks)) × (near i j ≡ true)
      go true e h f = (k, here refl, e)
      go false e h f = let r = f h in (r.0, there r.1, r.2)

  -- ---- one apex

  pub choose-near : (ks : List ℕ) (i : ℕ) → near_any near i ks ≡ true → choose near ks i ≡ ks
  unfolding choose
  choose-near ks i h = rw h

  pub choose-far : (ks : List ℕ) (i : ℕ) → near_any near i ks ≡ false → choose near ks i ≡ ks ++ (i ∷ [])
  unfolding choose
  choose-far ks i h = rw h

  choose-ways : (P : List ℕ → Type 0) (ks : List ℕ) (i : ℕ) → (near_any near i ks ≡ true → P ks) → (near_any near i ks ≡ false → P (ks ++ (i ∷ []))) → P (choose near ks i)
  unfolding choose
  choose-ways P ks i out too = go (near_any near i ks) refl
    where
      go : (b : Bool) → near_any near i ks ≡ b → P (cond b ks (ks ++ (i ∷ [])))
      go true e = out e
      go false e = too e

  -- the order may come in two parts, one after the other
  pub choose_all-append : (ks a b : List ℕ) → choose_all near ks (a ++ b) ≡ choose_all near (choose_all near ks a) b
  unfolding choose_all
  choose_all-append ks [] b = refl
  choose_all-append ks (i ∷ a) b = choose_all-append (choose near ks i) a b

  -- the choice goes on with the next apex: the step of a loop whose buffer has `chosen near (take k order)` in front
  pub chosen-next : (order : List ℕ) (k : ℕ) → k < length order → chosen near (take (suc k) order) ≡ choose near (chosen near (take k order)) (get_or order k 0)
  unfolding choose_all
  chosen-next order k h = ap (chosen near) (take-suc order k 0 h) ∙ choose_all-append [] (take k order) (get_or order k 0 ∷ [])

  -- ---- all of them

  -- those chosen stay chosen
  stays : (ks is : List ℕ) (k : ℕ) → k ∈ ks → k ∈ choose_all near ks is
  unfolding choose_all
  stays ks [] k m = m
  stays ks (i ∷ is) k m = stays (choose near ks i) is k (choose-ways (λ l. k ∈ l) ks i (λ h. m) (λ h. Memᴰ.append_left (i ∷ []) m))

  choose_all-all : (P : ℕ → Type 0) (ks is : List ℕ) → All P ks → All P is → All P (choose_all near ks is)
  unfolding choose_all
  choose_all-all P ks [] f g = f
  choose_all-all P ks (i ∷ is) f g =
      choose_all-all P (choose near ks i) is
      (choose-ways (All P) ks i (λ h. f) (λ h. all_append P ks (i ∷ []) f (all_cons P i [] (g i (here refl)) (all_none P))))
      (all_tail P i is g)

  -- whatever holds of each of an order with all that follow holds of those chosen
  choose_all-each : (R : ℕ → ℕ → Type 0) (ks is : List ℕ) → Each R ks → All (λ k. All (R k) is) ks → Each R is → Each R (choose_all near ks is)
  unfolding choose_all
  choose_all-each R ks [] e f g = e
  choose_all-each R ks (i ∷ is) e f g =
      let P : List ℕ → Type 0 = (λ l. Each R l × All (λ k. All (R k) is) l) in
      let old : All (λ k. All (R k) is) ks = (λ k m j n. f k m j (there n)) in
      let next : P (choose near ks i) =
      choose-ways P ks i (λ h. (e, old))
      (λ h. (
        each_append R ks (i ∷ []) e (all_none (R i), tt) (λ k m. all_cons (R k) i [] (f k m i (here refl)) (all_none (R k))),
        all_append (λ k. All (R k) is) ks (i ∷ []) old (all_cons (λ k. All (R k) is) i [] g.0 (all_none (λ k. All (R k) is))),
      )) in
      choose_all-each R (choose near ks i) is next.0 next.1 g.1

  -- a later one is not near any chosen before it
  choose_all-far : (ks is : List ℕ) → Each (λ i j. near j i ≡ false) ks → Each (λ i j. near j i ≡ false) (choose_all near ks is)
  unfolding choose_all
  choose_all-far ks [] e = e
  choose_all-far ks (i ∷ is) e =
      choose_all-far (choose near ks i) is
      (choose-ways (Each (λ i j. near j i ≡ false)) ks i (λ h. e)
      (λ h.
      each_append (λ i j. near j i ≡ false) ks (i ∷ []) e (all_none (λ j. near j i ≡ false), tt)
      (λ k m. all_cons (λ j. near j k ≡ false) i [] (none-near i ks h k m) (all_none (λ j. near j k ≡ false)))))

  -- an apex of the order is chosen, or is near one that is chosen and stands before it
  choose_all-met : (R : ℕ → ℕ → Type 0) (ks is : List ℕ) → All (λ k. All (R k) is) ks → Each R is
      → (i : ℕ) → i ∈ is → (i ∈ choose_all near ks is) ⊎ ((k : ℕ) × (k ∈ choose_all near ks is) × R k i × (near i k ≡ true))
  unfolding choose_all
  choose_all-met R ks [] f g i m = absurd (Memᴰ.not-nil m)
  choose_all-met R ks (p ∷ is) f g i m =
      ⊎_elim
      (λ (e : i ≡ p). go (near_any near i ks) refl e)
      (choose_all-met R (choose near ks p) is
      (choose-ways (All (λ k. All (R k) is)) ks p (λ h. old)
      (λ h. all_append (λ k. All (R k) is) ks (p ∷ []) old (all_cons (λ k. All (R k) is) p [] g.0 (all_none (λ k. All (R k) is)))))
      g.1 i)
      (Memᴰ.cases_cons m)
    where
      old : All (λ k. All (R k) is) ks
      old k m j n = f k m j (there n)

      go : (b : Bool) → near_any near i ks ≡ b → i ≡ p
          → (i ∈ choose_all near (choose near ks p) is) ⊎ ((k : ℕ) × (k ∈ choose_all near (choose near ks p) is) × R k i × (near i k ≡ true))
      go true h e =
          let r = some_near i ks h in
          let s : choose near ks p ≡ ks = choose-near ks p (rw (sym e) h) in
          inr (r.0, stays (choose near ks p) is r.0 (rw s r.1), f r.0 r.1 i m, r.2)
      go false h e =
          let s : choose near ks p ≡ ks ++ (p ∷ []) = choose-far ks p (rw (sym e) h) in
          inl (stays (choose near ks p) is i (rw s (Memᴰ.append_right ks (here e))))

  -- whatever holds of each apex of an order with all that follow it holds so of those chosen: they stand in that order too
  pub chosen-each : (R : ℕ → ℕ → Type 0) (order : List ℕ) → Each R order → Each R (chosen near order)
  chosen-each R order g = choose_all-each R [] order tt (all_none (λ k. All (R k) order)) g

  -- what holds of all apexes of an order holds of those chosen
  pub chosen-all : (P : ℕ → Type 0) (order : List ℕ) → All P order → All P (chosen near order)
  chosen-all P order f = choose_all-all P [] order (all_none P) f

  -- no more are chosen than there are
  pub chosen-few : (order : List ℕ) → length (chosen near order) ≤ length order
  unfolding choose_all
  chosen-few order = let all = go [] order in omega arith
    where
      go : (ks is : List ℕ) → length (choose_all near ks is) ≤ length ks + length is
      go ks [] = omega arith
      go ks (i ∷ is) =
          let one : length (choose near ks i) ≤ suc (length ks) =
          choose-ways (λ l. length l ≤ suc (length ks)) ks i (λ h. omega arith) (λ h. simp length-append (omega arith)) in
          let all = go (choose near ks i) is in
          omega arith

  -- where no two are near, as with a least separation of 0, all are chosen
  pub all-chosen : ((i j : ℕ) → near i j ≡ false) → (order : List ℕ) → chosen near order ≡ order
  unfolding choose_all near_any
  all-chosen far order = go [] order
    where
      none : (i : ℕ) (ks : List ℕ) → near_any near i ks ≡ false
      none i [] = refl
      none i (k ∷ ks) = rw (far i k) (none i ks)

      go : (ks is : List ℕ) → choose_all near ks is ≡ ks ++ is
      go ks [] = sym (append-nil ks)
      go ks (i ∷ is) = go (choose near ks i) is ∙ ap (λ (l : List ℕ). l ++ is) (choose-far ks i (none i ks)) ∙ append_assoc ks (i ∷ []) is

-- ---- those that pass

module _ (test : ℕ → Bool) where
  -- no more pass than there are
  pub passing-few : (l : List ℕ) → length (passing test l) ≤ length l
  unfolding passing
  passing-few [] = omega arith
  passing-few (j ∷ l) = go (test j) (passing-few l)
    where
      go : (b : Bool) → length (passing test l) ≤ length l → length (cond b (j ∷ passing test l) (passing test l)) ≤ suc (length l)
      go true h = omega arith
      go false h = omega arith

  pub passing-append : (a b : List ℕ) → passing test (a ++ b) ≡ passing test a ++ passing test b
  unfolding passing
  passing-append [] b = refl
  passing-append (j ∷ a) b = go (test j) (passing-append a b)
    where
      go : (c : Bool) → passing test (a ++ b) ≡ passing test a ++ passing test b
          → cond c (j ∷ passing test (a ++ b)) (passing test (a ++ b)) ≡ cond c (j ∷ passing test a) (passing test a) ++ passing test b
      go true h = ap (λ (l : List ℕ). j ∷ l) h
      go false h = h

  pub passing-are : (l : List ℕ) (i : ℕ) → i ∈ passing test l → (i ∈ l) × (test i ≡ true)
  unfolding passing
  passing-are [] i m = absurd (Memᴰ.not-nil m)
  passing-are (j ∷ l) i m = go (test j) refl (passing-are l i) m
    where
      go : (b : Bool) → test j ≡ b → (i ∈ passing test l → (i ∈ l) × (test i ≡ true)) → i ∈ cond b (j ∷ passing test l) (passing test l) → (i ∈ (j ∷ l)) × (test i ≡ true)
      go true e f m = ⊎_elim (λ (q : i ≡ j). (here q, rw q e)) (λ n. (there (f n).0, (f n).1)) (Memᴰ.cases_cons m)
      go false e f m = (there (f m).0, (f m).1)

  pub passing-has : (l : List ℕ) (i : ℕ) → i ∈ l → test i ≡ true → i ∈ passing test l
  unfolding passing
  passing-has [] i m h = absurd (Memᴰ.not-nil m)
  passing-has (j ∷ l) i m h = go (test j) refl (λ n. passing-has l i n h) (Memᴰ.cases_cons m)
    where
      go : (b : Bool) → test j ≡ b → (i ∈ l → i ∈ passing test l) → (i ≡ j) ⊎ (i ∈ l) → i ∈ cond b (j ∷ passing test l) (passing test l)
      go true e f (inl q) = here q
      go true e f (inr n) = there (f n)
      go false e f (inl q) = clash (test i) h (rw q e)
      go false e f (inr n) = f n

  pub passing-each : (R : ℕ → ℕ → Type 0) (l : List ℕ) → Each R l → Each R (passing test l)
  unfolding passing
  passing-each R [] e = tt
  passing-each R (j ∷ l) e = go (test j) (passing-each R l e.1)
    where
      go : (b : Bool) → Each R (passing test l) → Each R (cond b (j ∷ passing test l) (passing test l))
      go true f = (λ k m. e.0 k (passing-are l k m).0, f)
      go false f = f

-- ---- the theorem

-- two different ones of a list stand in one order or the other
two_ways : (R : ℕ → ℕ → Type 0) (l : List ℕ) → Each R l → (i j : ℕ) → i ∈ l → j ∈ l → i ≢ j → R i j ⊎ R j i
two_ways R [] e i j m n d = absurd (Memᴰ.not-nil m)
two_ways R (k ∷ l) e i j m n d = go (two_ways R l e.1 i j) (Memᴰ.cases_cons m) (Memᴰ.cases_cons n)
  where
    go : (i ∈ l → j ∈ l → i ≢ j → R i j ⊎ R j i) → (i ≡ k) ⊎ (i ∈ l) → (j ≡ k) ⊎ (j ∈ l) → R i j ⊎ R j i
    go f (inl p) (inl q) = absurd (d (p ∙ sym q))
    go f (inl p) (inr n) = inl (rw p (e.0 j n))
    go f (inr m) (inl q) = inr (rw q (e.0 i m))
    go f (inr m) (inr n) = f m n d

module _ (near is_no_lower : ℕ → ℕ → Bool) (share : ℕ → Bool) (order : List ℕ) (ranked : Ranked near is_no_lower order) where
  some : All (λ i. i ∈ order) (chosen near order)
  some = chosen-all near (λ i. i ∈ order) order (λ i m. m)

  apart : (i j : ℕ) → i ∈ chosen near order → j ∈ chosen near order → i ≢ j → near i j ≡ false
  apart i j m n d =
      ⊎_elim (λ (h : near j i ≡ false). ranked.both_ways i (some i m) j (some j n) ∙ h) (λ (h : near i j ≡ false). h)
      (two_ways (λ i j. near j i ≡ false) (chosen near order) (choose_all-far near [] order tt) i j m n d)

  -- i is chosen, or gives way to one that is
  met : (i : ℕ) → i ∈ order → (i ∈ chosen near order) ⊎ GivesWay near is_no_lower (chosen near order) i
  met i m =
      ⊎_elim inl
      (λ r. inr (record { to = r.0; among = r.1; other = r.2.0; no_lower = r.2.1; close = r.3 }))
      (choose_all-met near (λ k j. (k ≢ j) × (is_no_lower j k ≡ true)) [] order (all_none (λ k. All (λ j. (k ≢ j) × (is_no_lower j k ≡ true)) order)) both i m)
    where
      pair : (l : List ℕ) → Distinct l → Each (λ i j. is_no_lower j i ≡ true) l → Each (λ k j. (k ≢ j) × (is_no_lower j k ≡ true)) l
      pair [] d h = tt
      pair (k ∷ l) d h = (λ j n. (d.0 j n, h.0 j n), pair l d.1 h.1)

      both : Each (λ k j. (k ≢ j) × (is_no_lower j k ≡ true)) order
      both = pair order ranked.distinct ranked.higher-first

  all-met : Accounted near is_no_lower share order
  all-met =
      record {
        chosen-some = some;
        chosen-distinct = chosen-each near (λ i j. i ≢ j) order ranked.distinct;
        chosen-apart = apart;
        listed-distinct = passing-each share (λ i j. i ≢ j) (chosen near order) (chosen-each near (λ i j. i ≢ j) order ranked.distinct);
        listed-are = λ i. (passing-are share (chosen near order) i, λ h. passing-has share (chosen near order) i h.0 h.1);
        missing = λ i m. (why i m, why-not i);
      }
    where
      why : (i : ℕ) → i ∈ order → (i ∈ listed near share order → ⊥) → GivesWay near is_no_lower (chosen near order) i ⊎ (share i ≡ false)
      why i m out = ⊎_elim (λ c. inr (go (share i) refl c)) inl (met i m)
        where
          go : (b : Bool) → share i ≡ b → i ∈ chosen near order → share i ≡ false
          go true e c = absurd (out (passing-has share (chosen near order) i c e))
          go false e c = e

      why-not : (i : ℕ) → GivesWay near is_no_lower (chosen near order) i ⊎ (share i ≡ false) → i ∈ listed near share order → ⊥
      why-not i (inl w) m = clash (near i w.to) w.close (apart i w.to (passing-are share (chosen near order) i m).0 w.among (λ e. w.other (sym e)))
      why-not i (inr h) m = clash (share i) (passing-are share (chosen near order) i m).1 h

pub account : AllAccounted
account near is_no_lower share order ranked = all-met near is_no_lower share order ranked
