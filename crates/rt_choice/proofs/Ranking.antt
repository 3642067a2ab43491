-- What holds of apexes in an order.
use mathlib.Core.Path.{◌≡◌, refl, sym}
use mathlib.Core.Bool.{Bool, true, false, cond}
use mathlib.Core.List.Memᴰ
use mathlib.Core.List.{List, [], ◌∷◌}
use mathlib.Core.List.Memᴰ.{head as here}
use mathlib.Core.List.Memᴰ.{tail as there}
use mathlib.Core.Logic.{⊎_elim, ◌↔◌, ◌≢◌}
use Prim.Native.Nat.{ℕ}
use Rattle.refusal.proofs.Bools.{clash}
use Rattle.row_search.specs.Account.{◌∈◌, All}
use Rattle.rt_choice.specs.Chosen.{Distinct}
use Rattle.rt_choice.specs.Ranking.{before, inserted_by, ordered_by, InOrder, Strict, OrderedSame, OrderedDistinct, OrderedInOrder, BeforeStrict, OrderedRanked}
use Rattle.rt_choice.proofs.ChosenLaws.{each-imp}
use Rattle.row_search.proofs.Account.{all_none, all_cons, all_tail}

-- ---- sorting

module _ (first : ℕ → ℕ → Bool) where
  insert-ways : (P : List ℕ → Type 0) (i j : ℕ) (js : List ℕ) → (first j i ≡ true → P (j ∷ inserted_by first i js)) → (first j i ≡ false → P (i ∷ (j ∷ js))) → P (inserted_by first i (j ∷ js))
  unfolding inserted_by
  insert-ways P i j js past at_once = go (first j i) refl
    where
      go : (b : Bool) → first j i ≡ b → P (cond b (j ∷ inserted_by first i js) (i ∷ (j ∷ js)))
      go true e = past e
      go false e = at_once e

  insert_all : (P : ℕ → Type 0) (i : ℕ) (l : List ℕ) → P i → All P l → All P (inserted_by first i l)
  unfolding inserted_by
  insert_all P i [] h t = all_cons P i [] h t
  insert_all P i (j ∷ js) h t =
      insert-ways (All P) i j js
      (λ e. all_cons P j (inserted_by first i js) (t j (here refl)) (insert_all P i js h (all_tail P j js t)))
      (λ e. all_cons P i (j ∷ js) h t)

  insert-new : (i : ℕ) (l : List ℕ) → i ∈ inserted_by first i l
  unfolding inserted_by
  insert-new i [] = here refl
  insert-new i (j ∷ js) = insert-ways (λ l. i ∈ l) i j js (λ e. there (insert-new i js)) (λ e. here refl)

  insert-old : (i : ℕ) (l : List ℕ) (k : ℕ) → k ∈ l → k ∈ inserted_by first i l
  unfolding inserted_by
  insert-old i [] k m = absurd (Memᴰ.not-nil m)
  insert-old i (j ∷ js) k m =
      insert-ways (λ l. k ∈ l) i j js
      (λ e. ⊎_elim (λ (q : k ≡ j). here q) (λ n. there (insert-old i js k n)) (Memᴰ.cases_cons m))
      (λ e. there m)

  ordered-all : (P : ℕ → Type 0) (l : List ℕ) → All P l → All P (ordered_by first l)
  unfolding ordered_by
  ordered-all P [] t = t
  ordered-all P (i ∷ is) t = insert_all P i (ordered_by first is) (t i (here refl)) (ordered-all P is (all_tail P i is t))

  ordered-has : (l : List ℕ) → All (λ i. i ∈ ordered_by first l) l
  unfolding ordered_by
  ordered-has [] = all_none (λ i. i ∈ [])
  ordered-has (i ∷ is) =
      all_cons (λ k. k ∈ inserted_by first i (ordered_by first is)) i is (insert-new i (ordered_by first is))
      (λ k m. insert-old i (ordered_by first is) k (ordered-has is k m))

  same : (l : List ℕ) (i : ℕ) → (i ∈ ordered_by first l) ↔ (i ∈ l)
  same l i = (ordered-all (λ k. k ∈ l) l (λ k m. m) i, ordered-has l i)

  insert-distinct : (i : ℕ) (l : List ℕ) → All (λ k. i ≢ k) l → Distinct l → Distinct (inserted_by first i l)
  unfolding inserted_by
  insert-distinct i [] a d = (all_none (λ k. i ≢ k), tt)
  insert-distinct i (j ∷ js) a d =
      insert-ways Distinct i j js
      (λ e. (insert_all (λ k. j ≢ k) i js (λ q. a j (here refl) (sym q)) d.0, insert-distinct i js (all_tail (λ k. i ≢ k) j js a) d.1))
      (λ e. (a, d))

  distinct : (l : List ℕ) → Distinct l → Distinct (ordered_by first l)
  unfolding ordered_by
  distinct [] d = tt
  distinct (i ∷ is) d = insert-distinct i (ordered_by first is) (ordered-all (λ k. i ≢ k) is d.0) (distinct is d.1)

  insert-in-order : (i : ℕ) (l : List ℕ) → Strict first (i ∷ l) → InOrder first l → InOrder first (inserted_by first i l)
  unfolding inserted_by
  insert-in-order i [] s o = (all_none (λ k. first k i ≡ false), tt)
  insert-in-order i (j ∷ js) s o =
      insert-ways (InOrder first) i j js
      (λ e. (
        insert_all (λ k. first k j ≡ false) i js (s.one_way j i (there (here refl)) (here refl) e) o.0,
        insert-in-order i js
            (record {
              one_way = λ a b m n. s.one_way a b (skip a m) (skip b n);
              onward = λ a b c m n q. s.onward a b c (skip a m) (skip b n) (skip c q);
            })
            o.1,
      ))
      (λ e. (
        all_cons (λ k. first k i ≡ false) j js e (λ k m. s.onward i j k (here refl) (there (here refl)) (there (there m)) e (o.0 k m)),
        o,
      ))
    where
      skip : (k : ℕ) → k ∈ (i ∷ js) → k ∈ (i ∷ (j ∷ js))
      skip k m = ⊎_elim (λ (e : k ≡ i). here e) (λ n. there (there n)) (Memᴰ.cases_cons m)

  -- fewer ones are compared no worse
  fewer : (l k : List ℕ) → All (λ i. i ∈ l) k → Strict first l → Strict first k
  fewer l k f s =
      record {
        one_way = λ a b m n. s.one_way a b (f a m) (f b n);
        onward = λ a b c m n q. s.onward a b c (f a m) (f b n) (f c q);
      }

  in_order : (l : List ℕ) → Strict first l → InOrder first (ordered_by first l)
  unfolding ordered_by
  in_order [] s = tt
  in_order (i ∷ is) s =
      insert-in-order i (ordered_by first is)
      (fewer (i ∷ is) (i ∷ ordered_by first is)
      (all_cons (λ k. k ∈ (i ∷ is)) i (ordered_by first is) (here refl) (λ k m. there ((same is k).0 m))) s)
      (in_order is (fewer (i ∷ is) is (λ k m. there m) s))

pub ordered_same : OrderedSame
ordered_same first l i = same first l i

pub ordered-distinct : OrderedDistinct
ordered-distinct first l d = distinct first l d

pub ordered-in-order : OrderedInOrder
ordered-in-order first l s = in_order first l s

-- ---- a rule for ties

module _ (lower tie : ℕ → ℕ → Bool) where
  not_lower : (i j : ℕ) → before lower tie j i ≡ false → lower i j ≡ false
  unfolding before
  not_lower i j h = go (lower i j) h
    where
      go : (b : Bool) → cond b true (cond (lower j i) false (tie j i)) ≡ false → b ≡ false
      go true h = h
      go false h = refl

  not-tied : (i j : ℕ) → before lower tie j i ≡ false → lower j i ≡ false → tie j i ≡ false
  unfolding before
  not-tied i j h g = go (lower i j) (lower j i) h g
    where
      go : (b c : Bool) → cond b true (cond c false (tie j i)) ≡ false → c ≡ false → tie j i ≡ false
      go true c h g = clash true refl h
      go false true h g = clash true refl g
      go false false h g = h

  both-strict : (l : List ℕ) → Strict (λ i j. lower j i) l → Strict tie l → Strict (before lower tie) l
  unfolding before
  both-strict l s t = record { one_way = one; onward = on }
    where
      one : (i j : ℕ) → i ∈ l → j ∈ l → before lower tie i j ≡ true → before lower tie j i ≡ false
      one i j m n h = go (lower j i) (lower i j) refl refl h
        where
          go : (a b : Bool) → lower j i ≡ a → lower i j ≡ b → cond a true (cond b false (tie i j)) ≡ true → cond b true (cond a false (tie j i)) ≡ false
          go true true d e h = clash (lower i j) e (s.one_way i j m n d)
          go true false d e h = refl
          go false true d e h = clash false h refl
          go false false d e h = t.one_way i j m n h

      on : (i j k : ℕ) → i ∈ l → j ∈ l → k ∈ l → before lower tie j i ≡ false → before lower tie k j ≡ false → before lower tie k i ≡ false
      on i j k m n q g h =
          let ij : lower i j ≡ false = not_lower i j g in
          let jk : lower j k ≡ false = not_lower j k h in
          let ik : lower i k ≡ false = s.onward i j k m n q ij jk in
          go (lower k i) refl ik ij jk
        where
          go : (b : Bool) → lower k i ≡ b → lower i k ≡ false → lower i j ≡ false → lower j k ≡ false → cond (lower i k) true (cond b false (tie k i)) ≡ false
          go true e ik ij jk = rw ik
          go false e ik ij jk =
              let kj : lower k j ≡ false = s.onward k i j q m n e ij in
              let ji : lower j i ≡ false = s.onward j k i n q m jk e in
              rw ik (t.onward i j k m n q (not-tied i j g ji) (not-tied j k h kj))

pub before-strict : BeforeStrict
before-strict lower tie l s t = both-strict lower tie l s t

-- ---- ranked

pub ordered-ranked : OrderedRanked
ordered-ranked near is_no_lower lower tie apexes d s t n b =
    let first = before lower tie in
    let order = ordered_by first apexes in
    let old : (i : ℕ) → i ∈ order → i ∈ apexes = (λ i m. (ordered_same first apexes i).0 m) in
    record {
      distinct = ordered-distinct first apexes d;
      higher-first = each-imp (λ i j. first j i ≡ false) (λ i j. is_no_lower j i ≡ true) order
          (λ i j m k h. n i (old i m) j (old j k) (not_lower lower tie i j h))
          (ordered-in-order first apexes (before-strict lower tie apexes s t));
      both_ways = λ i m j k. b i (old i m) j (old j k);
    }
