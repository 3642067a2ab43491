-- What the suppression by least distance d makes of the qualifying apexes qs of a row y, for every d (specs/Account.antt).
use mathlib.Core.Path.{◌≡◌, refl, sym, ap, ◌∙◌}
use mathlib.Core.Bool.{Bool, true, false, cond}
use mathlib.Core.List.Memᴰ
use mathlib.Core.List.{List, [], ◌∷◌, ◌++◌, reverse_aux}
use mathlib.Core.List.Memᴰ.{head as here}
use mathlib.Core.List.Memᴰ.{tail as there}
use mathlib.Core.Logic.{◌⊎◌, inl, inr, ⊎_elim, ◌≢◌}
use Prim.Native.Nat.{ℕ, suc, ◌+◌, ◌-◌, ◌≤◌, ◌<◌}
use native.Mathlib.Omega.{arith}
use borrow.Author.Tests.{ltb-true, ltb-false}
use lib.Dec.{ltb}
use lib.ListN.{length}
use lib.Ieee.{Float, lt, le}
use Rattle.numeric.specs.Arith.{at}
use Rattle.numeric.proofs.Order.{not-le, lt-le}
use Rattle.row_search.specs.Suppression.{keep, keep_all}
use Rattle.row_search.specs.Account.{◌∈◌, All, Ascending, Descending, NoNan, dist, Leads, listed, step, GivesWay, Accounted, KeptQualify, KeptDescend, KeptApart, AllAccounted, AllKept, FewKept}

-- ---- lists
pub all_none : (P : ℕ → Type 0) → All P []
all_none P i m = absurd (Memᴰ.not-nil m)

pub all_cons : (P : ℕ → Type 0) (i : ℕ) (l : List ℕ) → P i → All P l → All P (i ∷ l)
all_cons P i l h t j m = ⊎_elim (λ (e : j ≡ i). rw e h) (t j) (Memᴰ.cases_cons m)

pub all_tail : (P : ℕ → Type 0) (i : ℕ) (l : List ℕ) → All P (i ∷ l) → All P l
all_tail P i l f j m = f j (there m)

-- two ascending lists join to one if all of the first come before all of the second
pub ascending-append : (a b : List ℕ) → Ascending a → Ascending b → All (λ i. All (λ j. i < j) b) a → Ascending (a ++ b)
ascending-append [] b f g h = g
ascending-append (i ∷ a) b f g h =
    (λ j m. ⊎_elim (f.0 j) (h i (here refl) j) (Memᴰ.append_cases a m), ascending-append a b f.1 g (all_tail (λ k. All (λ j. k < j) b) i a h))

-- every one of ks comes before every one of is
abbrev Before : List ℕ → List ℕ → Type 0
Before ks is = All (λ j. All (λ k. k < j) ks) is

none_before : (is : List ℕ) → Before [] is
none_before is j m = all_none (λ k. k < j)

-- ---- one apex
-- the next apex p is left out, takes the place of the newest, or is added
keep-ways : (P : List ℕ → Type 0) (d : ℕ) (y : List Float) (last : ℕ) (older : List ℕ) (p : ℕ)
    → (p - last < d → le (at y p) (at y last) ≡ true → P (last ∷ older))
    → (p - last < d → le (at y p) (at y last) ≡ false → P (p ∷ older))
    → (d ≤ p - last → P (p ∷ last ∷ older))
    → P (keep d y (last ∷ older) p)
unfolding keep
keep-ways P d y last older p out instead too = go (ltb (p - last) d) (le (at y p) (at y last)) refl refl
  where
    go : (s t : Bool) → ltb (p - last) d ≡ s → le (at y p) (at y last) ≡ t → P (cond s (cond t (last ∷ older) (p ∷ older)) (p ∷ last ∷ older))
    go true true e h = out (ltb-true (p - last) d e) h
    go true false e h = instead (ltb-true (p - last) d e) h
    go false t e h = too (ltb-false (p - last) d e)

keep-All : (P : ℕ → Type 0) (d : ℕ) (y : List Float) (ks : List ℕ) (p : ℕ) → P p → All P ks → All P (keep d y ks p)
unfolding keep
keep-All P d y [] p h t = all_cons P p [] h t
keep-All P d y (last ∷ older) p h t =
    keep-ways (All P) d y last older p
    (λ n e. t)
    (λ n e. all_cons P p older h (all_tail P last older t))
    (λ n. all_cons P p (last ∷ older) h t)

keep_all-all : (P : ℕ → Type 0) (d : ℕ) (y : List Float) (ks is : List ℕ) → All P ks → All P is → All P (keep_all d y ks is)
unfolding keep_all
keep_all-all P d y ks [] h t = h
keep_all-all P d y ks (i ∷ is) h t = keep_all-all P d y (keep d y ks i) is (keep-All P d y ks i (t i (here refl)) h) (all_tail P i is t)

keep-before : (d : ℕ) (y : List Float) (ks : List ℕ) (i : ℕ) (is : List ℕ) → Ascending (i ∷ is) → Before ks (i ∷ is) → Before (keep d y ks i) is
keep-before d y ks i is a b j m = keep-All (λ k. k < j) d y ks i (a.0 j m) (b j (there m))

-- ---- order and distance
-- each of ks is above all that follow it, by d at least
abbrev Falling : ℕ → List ℕ → Type 0
Falling d [] = Unit {0}
Falling d (k ∷ older) = All (λ j. (j < k) × (j + d ≤ k)) older × Falling d older

keep-falling : (d : ℕ) (y : List Float) (ks : List ℕ) (p : ℕ) → All (λ k. k < p) ks → Falling d ks → Falling d (keep d y ks p)
unfolding keep
keep-falling d y [] p b f = (all_none (λ j. (j < p) × (j + d ≤ p)), tt)
keep-falling d y (last ∷ older) p b f =
    let l : last < p = b last (here refl) in
    let above : All (λ j. (j < p) × (j + d ≤ p)) older = (λ j m. let r = f.0 j m in omega arith) in
    keep-ways (Falling d) d y last older p
    (λ n h. f)
    (λ n h. (above, f.1))
    (λ n. (all_cons (λ j. (j < p) × (j + d ≤ p)) last older (omega arith) above, f))

keep_all-falling : (d : ℕ) (y : List Float) (ks is : List ℕ) → Ascending is → Before ks is → Falling d ks → Falling d (keep_all d y ks is)
unfolding keep_all
keep_all-falling d y ks [] a b f = f
keep_all-falling d y ks (i ∷ is) a b f =
    keep_all-falling d y (keep d y ks i) is a.1 (keep-before d y ks i is a b) (keep-falling d y ks i (b i (here refl)) f)

kept-falling : (d : ℕ) (y : List Float) (qs : List ℕ) → Ascending qs → Falling d (keep_all d y [] qs)
kept-falling d y qs a = keep_all-falling d y [] qs a (none_before qs) tt

falling-descending : (d : ℕ) (ks : List ℕ) → Falling d ks → Descending ks
falling-descending d [] f = tt
falling-descending d (k ∷ older) f = (λ j m. (f.0 j m).0, falling-descending d older f.1)

falling-apart : (d : ℕ) (ks : List ℕ) → Falling d ks → (i j : ℕ) → i ∈ ks → j ∈ ks → i ≢ j → d ≤ dist i j
falling-apart d [] f i j m n h = absurd (Memᴰ.not-nil m)
falling-apart d (k ∷ older) f i j m n h = go (falling-apart d older f.1 i j) (Memᴰ.cases_cons m) (Memᴰ.cases_cons n)
  where
    go : (i ∈ older → j ∈ older → i ≢ j → d ≤ dist i j) → (i ≡ k) ⊎ (i ∈ older) → (j ≡ k) ⊎ (j ∈ older) → d ≤ dist i j
    go below (inl e) (inl q) = absurd (h (e ∙ sym q))
    go below (inl e) (inr n) = omega (arith, f.0 j n)
    go below (inr m) (inl q) = omega (arith, f.0 i m)
    go below (inr m) (inr n) = below m n h

-- ---- the chain
-- what led to one of ks leads to one of ls, if all of ks do
relead : {d : ℕ} {y : List Float} {qs ks ls : List ℕ} {c : ℕ} → All (Leads d y qs ls) ks → Leads d y qs ks c → Leads d y qs ls c
relead f (listed {c} m) = f c m
relead f (step to q l n h r) = step to q l n h (relead f r)

reaccount : {d : ℕ} {y : List Float} {qs ks ls : List ℕ} {i : ℕ} → All (Accounted d y qs ls) ks → All (Leads d y qs ls) ks
    → Accounted d y qs ks i → Accounted d y qs ls i
reaccount {i} f g (inl m) = f i m
reaccount f g (inr r) =
    inr (record { to = r.to; qualifies = r.qualifies; other = r.other; near = r.near; no_lower = r.no_lower; leads = relead g r.leads })

-- with ls in place of ks the apex p is accounted for, and so is all that was before
abbrev Carries : ℕ → List Float → List ℕ → List ℕ → ℕ → List ℕ → Type 0
Carries d y qs ks p ls = Accounted d y qs ls p × ((i : ℕ) → Accounted d y qs ks i → Accounted d y qs ls i)

-- p is added: nothing ends differently
added : (d : ℕ) (y : List Float) (qs ks : List ℕ) (p : ℕ) → Carries d y qs ks p (p ∷ ks)
added d y qs ks p = (inl (here refl), λ i. reaccount (λ k m. inl (there m)) (λ k m. listed (there m)))

-- p stands nearer to the newest than d
module _ (d : ℕ) (y : List Float) (qs older : List ℕ) (last p : ℕ) (q : p ∈ qs) (r : last ∈ qs) (l : last < p) (n : p - last < d) where
  -- p is left out: it gives way to the newest
  left_out : le (at y p) (at y last) ≡ true → Carries d y qs (last ∷ older) p (last ∷ older)
  left_out h =
      (inr (record { to = last; qualifies = r; other = omega arith; near = omega arith; no_lower = h; leads = listed (here refl) }), λ i a. a)

  -- p takes the place of the newest, which gives way to it: what led to the newest goes on to p
  instead : lt (at y last) (at y p) ≡ true → Carries d y qs (last ∷ older) p (p ∷ older)
  instead h =
      let ls = p ∷ older in
      let new : Leads d y qs ls p = listed (here refl) in
      let way : GivesWay d y qs ls last = record { to = p; qualifies = q; other = omega arith; near = omega arith; no_lower = lt-le (at y last) (at y p) h; leads = new } in
      let accounts : All (Accounted d y qs ls) (last ∷ older) = all_cons (Accounted d y qs ls) last older (inr way) (λ k m. inl (there m)) in
      let leads : All (Leads d y qs ls) (last ∷ older) = all_cons (Leads d y qs ls) last older (step p q l n h new) (λ k m. listed (there m)) in
      (inl (here refl), λ i. reaccount accounts leads)

module _ (d : ℕ) (y : List Float) (qs : List ℕ) (numbers : NoNan y qs) where
  keep-carries : (ks : List ℕ) (p : ℕ) → p ∈ qs → All (λ k. k ∈ qs) ks → All (λ k. k < p) ks → Carries d y qs ks p (keep d y ks p)
  unfolding keep
  keep-carries [] p q s b = added d y qs [] p
  keep-carries (last ∷ older) p q s b =
      let r : last ∈ qs = s last (here refl) in
      let l : last < p = b last (here refl) in
      keep-ways (Carries d y qs (last ∷ older) p) d y last older p
      (λ n h. left_out d y qs older last p q r l n h)
      (λ n h. instead d y qs older last p q r l n (not-le (at y p) (at y last) (numbers p q) (numbers last r) h))
      (λ n. added d y qs (last ∷ older) p)

  keep_all-accounts : (ks is : List ℕ) → All (λ k. k ∈ qs) ks → All (λ k. k ∈ qs) is → Ascending is → Before ks is
      → (i : ℕ) → Accounted d y qs ks i ⊎ (i ∈ is) → Accounted d y qs (keep_all d y ks is) i
  unfolding keep_all
  keep_all-accounts ks [] s t a b i (inl r) = r
  keep_all-accounts ks [] s t a b i (inr m) = absurd (Memᴰ.not-nil m)
  keep_all-accounts ks (p ∷ is) s t a b i w =
      keep_all-accounts (keep d y ks p) is (keep-All (λ k. k ∈ qs) d y ks p q s) (all_tail (λ k. k ∈ qs) p is t) a.1 (keep-before d y ks p is a b) i
      (⊎_elim (λ r. inl (now.1 i r)) (λ m. ⊎_elim (λ (e : i ≡ p). inl (rw e now.0)) inr (Memᴰ.cases_cons m)) w)
    where
      q : p ∈ qs
      q = t p (here refl)

      now : Carries d y qs ks p (keep d y ks p)
      now = keep-carries ks p q s (b p (here refl))

-- ---- a least distance of 0 or 1
keep-adds : (d : ℕ) (y : List Float) (ks : List ℕ) (p : ℕ) → d ≤ 1 → All (λ k. k < p) ks → keep d y ks p ≡ p ∷ ks
unfolding keep
keep-adds d y [] p h b = refl
keep-adds d y (last ∷ older) p h b =
    let l : last < p = b last (here refl) in
    keep-ways (λ ls. ls ≡ p ∷ last ∷ older) d y last older p (λ n e. absurd (omega arith)) (λ n e. absurd (omega arith)) (λ n. refl)

keep_all-adds : (d : ℕ) (y : List Float) (ks is : List ℕ) → d ≤ 1 → Ascending is → Before ks is → keep_all d y ks is ≡ reverse_aux is ks
unfolding keep_all
keep_all-adds d y ks [] h a b = refl
keep_all-adds d y ks (i ∷ is) h a b =
    keep_all-adds d y (keep d y ks i) is h a.1 (keep-before d y ks i is a b) ∙ ap (reverse_aux is) (keep-adds d y ks i h (b i (here refl)))

-- ---- lengths
pub keep-length : (d : ℕ) (y : List Float) (ks : List ℕ) (p : ℕ) → length (keep d y ks p) ≤ suc (length ks)
unfolding keep
keep-length d y [] p = omega arith
keep-length d y (last ∷ older) p =
    keep-ways (λ ls. length ls ≤ suc (suc (length older))) d y last older p (λ n e. omega arith) (λ n e. omega arith) (λ n. omega arith)

keep_all-length : (d : ℕ) (y : List Float) (ks is : List ℕ) → length (keep_all d y ks is) ≤ length ks + length is
unfolding keep_all
keep_all-length d y ks [] = omega arith
keep_all-length d y ks (i ∷ is) = omega (arith, keep_all-length d y (keep d y ks i) is, keep-length d y ks i)

-- ---- the theorems

-- every apex kept is a qualifying one
pub kept-qualify : KeptQualify
kept-qualify d y qs = keep_all-all (λ k. k ∈ qs) d y [] qs (all_none (λ k. k ∈ qs)) (λ k m. m)

-- the apexes kept descend: read from the oldest on they ascend
pub kept-descend : KeptDescend
kept-descend d y qs a = falling-descending d (keep_all d y [] qs) (kept-falling d y qs a)

-- any two apexes kept are at least d apart
pub kept-apart : KeptApart
kept-apart d y qs a = falling-apart d (keep_all d y [] qs) (kept-falling d y qs a)

-- every qualifying apex is kept, or gives way, step by step, to one that is
pub all-accounted : AllAccounted
all-accounted d y qs a h i m = keep_all-accounts d y qs h [] qs (all_none (λ k. k ∈ qs)) (λ k n. n) a (none_before qs) i (inr m)

-- with a least distance of 0 or 1 every qualifying apex is kept
pub all-kept : AllKept
all-kept d y qs h a = keep_all-adds d y [] qs h a (none_before qs)

-- no more apexes are kept than qualify
pub kept-length : FewKept
kept-length d y qs = omega (arith, keep_all-length d y [] qs)

-- the apexes may come in two parts, one after the other
pub keep_all-append : (d : ℕ) (y : List Float) (ks a b : List ℕ) → keep_all d y ks (a ++ b) ≡ keep_all d y (keep_all d y ks a) b
unfolding keep_all
keep_all-append d y ks [] b = refl
keep_all-append d y ks (i ∷ a) b = keep_all-append d y (keep d y ks i) a b
