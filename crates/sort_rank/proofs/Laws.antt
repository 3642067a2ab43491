-- Laws of counts and ranks, and of the search for an element by halving.
use mathlib.Core.Path.{◌≡◌, refl, sym, ap, subst}
use mathlib.Core.Bool.{Bool, true, false, cond, ◌&&◌}
use mathlib.Core.List.{List, [], ◌∷◌}
use Prim.Native.Nat.{ℕ, suc, ◌+◌, ◌≤◌, ◌<◌, max}
use native.Mathlib.Numerals.{add-one}
use native.Mathlib.Omega.{arith}
use native.Mathlib.Nat.{le_trans}
use borrow.Author.Tests.{ltb-true, ltb-false, leb-true, leb-false, lt-ltb, le-ltb}
use lib.Dec.{ltb, leb}
use lib.ListN.{length, get_or, drop, drop_of_length-le}
use lib.Seq.{drop-cons}
use Rattle.refusal.proofs.Bools.{clash}
use Rattle.sort_rank.specs.Rank.{counted, smaller, at_most, AtRank, first_at, ranked, highest_to}
use Rattle.sort_rank.specs.RankLaws.{OneAtRank}

-- ---- counts

-- of two tests, the second passes what the first does
pub counted-le : {A : Type 0} (p q : A → Bool) (xs : List A) → ((x : A) → p x ≡ true → q x ≡ true) → counted p xs ≤ counted q xs
unfolding counted
counted-le p q [] h = omega arith
counted-le p q (x ∷ xs) h = go (p x) refl (q x) refl (counted-le p q xs h)
  where
    go : (b : Bool) → p x ≡ b → (c : Bool) → q x ≡ c → counted p xs ≤ counted q xs → cond b 1 0 + counted p xs ≤ cond c 1 0 + counted q xs
    go true d true e r = omega arith
    go true d false e r = clash (q x) (h x d) e
    go false d true e r = omega arith
    go false d false e r = omega arith

pub at-most-smaller : (v w : ℕ) (xs : List ℕ) → v < w → at_most v xs ≤ smaller w xs
at-most-smaller v w xs h = counted-le (λ x. leb x v) (λ x. ltb x w) xs (λ x e. lt-ltb x w (let l = leb-true x v e in omega arith))

pub smaller-zero : (xs : List ℕ) → smaller 0 xs ≡ 0
unfolding counted
smaller-zero [] = refl
smaller-zero (x ∷ xs) = rw (le-ltb x 0 (omega arith), smaller-zero xs)

-- ---- the highest element up to h counts as h does
pub high_le : (h : ℕ) (xs : List ℕ) → highest_to h xs ≤ h
unfolding highest_to
high_le h [] = omega arith
high_le h (x ∷ xs) = go (leb x h) refl (high_le h xs)
  where
    go : (b : Bool) → leb x h ≡ b → highest_to h xs ≤ h → max (cond b x 0) (highest_to h xs) ≤ h
    go true e r = omega (arith, leb-true x h e)
    go false e r = omega arith

between-same : (h m : ℕ) (xs : List ℕ) → highest_to h xs ≤ m → m ≤ h → at_most m xs ≡ at_most h xs
unfolding highest_to counted
between-same h m [] a b = refl
between-same h m (x ∷ xs) a b = go (leb x h) refl (leb x m) refl a (λ l. between-same h m xs l b)
  where
    go : (s : Bool) → leb x h ≡ s → (t : Bool) → leb x m ≡ t → max (cond s x 0) (highest_to h xs) ≤ m → (highest_to h xs ≤ m → at_most m xs ≡ at_most h xs)
        → cond t 1 0 + at_most m xs ≡ cond s 1 0 + at_most h xs
    go true d true e l r = ap (λ (n : ℕ). 1 + n) (r (omega arith))
    go false d false e l r = ap (λ (n : ℕ). 0 + n) (r (omega arith))
    go true d false e l r = absurd (omega (arith, leb-false x m e))
    go false d true e l r = absurd (omega (arith, leb-false x h d, leb-true x m e))

pub high_same : (h : ℕ) (xs : List ℕ) → at_most (highest_to h xs) xs ≡ at_most h xs
high_same h xs = between-same h (highest_to h xs) xs (omega arith) (high_le h xs)

-- ---- one element at a rank
pub one_at : OneAtRank
one_at xs k v w a b = go (ltb v w) refl (ltb w v) refl
  where
    go : (s : Bool) → ltb v w ≡ s → (t : Bool) → ltb w v ≡ t → v ≡ w
    go true d t e = absurd (let h = at-most-smaller v w xs (ltb-true v w d) in omega (arith, a.enough, b.few))
    go false d true e = absurd (let h = at-most-smaller w v xs (ltb-true w v e) in omega (arith, b.enough, a.few))
    go false d false e = omega (arith, ltb-false v w d, ltb-false w v e)

-- x is not v, so it adds as much to both counts
pub rest_has : (x v s u : ℕ) → (x ≡ v → ⊥) → cond (ltb x v) 1 0 + s < cond (leb x v) 1 0 + u → s < u
rest_has x v s u n h = go (ltb x v) refl (leb x v) refl h
  where
    go : (b : Bool) → ltb x v ≡ b → (c : Bool) → leb x v ≡ c → cond b 1 0 + s < cond c 1 0 + u → s < u
    go true d true e h = omega arith
    go true d false e h = omega arith
    go false d false e h = omega arith
    go false d true e h = absurd (omega (arith, ltb-false x v d, leb-true x v e, n))

found : (xs : List ℕ) (k v : ℕ) (rest : List ℕ) → AtRank xs k v → smaller v rest < at_most v rest → first_at xs k rest ≡ v
unfolding first_at counted
found xs k v [] a h = absurd (omega arith)
found xs k v (x ∷ rest) a h = go (leb (smaller x xs) k) refl (ltb k (at_most x xs)) refl (λ n. found xs k v rest a (rest_has x v (smaller v rest) (at_most v rest) n h))
  where
    go : (b : Bool) → leb (smaller x xs) k ≡ b → (c : Bool) → ltb k (at_most x xs) ≡ c → ((x ≡ v → ⊥) → first_at xs k rest ≡ v) → cond (b && c) x (first_at xs k rest) ≡ v
    go true d true e r = one_at xs k x v (record { few = leb-true (smaller x xs) k d; enough = ltb-true k (at_most x xs) e }) a
    go true d false e r = r (λ q. absurd (let l : at_most x xs ≤ k = ltb-false k (at_most x xs) e in let g : k < at_most x xs = subst (λ (z : ℕ). k < at_most z xs) (sym q) a.enough in omega arith))
    go false d c e r = r (λ q. absurd (let l : k < smaller x xs = leb-false (smaller x xs) k d in let g : smaller x xs ≤ k = subst (λ (z : ℕ). smaller z xs ≤ k) (sym q) a.few in omega arith))

counted-length : {A : Type 0} (p : A → Bool) (xs : List A) → counted p xs ≤ length xs
unfolding counted
counted-length p [] = omega arith
counted-length p (x ∷ xs) = go (p x) (counted-length p xs)
  where
    go : (b : Bool) → counted p xs ≤ length xs → cond b 1 0 + counted p xs ≤ suc (length xs)
    go true h = omega arith
    go false h = omega arith

none : (xs : List ℕ) (k : ℕ) (rest : List ℕ) → length xs ≤ k → first_at xs k rest ≡ 0xffff_ffff
unfolding first_at
none xs k [] h = refl
none xs k (x ∷ rest) h = let l : at_most x xs ≤ k = le_trans (counted-length (λ y. leb y x) xs) h in
    rw (le-ltb k (at_most x xs) l) (go (leb (smaller x xs) k) (none xs k rest h))
  where
    go : (b : Bool) → first_at xs k rest ≡ 0xffff_ffff → cond (b && false) x (first_at xs k rest) ≡ 0xffff_ffff
    go true e = e
    go false e = e

-- what is at rank k is `ranked`, and beyond the last rank that is all ones
pub ranked-is : (xs : List ℕ) (k v : ℕ) → AtRank xs k v → v ≡ ranked xs k
unfolding ranked
ranked-is xs k v a = sym (found xs k v xs a (omega (arith, a.few, a.enough)))

pub ranked-beyond : (xs : List ℕ) (k : ℕ) → length xs ≤ k → 0xffff_ffff ≡ ranked xs k
unfolding ranked
ranked-beyond xs k h = sym (none xs k xs h)

-- ---- halving: the element at rank k lies from lo to hi
pub record Between (xs : List ℕ) (k lo hi : ℕ) : Type 0 where
  pub ordered : lo ≤ hi
  pub few-below : smaller lo xs ≤ k
  pub enough-to : k < at_most hi xs

pub between-all : (xs : List ℕ) (k : ℕ) → k < at_most 0xffff_ffff xs → Between xs k 0 (highest_to 0xffff_ffff xs)
between-all xs k h = record {
  ordered = omega arith;
  few-below = rw (smaller-zero xs) (omega arith);
  enough-to = rw (high_same 0xffff_ffff xs) h;
}

-- an upper end that counts as much
pub between-tight : (xs : List ℕ) (k lo hi top : ℕ) → Between xs k lo hi → at_most top xs ≡ at_most hi xs → Between xs k lo top
between-tight xs k lo hi top b e =
    let n : k < at_most top xs = subst (λ (z : ℕ). k < z) (sym e) b.enough-to in
    record {
      ordered = go (ltb top lo) refl n;
      few-below = b.few-below;
      enough-to = n;
    }
  where
    go : (s : Bool) → ltb top lo ≡ s → k < at_most top xs → lo ≤ top
    go true d n = absurd (let u = at-most-smaller top lo xs (ltb-true top lo d) in omega (arith, b.few-below))
    go false d n = ltb-false top lo d

pub between-one : (xs : List ℕ) (k lo hi : ℕ) → Between xs k lo hi → hi ≤ lo → lo ≡ ranked xs k
between-one xs k lo hi b h =
    let e : hi ≡ lo = omega (arith, b.ordered) in
    ranked-is xs k lo (record { few = b.few-below; enough = subst (λ (z : ℕ). k < at_most z xs) e b.enough-to })

-- ---- passes over a list: x is the element at i
pub pass_step : (ws : List ℕ) (i x w : ℕ) → i < length ws → x ≡ get_or ws i 0 → at_most w (drop i ws) ≡ cond (leb x w) 1 0 + at_most w (drop (i + 1) ws)
unfolding counted
pass_step ws i x w h e = rw (add-one, drop-cons ws i 0 h, e)

pub one-at-most : (b : Bool) → cond b 1 0 ≤ 1
one-at-most true = omega arith
one-at-most false = omega arith

pub pass-end : (ws : List ℕ) (i w : ℕ) → length ws ≤ i → at_most w (drop i ws) ≡ 0
unfolding counted
pass-end ws i w h = rw (drop_of_length-le ws {i = i} h)

pub high-step : (ws : List ℕ) (i x h m : ℕ) → i < length ws → x ≡ get_or ws i 0 → max m (highest_to h (drop i ws)) ≡ max (max m (cond (leb x h) x 0)) (highest_to h (drop (i + 1) ws))
unfolding highest_to
high-step ws i x h m l e = rw (add-one, drop-cons ws i 0 l, e) (three m (cond (leb (get_or ws i 0) h) (get_or ws i 0) 0) (highest_to h (drop (suc i) ws)))
  where
    three : (a b c : ℕ) → max a (max b c) ≡ max (max a b) c
    three a b c = omega arith

pub high_end : (ws : List ℕ) (i h m : ℕ) → length ws ≤ i → max m (highest_to h (drop i ws)) ≡ m
unfolding highest_to
high_end ws i h m l = rw (drop_of_length-le ws {i = i} l) (omega arith)
