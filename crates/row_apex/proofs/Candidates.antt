-- What is known of the candidates of a row: no two are neighbours, so that at most every second sample is one; none is at
-- an end of the row; and all of them are listed, once each, ascending.
use mathlib.Core.Path.{◌≡◌, refl, sym, ap, ◌∙◌}
use mathlib.Core.Bool.{Bool, true, false, cond}
use mathlib.Core.List.{List, [], ◌∷◌, ◌++◌, append-nil}
use mathlib.Core.Logic.{◌⊎◌, inl, inr}
use Prim.Native.Nat.{ℕ, zero, suc, ◌+◌, ◌-◌, ◌/◌, ◌≤◌, ◌<◌}
use native.Mathlib.Omega.{arith}
use native.Mathlib.Numerals.{add-one, sub-one}
use borrow.Author.Tests.{ltb-true, ltb-false}
use lib.Dec.{ltb}
use lib.ListN.{length, get_or, length-append, get_or-append}
use lib.Seq.{get_or_at}
use lib.Ieee.{Float, lt, le}
use Rattle.numeric.specs.Arith.{at}
use Rattle.refusal.proofs.Bools.{both}
use Rattle.numeric.proofs.Order.{le_not_lt}
use Rattle.row_apex.specs.Apex.{is_candidate, candidates_to}
use Rattle.row_apex.specs.Candidates.{NotNeighbours, AtMostHalf, OnlyCandidates, AllCandidates, CandidatesAscend, Between}

-- ---- no two are neighbours
pub not-neighbours : NotNeighbours
unfolding is_candidate
not-neighbours y i h =
    let k : le (at y (i + 1)) (at y i) ≡ true = (both (lt (at y (i - 1)) (at y i)) h).1 in
    let n : lt (at y i) (at y (suc i)) ≡ false = le_not_lt (at y i) (at y (suc i)) (rw add-one at k) in
    rw (sub-one, n)

-- ---- one sample more
pub one_more : (y : List Float) (k : ℕ) → is_candidate y (suc k) ≡ true → candidates_to y (suc k) ≡ candidates_to y k ++ (suc k ∷ [])
unfolding candidates_to
one_more y k h = rw h

pub none_more : (y : List Float) (k : ℕ) → is_candidate y (suc k) ≡ false → candidates_to y (suc k) ≡ candidates_to y k
unfolding candidates_to
none_more y k h = rw h (append-nil _)

-- ---- how many there are
count-step : (y : List Float) (k : ℕ) → length (candidates_to y (suc k)) ≤ length (candidates_to y k) + 1
count-step y k = go (is_candidate y (suc k)) refl
  where
    go : (b : Bool) → is_candidate y (suc k) ≡ b → length (candidates_to y (suc k)) ≤ length (candidates_to y k) + 1
    go true e = rw (one_more y k e, length-append) (omega arith)
    go false e = rw (none_more y k e) (omega arith)

-- two samples more, and one candidate more at most
count-two : (y : List Float) (k : ℕ) → length (candidates_to y (suc (suc k))) ≤ length (candidates_to y k) + 1
count-two y k = go (is_candidate y (suc k)) refl
  where
    go : (b : Bool) → is_candidate y (suc k) ≡ b → length (candidates_to y (suc (suc k))) ≤ length (candidates_to y k) + 1
    go true e = rw (none_more y (suc k) (not-neighbours y (suc k) e)) (count-step y k)
    go false e = rw (← none_more y k e) (count-step y (suc k))

pub count-to : (y : List Float) (k : ℕ) → length (candidates_to y k) ≤ (k + 1) / 2
unfolding candidates_to
count-to y zero = omega arith
count-to y (suc zero) = omega (arith, count-step y zero)
count-to y (suc (suc k)) = omega (arith, count-to y k, count-two y k)

pub count : AtMostHalf
count y = omega (arith, count-to y (length y - 2))

-- ---- where they stand
none : (y : List Float) → length (candidates_to y 0) ≡ 0
unfolding candidates_to
none y = refl

-- those that are listed stay in their places as others come
kept : (y : List Float) (k j : ℕ) → j < length (candidates_to y k) → get_or (candidates_to y (suc k)) j 0 ≡ get_or (candidates_to y k) j 0
unfolding candidates_to
kept y k j h = get_or-append (candidates_to y k) (cond (is_candidate y (suc k)) (suc k ∷ []) []) 0 j h

grows : (y : List Float) (k : ℕ) → length (candidates_to y k) ≤ length (candidates_to y (suc k))
unfolding candidates_to
grows y k = rw length-append (omega arith)

-- the one at j of those among 1 .. k + 1 stood there before, or it is k + 1
abbrev Split : List Float → ℕ → ℕ → Type 0
Split y k j =
    ((j < length (candidates_to y k)) × (get_or (candidates_to y (suc k)) j 0 ≡ get_or (candidates_to y k) j 0))
    ⊎ ((j ≡ length (candidates_to y k)) × (get_or (candidates_to y (suc k)) j 0 ≡ suc k) × (is_candidate y (suc k) ≡ true))

split : (y : List Float) (k j : ℕ) → j < length (candidates_to y (suc k)) → Split y k j
split y k j h = go (is_candidate y (suc k)) refl
  where
    l : List ℕ
    l = candidates_to y k

    new : (b : Bool) → ltb j (length l) ≡ b → is_candidate y (suc k) ≡ true → Split y k j
    new true d e = let p = ltb-true j (length l) d in inl (p, kept y k j p)
    new false d e =
        let p : j ≡ length l = omega (arith, ltb-false j (length l) d, simp (one_more y k e, length-append) at h) in
        inr (p, rw (one_more y k e) (get_or_at l (suc k) [] 0 j (sym p)), e)

    go : (b : Bool) → is_candidate y (suc k) ≡ b → Split y k j
    go true e = new (ltb j (length l)) refl e
    go false e = inl (rw (none_more y k e) at h, ap (λ (q : List ℕ). get_or q j 0) (none_more y k e))

-- every one that is listed is a candidate among 1 .. k
pub listed : OnlyCandidates
listed y zero j h = absurd (omega (arith, none y))
listed y (suc k) j h =
    elim (split y k j h) [
      | inl w ↦ let r = listed y k j w.0 in rw w.1 (record { low = r.low; high = omega arith; is = r.is })
      | inr w ↦ rw w.1 (record { low = omega arith; high = omega arith; is = w.2 })
    ]

-- and the list ascends
pub ascending : CandidatesAscend
ascending y zero i j p h = absurd (omega (arith, none y))
ascending y (suc k) i j p h =
    elim (split y k j h) [
      | inl w ↦ omega (arith, w.1, kept y k i (omega arith), ascending y k i j p w.0)
      | inr w ↦ let q : i < length (candidates_to y k) = omega arith in omega (arith, w.1, kept y k i q, (listed y k i q).high)
    ]

-- and every candidate among 1 .. k is listed
pub complete : AllCandidates
complete y zero i p q h = absurd (omega arith)
complete y (suc k) i p q h = go (ltb i (suc k)) refl (λ (r : i ≤ k). complete y k i p r h)
  where
    l : List ℕ
    l = candidates_to y k

    Found : ℕ → Type 0
    Found n = (j : ℕ) × (j < length (candidates_to y n)) × (get_or (candidates_to y n) j 0 ≡ i)

    go : (b : Bool) → ltb i (suc k) ≡ b → (i ≤ k → Found k) → Found (suc k)
    go true e f = let r = f (omega (arith, ltb-true i (suc k) e)) in (r.0, omega (arith, grows y k, r.1), kept y k r.0 r.1 ∙ r.2)
    go false e f =
        let d : i ≡ suc k = omega (arith, ltb-false i (suc k) e) in
        let s = one_more y k (rw d at h) in
        (length l, rw (s, length-append) (omega arith), rw (s, d) (get_or_at l (suc k) [] 0 (length l) refl))

-- a candidate of a row has a neighbour on each side
pub within : Between
within y j h = let r = listed y (length y - 2) j h in (r.low, r.high, omega arith)
