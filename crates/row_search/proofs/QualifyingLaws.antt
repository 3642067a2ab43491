-- What holds of the qualifying and of the kept apexes of a row: what `Account` asks of qualifying apexes, and how many there can be.
use mathlib.Core.Path.{◌≡◌, refl, ap}
use mathlib.Core.Bool.{Bool, true, false, cond, ◌&&◌}
use mathlib.Core.List.Memᴰ
use mathlib.Core.List.{List, [], ◌∷◌, ◌++◌}
use mathlib.Core.List.Memᴰ.{head as here}
use mathlib.Core.List.Memᴰ.{tail as there}
use mathlib.Core.Logic.{◌⊎◌, inl, inr, ⊎_elim}
use Prim.Native.Nat.{ℕ, zero, suc, ◌+◌, ◌-◌, ◌/◌, ◌≤◌}
use native.Mathlib.Omega.{arith}
use borrow.Author.Tests.{ltb-true, ltb-false}
use lib.Dec.{ltb}
use lib.ListN.{length}
use lib.Ieee.{Float, lt, le, is_nan}
use Rattle.numeric.specs.Arith.{at, 𝟎}
use Rattle.refusal.proofs.Bools.{clash}
use Rattle.numeric.proofs.Order.{lt-no-nan}
use Rattle.row_apex.specs.Apex.{is_candidate, candidates_to, candidates}
use Rattle.row_apex.specs.Candidates.{CandidateAt}
use Rattle.row_apex.proofs.Candidates.{count-to}
use Rattle.row_params.specs.Params.{most_peaks}
use Rattle.row_params.specs.declared.ImDetectParams.{ImDetectParams}
use Rattle.row_search.specs.Suppression.{keep, keep_all}
use Rattle.row_search.specs.Account.{◌∈◌, All, Ascending}
use Rattle.row_search.proofs.Account.{ascending-append, kept-length}
use Rattle.row_search.specs.Qualifying.{highest_reading, reaches, qualifies, that_qualify, qualifying, kept}
use Rattle.row_search.specs.QualifyingLaws.{OnlyQualifying, AllQualifying, QualifyingAscend, QualifyingNumbers, KeptCount}

-- ---- the qualifying apexes

-- the candidates among 1 .. k are candidates from 1 to k, and ascend
candidates-listed : (y : List Float) (k : ℕ) → All (CandidateAt y k) (candidates_to y k)
unfolding candidates_to
candidates-listed y zero i m = absurd (Memᴰ.not-nil m)
candidates-listed y (suc k) i m = go (is_candidate y (suc k)) refl (candidates-listed y k i) m
  where
    before : CandidateAt y k i → CandidateAt y (suc k) i
    before r = record { low = r.low; high = omega arith; is = r.is }

    last : is_candidate y (suc k) ≡ true → i ≡ suc k → CandidateAt y (suc k) i
    last e q = record { low = omega arith; high = omega arith; is = rw q e }

    go : (b : Bool) → is_candidate y (suc k) ≡ b → (i ∈ candidates_to y k → CandidateAt y k i) → i ∈ (candidates_to y k ++ cond b (suc k ∷ []) []) → CandidateAt y (suc k) i
    go true e f n = ⊎_elim (λ o. before (f o)) (λ o. last e (Memᴰ.eq_of_singleton o)) (Memᴰ.append_cases (candidates_to y k) n)
    go false e f n = ⊎_elim (λ o. before (f o)) (λ o. absurd (Memᴰ.not-nil o)) (Memᴰ.append_cases (candidates_to y k) n)

candidates-ascend : (y : List Float) (k : ℕ) → Ascending (candidates_to y k)
unfolding candidates_to
candidates-ascend y zero = tt
candidates-ascend y (suc k) = go (is_candidate y (suc k)) (candidates-ascend y k)
  where
    go : (b : Bool) → Ascending (candidates_to y k) → Ascending (candidates_to y k ++ cond b (suc k ∷ []) [])
    go true a =
        ascending-append (candidates_to y k) (suc k ∷ []) a (λ j m. absurd (Memᴰ.not-nil m), tt)
        (λ i m j n. let r = candidates-listed y k i m in let e : j ≡ suc k = Memᴰ.eq_of_singleton n in omega arith)
    go false a = ascending-append (candidates_to y k) [] a tt (λ i m j n. absurd (Memᴰ.not-nil n))

candidates-complete : (y : List Float) (k i : ℕ) → CandidateAt y k i → i ∈ candidates_to y k
unfolding candidates_to
candidates-complete y zero i r = absurd (omega arith)
candidates-complete y (suc k) i r = go (ltb i (suc k)) refl (candidates-complete y k i)
  where
    go : (b : Bool) → ltb i (suc k) ≡ b → (CandidateAt y k i → i ∈ candidates_to y k) → i ∈ (candidates_to y k ++ cond (is_candidate y (suc k)) (suc k ∷ []) [])
    go true e f =
        Memᴰ.append_left (cond (is_candidate y (suc k)) (suc k ∷ []) []) (f (record { low = r.low; high = omega (arith, ltb-true i (suc k) e); is = r.is }))
    go false e f =
        let q : i ≡ suc k = omega (arith, ltb-false i (suc k) e) in
        let c : is_candidate y (suc k) ≡ true = rw q at r.is in
        rw c (Memᴰ.append_right (candidates_to y k) (here q))

-- those of a list that qualify are some of it, and ascend as it does
qualify-some : (p : ImDetectParams) (y : List Float) (is : List ℕ) → All (λ i. (i ∈ is) × (qualifies p y i ≡ true)) (that_qualify p y is)
unfolding that_qualify
qualify-some p y [] i m = absurd (Memᴰ.not-nil m)
qualify-some p y (j ∷ is) i m = go (qualifies p y j) refl (λ n. let r = qualify-some p y is i n in (there r.0, r.1)) m
  where
    go : (b : Bool) → qualifies p y j ≡ b → (i ∈ that_qualify p y is → (i ∈ (j ∷ is)) × (qualifies p y i ≡ true))
        → i ∈ cond b (j ∷ that_qualify p y is) (that_qualify p y is) → (i ∈ (j ∷ is)) × (qualifies p y i ≡ true)
    go true e later n = ⊎_elim (λ (q : i ≡ j). (here q, rw q e)) later (Memᴰ.cases_cons n)
    go false e later n = later n

qualify-ascend : (p : ImDetectParams) (y : List Float) (is : List ℕ) → Ascending is → Ascending (that_qualify p y is)
unfolding that_qualify
qualify-ascend p y [] a = tt
qualify-ascend p y (j ∷ is) a = go (qualifies p y j) (qualify-ascend p y is a.1)
  where
    go : (b : Bool) → Ascending (that_qualify p y is) → Ascending (cond b (j ∷ that_qualify p y is) (that_qualify p y is))
    go true h = (λ i m. a.0 i (qualify-some p y is i m).0, h)
    go false h = h

-- a candidate is above its left neighbour, so its height is a number
no_nan : (y : List Float) (i : ℕ) → is_candidate y i ≡ true → is_nan (at y i) ≡ false
unfolding is_candidate
no_nan y i h = go (lt (at y (i - 1)) (at y i)) refl h
  where
    go : (b : Bool) → lt (at y (i - 1)) (at y i) ≡ b → (b && le (at y (i + 1)) (at y i)) ≡ true → is_nan (at y i) ≡ false
    go true e g = (lt-no-nan (at y (i - 1)) (at y i) e).1
    go false e g = clash false g refl

qualify-all : (p : ImDetectParams) (y : List Float) (is : List ℕ) (i : ℕ) → i ∈ is → qualifies p y i ≡ true → i ∈ that_qualify p y is
unfolding that_qualify
qualify-all p y [] i m h = absurd (Memᴰ.not-nil m)
qualify-all p y (j ∷ is) i m h = go (qualifies p y j) refl (λ n. qualify-all p y is i n h) (Memᴰ.cases_cons m)
  where
    go : (b : Bool) → qualifies p y j ≡ b → (i ∈ is → i ∈ that_qualify p y is) → (i ≡ j) ⊎ (i ∈ is) → i ∈ cond b (j ∷ that_qualify p y is) (that_qualify p y is)
    go true e f (inl q) = here q
    go true e f (inr n) = there (f n)
    go false e f (inl q) = clash (qualifies p y j) (rw q at h) e
    go false e f (inr n) = f n

-- the qualifying apexes ascend, strictly
pub qualifying-ascend : QualifyingAscend
unfolding qualifying
qualifying-ascend p y z = go (reaches p.min_prom (highest_reading 𝟎 z))
  where
    go : (b : Bool) → Ascending (cond b (that_qualify p y (candidates y)) [])
    go true = qualify-ascend p y (candidates y) (candidates-ascend y (length y - 2))
    go false = tt

-- each is a candidate of the row that qualifies, between its first sample and its last
pub qualifying-listed : OnlyQualifying
unfolding qualifying
qualifying-listed p y z i m = go (reaches p.min_prom (highest_reading 𝟎 z)) m
  where
    go : (b : Bool) → i ∈ cond b (that_qualify p y (candidates y)) [] → CandidateAt y (length y - 2) i × (qualifies p y i ≡ true)
    go true n = let r = qualify-some p y (candidates y) i n in (candidates-listed y (length y - 2) i r.0, r.1)
    go false n = absurd (Memᴰ.not-nil n)

-- and in a row that reaches the floor every such candidate is one of them
pub qualifying-complete : AllQualifying
unfolding qualifying
qualifying-complete p y z i g r h = rw g (qualify-all p y (candidates y) i (candidates-complete y (length y - 2) i r) h)

-- each height is a number
pub qualifying-no-nan : QualifyingNumbers
qualifying-no-nan p y z i m = no_nan y i (qualifying-listed p y z i m).0.is

-- ---- one sample after another

-- the apexes that are kept of the samples 1 .. k, in a row that reaches the floor
abbrev pub kept_to : ImDetectParams → List Float → ℕ → List ℕ
kept_to p y k = keep_all p.min_distance_scans y [] (that_qualify p y (candidates_to y k))

pub qualify-append : (p : ImDetectParams) (y : List Float) (is js : List ℕ) → that_qualify p y (is ++ js) ≡ that_qualify p y is ++ that_qualify p y js
unfolding that_qualify
qualify-append p y [] js = refl
qualify-append p y (i ∷ is) js = go (qualifies p y i) (qualify-append p y is js)
  where
    go : (b : Bool) → that_qualify p y (is ++ js) ≡ that_qualify p y is ++ that_qualify p y js
        → cond b (i ∷ that_qualify p y (is ++ js)) (that_qualify p y (is ++ js)) ≡ cond b (i ∷ that_qualify p y is) (that_qualify p y is) ++ that_qualify p y js
    go true h = ap (λ (l : List ℕ). i ∷ l) h
    go false h = h

pub keep_one : (p : ImDetectParams) (y : List Float) (ks : List ℕ) (i : ℕ)
    → keep_all p.min_distance_scans y ks (that_qualify p y (i ∷ [])) ≡ cond (qualifies p y i) (keep p.min_distance_scans y ks i) ks
unfolding that_qualify keep_all
keep_one p y ks i = go (qualifies p y i)
  where
    go : (b : Bool) → keep_all p.min_distance_scans y ks (cond b (i ∷ []) []) ≡ cond b (keep p.min_distance_scans y ks i) ks
    go true = refl
    go false = refl

-- one sample more
-- the row as a whole, whether or not its raw maximum reaches the floor
pub kept_high : (p : ImDetectParams) (y z : List Float) → reaches p.min_prom (highest_reading 𝟎 z) ≡ true → kept p y z ≡ kept_to p y (length y - 2)
unfolding kept qualifying
kept_high p y z h = rw h

pub kept_low : (p : ImDetectParams) (y z : List Float) → reaches p.min_prom (highest_reading 𝟎 z) ≡ false → kept p y z ≡ []
unfolding kept qualifying keep_all
kept_low p y z h = rw h

-- ---- how many are kept
qualify-count : (p : ImDetectParams) (y : List Float) (is : List ℕ) → length (that_qualify p y is) ≤ length is
unfolding that_qualify
qualify-count p y [] = omega arith
qualify-count p y (i ∷ is) = go (qualifies p y i) (qualify-count p y is)
  where
    go : (b : Bool) → length (that_qualify p y is) ≤ length is → length (cond b (i ∷ that_qualify p y is) (that_qualify p y is)) ≤ suc (length is)
    go true h = omega arith
    go false h = omega arith

pub kept-to-count : (p : ImDetectParams) (y : List Float) (k : ℕ) → length (kept_to p y k) ≤ (k + 1) / 2
kept-to-count p y k =
    omega (
      arith,
      kept-length p.min_distance_scans y (that_qualify p y (candidates_to y k)),
      qualify-count p y (candidates_to y k),
      count-to y k,
    )

pub kept-count : KeptCount
kept-count p y z = go (reaches p.min_prom (highest_reading 𝟎 z)) refl
  where
    go : (b : Bool) → reaches p.min_prom (highest_reading 𝟎 z) ≡ b → length (kept p y z) ≤ most_peaks (length y)
    go true e = rw (kept_high p y z e) (omega (arith, kept-to-count p y (length y - 2)))
    go false e = rw (kept_low p y z e) (omega arith)
