-- What is known of the candidates of a row.
use Rattle.std.specs.Prelude.{◌≡◌, true, false, List, ℕ, suc, ◌+◌, ◌-◌, ◌/◌, ◌≤◌, ◌<◌, length, get_or, Float}
use Rattle.row_apex.specs.Apex.{is_candidate, candidates_to, candidates}

-- an index among 1 .. k that is a candidate
pub record CandidateAt (y : List Float) (k i : ℕ) : Type 0 where
  pub low : 1 ≤ i
  pub high : i ≤ k
  pub is : is_candidate y i ≡ true

-- no two candidates are neighbours: `not-neighbours` in proofs/Candidates.antt
abbrev pub NotNeighbours : Type 0
NotNeighbours = (y : List Float) (i : ℕ) → is_candidate y i ≡ true → is_candidate y (suc i) ≡ false

-- so at most every second sample is one: `count`
abbrev pub AtMostHalf : Type 0
AtMostHalf = (y : List Float) → length (candidates y) ≤ (length y - 1) / 2

-- every one that is listed is a candidate among 1 .. k: `listed`
abbrev pub OnlyCandidates : Type 0
OnlyCandidates = (y : List Float) (k j : ℕ) → j < length (candidates_to y k) → CandidateAt y k (get_or (candidates_to y k) j 0)

-- every candidate among 1 .. k is listed: `complete`
abbrev pub AllCandidates : Type 0
AllCandidates =
    (y : List Float) (k i : ℕ) → 1 ≤ i → i ≤ k → is_candidate y i ≡ true
    → (j : ℕ) × (j < length (candidates_to y k)) × (get_or (candidates_to y k) j 0 ≡ i)

-- they ascend, strictly, so that none is listed twice: `ascending`
abbrev pub CandidatesAscend : Type 0
CandidatesAscend =
    (y : List Float) (k i j : ℕ) → i < j → j < length (candidates_to y k)
    → get_or (candidates_to y k) i 0 < get_or (candidates_to y k) j 0

-- each has a neighbour on either side: `within`
abbrev pub Between : Type 0
Between =
    (y : List Float) (j : ℕ) → j < length (candidates y)
    → (1 ≤ get_or (candidates y) j 0) × (get_or (candidates y) j 0 ≤ length y - 2) × (get_or (candidates y) j 0 + 1 < length y)
