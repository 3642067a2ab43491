-- What holds of the qualifying and of the kept apexes of a row: y is the smoothed row, z the raw one; nothing is asked of them.
use Rattle.std.specs.Prelude.{◌≡◌, true, List, ℕ, ◌-◌, ◌≤◌, length, Float}
use Rattle.numeric.specs.Arith.{𝟎}
use Rattle.row_apex.specs.Candidates.{CandidateAt}
use Rattle.row_params.specs.Params.{most_peaks}
use Rattle.row_params.specs.declared.ImDetectParams.{ImDetectParams}
use Rattle.row_search.specs.Account.{◌∈◌, All, Ascending, NoNan}
use Rattle.row_search.specs.Qualifying.{highest_reading, reaches, qualifies, qualifying, kept}

-- each is a candidate of the row that qualifies, between its first sample and its last: `qualifying-listed` in proofs/QualifyingLaws.antt
abbrev pub OnlyQualifying : Type 0
OnlyQualifying = (p : ImDetectParams) (y z : List Float) → All (λ i. CandidateAt y (length y - 2) i × (qualifies p y i ≡ true)) (qualifying p y z)

-- in a row that reaches the floor every such candidate is one of them: `qualifying-complete`
abbrev pub AllQualifying : Type 0
AllQualifying =
    (p : ImDetectParams) (y z : List Float) (i : ℕ) → reaches p.min_prom (highest_reading 𝟎 z) ≡ true
    → CandidateAt y (length y - 2) i → qualifies p y i ≡ true → i ∈ qualifying p y z

-- they ascend, strictly: `qualifying-ascend`
abbrev pub QualifyingAscend : Type 0
QualifyingAscend = (p : ImDetectParams) (y z : List Float) → Ascending (qualifying p y z)

-- the height of each is a number: `qualifying-no-nan`
abbrev pub QualifyingNumbers : Type 0
QualifyingNumbers = (p : ImDetectParams) (y z : List Float) → NoNan y (qualifying p y z)

-- no more are kept than a row of its length can have: `kept-count`
abbrev pub KeptCount : Type 0
KeptCount = (p : ImDetectParams) (y z : List Float) → length (kept p y z) ≤ most_peaks (length y)
