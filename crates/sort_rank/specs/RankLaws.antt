-- What holds of the element at a rank.
use Rattle.std.specs.Prelude.{◌≡◌, Bool, List, ℕ, ◌+◌, ◌≤◌, ◌<◌, T, length, get_or, Float}
use Rattle.std.specs.Float.Ieee.Scale.{finite}
use Rattle.numeric.specs.Arith.{at}
use Rattle.numeric.specs.Plain.{Plain, AllPlain}
use Rattle.sort_rank.specs.Rank.{counted, AtRank, ranked, ascending, AtRankF, rank_f, distances, steps}

-- there is at most one at a rank: `one_at` in proofs/Laws.antt
abbrev pub OneAtRank : Type 0
OneAtRank = (xs : List ℕ) (k v w : ℕ) → AtRank xs k v → AtRank xs k w → v ≡ w

-- there is one at each rank below the length, and `ranked` is it: `ranked-at` in proofs/Sorted.antt
abbrev pub SomeAtRank : Type 0
SomeAtRank = (xs : List ℕ) (k : ℕ) → k < length xs → AtRank xs k (ranked xs k)

-- it is one of the list: `at-rank-in`
abbrev pub OneOfList : Type 0
OneOfList = (xs : List ℕ) (k v : ℕ) → AtRank xs k v → (i : ℕ) × (i < length xs) × (get_or xs i 0 ≡ v)

-- it stands at place k of the ascending list: `ranked-sorted`
abbrev pub PlaceWhenSorted : Type 0
PlaceWhenSorted = (xs : List ℕ) (k : ℕ) → k < length xs → get_or (ascending xs) k 0 ≡ ranked xs k

-- that list ascends and has every element as often as the list: `ascends`, `counted-sorted`
abbrev pub Ascends : Type 0
Ascends = (xs : List ℕ) (k : ℕ) → k + 1 < length xs → get_or (ascending xs) k 0 ≤ get_or (ascending xs) (k + 1) 0

abbrev pub AsOften : Type 0
AsOften = (test : ℕ → Bool) (xs : List ℕ) → counted test (ascending xs) ≡ counted test xs

-- ---- readings that are numbers with a clear sign, in the order of floats

-- `rank_f` is at its rank: `rank-float` in proofs/Floats.antt
abbrev pub ReadingAtRank : Type 0
ReadingAtRank = (xs : List Float) (k : ℕ) → k < length xs → AllPlain xs → AtRankF xs k (rank_f xs k)

-- no other number with a clear sign is: `one_float`
abbrev pub OneReading : Type 0
OneReading = (xs : List Float) (k : ℕ) → k < length xs → AllPlain xs → (v : Float) → Plain v → AtRankF xs k v → v ≡ rank_f xs k

-- it is one of the readings: `rank-reading`
abbrev pub OneOfReadings : Type 0
OneOfReadings = (xs : List Float) (k : ℕ) → k < length xs → AllPlain xs → (i : ℕ) × (i < length xs) × (at xs i ≡ rank_f xs k)

-- distances and steps of finite readings are such numbers, those too high for a finite float infinity: `distances-plain`,
-- `steps-plain`
abbrev pub AllFinite : List Float → Type 0
AllFinite xs = (i : ℕ) → i < length xs → T (finite (at xs i))

abbrev pub DistancesPlain : Type 0
DistancesPlain = (m : Float) (xs : List Float) → T (finite m) → AllFinite xs → AllPlain (distances m xs)

abbrev pub StepsPlain : Type 0
StepsPlain = (xs : List Float) → AllFinite xs → AllPlain (steps xs)
