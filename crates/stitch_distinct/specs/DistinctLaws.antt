-- What distinct identities are, in terms of places.
use Rattle.std.specs.Prelude.{◌≡◌, true, List, ℕ, ◌<◌, length}
use Rattle.row_record.specs.declared.ImPeak1D.{ImPeak1D}
use Rattle.stitch_peaks.specs.PeakList.{nth}
use Rattle.stitch_distinct.specs.Distinct.{distinct_ids}

-- no two places have the same identity
abbrev pub NoTwo : List ImPeak1D → Type 0
NoTwo ps = (j k : ℕ) → j < length ps → k < length ps → (nth ps j).id ≡ (nth ps k).id → j ≡ k

-- so it is where identities are distinct: `distinct-tells` in proofs/DistinctLaws.antt
abbrev pub DistinctTells : Type 0
DistinctTells = (ps : List ImPeak1D) → distinct_ids ps ≡ true → NoTwo ps

-- and only there: `tells-distinct`
abbrev pub TellsDistinct : Type 0
TellsDistinct = (ps : List ImPeak1D) → NoTwo ps → distinct_ids ps ≡ true
