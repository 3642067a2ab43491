-- What may be relied on in a stitched list and its owner column, said of the words handed back.
use Rattle.std.specs.Prelude.{◌≡◌, Bool, cond, List, [], ◌∷◌, ◌++◌, ℕ, ◌<◌, eqb, length, get_or}
use Rattle.row_record.specs.Record.{peak_at}
use Rattle.row_record.specs.declared.ImPeak1D.{ImPeak1D}
use Rattle.stitch_peaks.specs.Extremes.{lowest_of, highest_of}
use Rattle.stitch_peaks.specs.PeakList.{nth, list_words}
use Rattle.stitch_peaks.specs.PeakListLaws.{AllFit}
use Rattle.sort_digits.specs.Sorted.{up_to}
use Rattle.stitch_matching.specs.declared.StitchParams.{StitchParams}
use Rattle.stitch_merging.specs.MergingLaws.{Bound, low, high}
use Rattle.stitch_grouping.specs.Grouping.{peaks_at}
use Rattle.stitch_passes.specs.Stitching.{stitched, owners_of}
use Rattle.stitch_passes.specs.Steps.{Stitched}

-- the places of which a test is true
unfoldable pub places_of : (ℕ → Bool) → List ℕ → List ℕ
places_of test [] = []
places_of test (p ∷ qs) = cond (test p) (p ∷ places_of test qs) (places_of test qs)

-- The owner of an input peak, by its place: what the owner column has there. It is the place of a stitched peak.
abbrev pub owner_at : List ℕ → ℕ → ℕ
owner_at owners p = get_or owners p 0

-- The members of a stitched peak are the input peaks that it owns: of n peaks, the places at which the owner column has its place k.
unfoldable pub members_of : List ℕ → ℕ → ℕ → List ℕ
members_of owners n k = places_of (λ p. eqb (owner_at owners p) k) (up_to n)

-- `count` stitched peaks, whose records stand at the front of `out`, and the owner column at the front of `owners`, account for the input
-- peaks ps.
pub record StitchedAccount (ps : List ImPeak1D) (count : ℕ) (out owners : List ℕ) : Type 0 where
  -- each input peak has an owner among the stitched peaks, and no second one, since a place has one number
  pub owned : (p : ℕ) → p < length ps → owner_at owners p < count
  -- each stitched peak has a member at least
  pub some : (k : ℕ) → k < count → 0 < length (members_of owners (length ps) k)
  -- its low bounds, in TOF, frame index, frame number, scan and absolute scan, are the lowest of its members'
  pub lows : (k : ℕ) → k < count → (b : Bound) → low b (peak_at out k) ≡ lowest_of (low b) (peaks_at ps (members_of owners (length ps) k))
  -- its high bounds are the highest of its members'
  pub highs : (k : ℕ) → k < count → (b : Bound) → high b (peak_at out k) ≡ highest_of (high b) (peaks_at ps (members_of owners (length ps) k))
  -- its identity is the least of its members'
  pub identity : (k : ℕ) → k < count → (peak_at out k).id ≡ lowest_of (λ p. p.id) (peaks_at ps (members_of owners (length ps) k))
  -- no two stitched peaks have one identity
  pub distinct : (j k : ℕ) → j < count → k < count → (peak_at out j).id ≡ (peak_at out k).id → j ≡ k

-- no two peaks of a list have one identity; a list in which two have is refused, with number 8
abbrev pub DistinctIds : List ImPeak1D → Type 0
DistinctIds ps = (p q : ℕ) → p < length ps → q < length ps → (nth ps p).id ≡ (nth ps q).id → p ≡ q

-- The stitched peaks of such a list account for it, whatever stands behind their records and behind the owner column. That all floats fit
-- holds of every list that is read from words (PeaksFit in stitch_peaks). `account` in proofs/Account.antt
abbrev pub AccountHolds : Type 0
AccountHolds =
    (params : StitchParams) (ps : List ImPeak1D) (behind behind_owners : List ℕ) → AllFit ps → DistinctIds ps
    → StitchedAccount ps (length (stitched params ps)) (list_words (stitched params ps) ++ behind) (owners_of params ps ++ behind_owners)

-- so it is with what the two passes leave in the lists that are lent: `left-account`
abbrev pub LeftAccount : Type 0
LeftAccount =
    (params : StitchParams) (ps : List ImPeak1D) (out₀ owners₀ : List ℕ) (count : ℕ) (out owners : List ℕ)
    → Stitched params ps out₀ owners₀ count out owners → AllFit ps → DistinctIds ps → StitchedAccount ps count out owners
