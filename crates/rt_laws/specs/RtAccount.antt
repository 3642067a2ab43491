-- The account of every qualifying retention apex of a trace: y is the smoothed trace, z the raw one, t the times. Nothing is asked of
-- them, nor of the floor, the least separation and the least width.
use Rattle.std.specs.Prelude.{◌≡◌, Bool, true, false, List, [], map, ◌++◌, ◌⊎◌, ◌↔◌, ◌≢◌, ℕ, ◌-◌, ◌≤◌, ◌<◌, length, get_or, Float}
use Rattle.std.specs.Float.Ieee.{le}
use Rattle.numeric.specs.Arith.{at, 𝟎}
use Rattle.numeric.specs.Plain.{word}
use Rattle.row_apex.specs.Apex.{prominence}
use Rattle.row_apex.specs.Candidates.{CandidateAt}
use Rattle.row_search.specs.Account.{◌∈◌, All}
use Rattle.row_search.specs.Qualifying.{highest_reading, reaches}
use Rattle.rt_choice.specs.Chosen.{Each, Distinct, GivesWay}
use Rattle.rt_choice.specs.Ranking.{InOrder}
use Rattle.rt_choice.specs.Times.{near_in_time}
use Rattle.rt_record.specs.RtRecord.{local_at}
use Rattle.rt_record.specs.declared.RtLocalPeak.{RtLocalPeak}
use Rattle.rt_apex.specs.InTime.{apex_time}
use Rattle.rt_search.specs.Retention.{is_wide, rt_qualifying, earlier_first, chosen_apexes, has_shares, listed_apexes, rt_peaks}
use Rattle.rt_peaks.specs.Trace.{peak_words}

-- ---- what qualifies

-- a candidate of a trace whose raw maximum reaches the floor, with a prominence that reaches it and a width that reaches the least width
pub record Qualifies (floor min_width : Float) (y z t : List Float) (i : ℕ) : Type 0 where
  pub raw-reaches : reaches floor (highest_reading 𝟎 z) ≡ true
  pub candidate : CandidateAt y (length y - 2) i
  pub prominent : reaches floor (prominence y i) ≡ true
  pub wide : is_wide min_width y t i ≡ true

-- these apexes, and no others, are the qualifying ones: `qualifying-are` in proofs/RtAccount.antt
abbrev pub QualifyingAre : Type 0
QualifyingAre = (floor min_width : Float) (y z t : List Float) (i : ℕ) → (i ∈ rt_qualifying floor min_width y z t) ↔ Qualifies floor min_width y z t i

-- there are none in fewer than 3 frames, nor where the raw maximum does not reach the floor: `none-in-few`, `none_below`
abbrev pub NoneInFew : Type 0
NoneInFew = (floor sep min_width : Float) (y z t : List Float) → length y < 3 → rt_peaks floor sep min_width y z t ≡ []

abbrev pub NoneBelow : Type 0
NoneBelow = (floor sep min_width : Float) (y z t : List Float) → reaches floor (highest_reading 𝟎 z) ≡ false → rt_peaks floor sep min_width y z t ≡ []

-- ---- the account

-- j is no lower than i
abbrev pub no_lower : List Float → ℕ → ℕ → Bool
no_lower y i j = le (at y i) (at y j)

-- i is another apex than one of ks that is no lower and lies closer to it in time than the least separation
abbrev pub YieldsTo : List Float → List Float → Float → List ℕ → ℕ → Type 0
YieldsTo y t sep ks i = GivesWay (near_in_time (apex_time y t) sep) (no_lower y) ks i

-- What holds of the apexes of a trace. A qualifying one is missing from the list exactly if another chosen one, no lower, lies closer in
-- time than the least separation, or if it fails a share.
pub record RtAccounted (floor sep min_width : Float) (y z t : List Float) : Type 0 where
  pub chosen-qualify : All (λ i. i ∈ rt_qualifying floor min_width y z t) (chosen_apexes floor sep min_width y z t)
  pub chosen-apart : (i j : ℕ) → i ∈ chosen_apexes floor sep min_width y z t → j ∈ chosen_apexes floor sep min_width y z t → i ≢ j
      → near_in_time (apex_time y t) sep i j ≡ false
  pub listed-qualify : All (λ i. i ∈ rt_qualifying floor min_width y z t) (listed_apexes floor sep min_width y z t)
  pub listed-distinct : Distinct (listed_apexes floor sep min_width y z t)
  pub listed-in-order : InOrder (earlier_first y t) (listed_apexes floor sep min_width y z t)
  pub listed-by-time : Each (λ i j. word (apex_time y t i) ≤ word (apex_time y t j)) (listed_apexes floor sep min_width y z t)
  pub listed-are : (i : ℕ) → (i ∈ listed_apexes floor sep min_width y z t)
      ↔ ((i ∈ chosen_apexes floor sep min_width y z t) × (has_shares y z (chosen_apexes floor sep min_width y z t) i ≡ true))
  pub missing : (i : ℕ) → i ∈ rt_qualifying floor min_width y z t
      → (i ∈ listed_apexes floor sep min_width y z t → ⊥)
      ↔ (YieldsTo y t sep (chosen_apexes floor sep min_width y z t) i ⊎ (has_shares y z (chosen_apexes floor sep min_width y z t) i ≡ false))

-- it holds of every trace: `rt-account`
abbrev pub AllRtAccounted : Type 0
AllRtAccounted = (floor sep min_width : Float) (y z t : List Float) → RtAccounted floor sep min_width y z t

-- ---- records

-- the records bear the listed apexes as their frames, in that order: `peaks-bear`
abbrev pub PeaksBear : Type 0
PeaksBear = (floor sep min_width : Float) (y z t : List Float) → map (λ (p : RtLocalPeak). p.apex.rt_idx) (rt_peaks floor sep min_width y z t) ≡ listed_apexes floor sep min_width y z t

-- and so they do as words of a list, whatever stands behind them: `words-bear`
abbrev pub WordsBear : Type 0
WordsBear =
    (floor sep min_width : Float) (y z t : List Float) (rest : List ℕ) (k : ℕ) → k < length (listed_apexes floor sep min_width y z t)
    → (local_at (peak_words (rt_peaks floor sep min_width y z t) ++ rest) k).apex.rt_idx ≡ get_or (listed_apexes floor sep min_width y z t) k 0
