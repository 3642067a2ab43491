-- That the listed apexes of a retention trace stand by time. RtAccount.antt has the order of the bit patterns of their apex times. These times
-- are numbers with a clear sign, and such numbers order like their patterns. y is the smoothed trace, z the raw one, t the times.
use Rattle.std.specs.Prelude.{◌≡◌, true, false, T, List, Ok, ℕ, ◌+◌, ◌≤◌, ◌<◌, length, Float}
use Rattle.std.specs.Float.{binary32}
use Rattle.std.specs.Float.Ieee.{fits, is_nan, lt, le}
use Rattle.limits.specs.Limits.{max_seconds, any_number, exact_index}
use Rattle.numeric.specs.Numeric.{in_range, all_in_range}
use Rattle.numeric.specs.Plain.{AllFit}
use Rattle.row_search.specs.Account.{All}
use Rattle.rt_choice.specs.Chosen.{Each}
use Rattle.rt_time.specs.Time.{time_at}
use Rattle.rt_record.specs.RtRecord.{local_at}
use Rattle.rt_apex.specs.InTime.{apex_time}
use Rattle.rt_search.specs.Retention.{higher_first, listed_apexes}
use Rattle.rt_peaks.specs.Trace.{RtCall, Answered}

-- ---- what is asked: an accepted call has it, of readings with the limit 2^33. That readings and times are binary32 values is so of every f32;
-- owning a slice of them does not tell it.

-- readings from plus zero to a limit, whichever it is, below infinity
pub record Readings (y : List Float) : Type 0 where
  pub limit : ℕ
  pub below : limit < any_number
  pub ranged : all_in_range limit y ≡ true
  pub held : AllFit y

-- times from plus zero to 2^20 seconds, whether or not they fall, 2^24 of them at most
pub record Times (t : List Float) : Type 0 where
  pub few : length t ≤ exact_index
  pub ranged : all_in_range max_seconds t ≡ true
  pub held : AllFit t

-- ---- apex times

-- a number from plus zero to 2^20 seconds, so no NaN, no infinity, and not minus zero
pub record ClearTime (x : Float) : Type 0 where
  pub held : T (fits binary32 x)
  pub ranged : in_range max_seconds x ≡ true

-- the time at a place that is a number is such a one: `clear-places` in proofs/ClearTimes.antt
abbrev pub ClearPlaces : Type 0
ClearPlaces = (t : List Float) (x : Float) → Times t → T (fits binary32 x) → is_nan x ≡ false → ClearTime (time_at t x)

-- so is the apex time of each frame that has one behind it, as a candidate has: `clear-times`. That of the last frame, and one among
-- infinite readings, can be a NaN (specs/Cases.antt).
abbrev pub ClearTimes : Type 0
ClearTimes = (y t : List Float) (i : ℕ) → Readings y → Times t → i + 1 < length y → ClearTime (apex_time y t i)

-- ---- by time

-- What holds of the listed apexes, one before another.
pub record ListedByTime (floor sep min_width : Float) (y z t : List Float) : Type 0 where
  pub clear : All (λ i. ClearTime (apex_time y t i)) (listed_apexes floor sep min_width y z t)
  -- none is reached later than one behind it
  pub by-time : Each (λ i j. le (apex_time y t i) (apex_time y t j) ≡ true) (listed_apexes floor sep min_width y z t)
  -- of two that are reached at one time the first is the one that comes first in the choice
  pub of-equal : Each (λ i j. lt (apex_time y t i) (apex_time y t j) ≡ false → higher_first y i j ≡ true) (listed_apexes floor sep min_width y z t)

-- whatever the floor, the least separation and the least width: `by-time` in proofs/TimesInOrder.antt
abbrev pub ByTime : Type 0
ByTime = (floor sep min_width : Float) (y z t : List Float) → Readings y → Times t → ListedByTime floor sep min_width y z t

-- ---- records

-- the first `count` of some times are such numbers, and none is above one behind it
pub record InTime (time : ℕ → Float) (count : ℕ) : Type 0 where
  pub clear : (k : ℕ) → k < count → ClearTime (time k)
  pub by-time : (j k : ℕ) → j < k → k < count → le (time j) (time k) ≡ true

-- What holds of `count` records of a list of words: each bears the apex time of its frame, and they stand by it.
pub record RecordsInTime (y t : List Float) (out : List ℕ) (count : ℕ) : Type 0 where
  pub apex-time : (k : ℕ) → k < count → (local_at out k).apex.rt_sec ≡ apex_time y t (local_at out k).apex.rt_idx
  pub in-time : InTime (λ k. (local_at out k).apex.rt_sec) count

-- so do the records that a call hands back: `records-by-time`
abbrev pub RecordsByTime : Type 0
RecordsByTime =
    (c : RtCall) (out₀ out scratch₀ scratch : List ℕ) (count : ℕ) → AllFit c.smoothed → AllFit c.times
    → Answered c out₀ out scratch₀ scratch (Ok count) → RecordsInTime c.smoothed c.times out count
