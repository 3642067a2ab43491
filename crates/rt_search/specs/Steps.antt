-- What the search asks of a trace, and what it leaves.
use Rattle.std.specs.Prelude.{◌≡◌, true, List, map, ℕ, ◌≤◌, ◌<◌, length, get_or, take, Float}
use Rattle.limits.specs.Limits.{any_number, exact_index}
use Rattle.numeric.specs.Numeric.{all_in_range}
use Rattle.row_params.specs.Params.{most_peaks}
use Rattle.row_search.specs.Found.{measured_of, measured_at}
use Rattle.rt_listing.specs.Places.{index_at, Inside}
use Rattle.rt_search.specs.Retention.{listed_apexes}

-- what is measured of an apex stands at a place of the list of what was found
pub record Stands (y z : List Float) (found : List ℕ) (p : ℕ) : Type 0 where
  pub inside : Inside (length y) found p
  pub is : measured_at found p ≡ measured_of y z (index_at found p)

-- so at each of the first m places
abbrev pub AllStand : List Float → List Float → List ℕ → ℕ → Type 0
AllStand y z found m = (p : ℕ) → p < m → Stands y z found p

-- A trace that can be searched with scratch for so many samples: times and raw readings for each smoothed one, which are numbers with a
-- clear sign. The order has this length; it needs a word for each apex that the trace can have.
pub record RtSearchable (y z t : List Float) (samples order : ℕ) : Type 0 where
  pub numbers : all_in_range any_number y ≡ true
  pub raw : length z ≡ length y
  pub times : length t ≡ length y
  pub short : length y ≤ exact_index
  pub room : length y ≤ samples
  pub order-long : most_peaks (length y) ≤ order

-- The n listed apexes of a trace: the first n words of `order` are their places in `found`, in the final order.
pub record RtFound (floor sep min_width : Float) (y z t : List Float) (found order : List ℕ) (n : ℕ) : Type 0 where
  pub count : n ≡ length (listed_apexes floor sep min_width y z t)
  pub few : n ≤ most_peaks (length y)
  pub room : n ≤ length order
  pub apexes : map (index_at found) (take n order) ≡ listed_apexes floor sep min_width y z t
  pub stand : (k : ℕ) → k < n → Stands y z found (get_or order k 0)
