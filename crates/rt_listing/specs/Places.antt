-- Apexes of a trace that are known by their places in the list of what was found: what they are ordered by, which are chosen, and which
-- are listed.
use Rattle.std.specs.Prelude.{◌≡◌, Bool, not, List, [], ◌∷◌, ℕ, ◌+◌, ◌-◌, ◌*◌, ◌≤◌, ◌<◌, T, length, get_or, Float}
use Rattle.std.specs.Float.{binary32}
use Rattle.std.specs.Float.Ieee.{lt, of_bits, fits}
use Rattle.limits.specs.Limits.{any_number, exact_index}
use Rattle.numeric.specs.Plain.{word, word_in}
use Rattle.row_search.specs.Found.{found_size, measured_at}
use Rattle.row_search.specs.declared.inner.Measured.{Measured}
use Rattle.rt_apex.specs.InTime.{apex_time, seconds_of}
use Rattle.sort_digits.specs.Sorted.{up_to, sorted_by}
use Rattle.rt_choice.specs.Chosen.{chosen, passing}
use Rattle.rt_choice.specs.Times.{near_in_time}
use Rattle.rt_listing.specs.Shares.{trace_area, best_area, meets_shares}

-- the apex at a place, and its area
abbrev pub index_at : List ℕ → ℕ → ℕ
index_at found p = get_or found (p * found_size) 0

abbrev pub area_at : List ℕ → ℕ → Float
area_at found p = of_bits binary32 (get_or found (p * found_size + 7) 0)

-- a place whose apex has a neighbour on either side, in a trace of n frames
pub record Inside (n : ℕ) (found : List ℕ) (p : ℕ) : Type 0 where
  pub room : p * found_size + found_size ≤ length found
  pub low : 0 < index_at found p
  pub high : index_at found p + 1 < n

-- all of the first m places are such
abbrev pub AllInside : ℕ → List ℕ → ℕ → Type 0
AllInside n found m = (p : ℕ) → p < m → Inside n found p

-- the first k of a list are places below m
abbrev pub Below : ℕ → List ℕ → ℕ → Type 0
Below m l k = (j : ℕ) → j < k → get_or l j 0 < m

-- each place of a list is one of an apex in the list of what was found
abbrev pub AllFound : List ℕ → List ℕ → Type 0
AllFound found cs = (j : ℕ) → j < length cs → get_or cs j 0 * found_size + found_size ≤ length found

-- whether an apex is wide enough, in a trace of n frames, by what is measured of it
unfoldable pub wide : List Float → ℕ → Float → Measured → Bool
wide t n min_width a = not (lt (seconds_of t n a.left_x a.right_x).width min_width)

abbrev pub wide_at : List ℕ → List Float → ℕ → Float → ℕ → Bool
wide_at found t n min_width p = wide t n min_width (measured_at found p)

-- the first m words of a list are as said
abbrev pub Filled : (ℕ → ℕ → Type 0) → ℕ → List ℕ → Type 0
Filled P m l = (p : ℕ) → p < m → P p (get_or l p 0)

-- a word that is lower for a higher apex
abbrev pub height_word : List Float → List ℕ → ℕ → ℕ
height_word y found p = any_number - word_in y (index_at found p)

abbrev pub HeightAt : List Float → List ℕ → ℕ → ℕ → Type 0
HeightAt y found p w = w ≡ height_word y found p

-- the time of the apex at a place, and its pattern
abbrev pub time_at_place : List Float → List Float → List ℕ → ℕ → Float
time_at_place y t found p = apex_time y t (index_at found p)

pub record TimeAt (y t : List Float) (found : List ℕ) (p w : ℕ) : Type 0 where
  pub is : w ≡ word (time_at_place y t found p)
  pub fit : T (fits binary32 (time_at_place y t found p))

-- the keys of both orders
abbrev pub by_height : List Float → List ℕ → ℕ → List ℕ
by_height y found p = height_word y found p ∷ []

abbrev pub by_time : List Float → List Float → List ℕ → ℕ → List ℕ
by_time y t found p = word (time_at_place y t found p) ∷ []

-- the places chosen from some, by falling height
unfoldable pub chosen_places : Float → List Float → List Float → List ℕ → List ℕ → List ℕ
chosen_places sep y t found ps = chosen (near_in_time (time_at_place y t found) sep) (sorted_by (by_height y found) ps)

-- whether the area at a place meets both shares
abbrev pub shares_at : Float → Float → List ℕ → ℕ → Bool
shares_at trace best found p = meets_shares trace best (area_at found p)

-- those of chosen places that meet both
unfoldable pub with_shares : List Float → List ℕ → List ℕ → List ℕ
with_shares z found cs = passing (shares_at (trace_area z) (best_area (area_at found) cs) found) cs

-- the places that are listed of the first m, by time
unfoldable pub listed_places : Float → Float → List Float → List Float → List Float → List ℕ → ℕ → List ℕ
listed_places sep min_width y z t found m =
    sorted_by (by_time y t found) (with_shares z found (chosen_places sep y t found (passing (wide_at found t (length y) min_width) (up_to m))))

-- the first k of an order are places of m apexes, and there is room for tables of these
pub record Choosable (n times : ℕ) (found : List ℕ) (m k turns bases : ℕ) (order : List ℕ) : Type 0 where
  pub inside : AllInside n found m
  pub short : n ≤ exact_index
  pub times-short : times ≤ exact_index
  pub few : k ≤ m
  pub turns-long : m ≤ turns
  pub bases-long : m ≤ bases
  pub order-long : k ≤ length order
  pub below : Below m order k
