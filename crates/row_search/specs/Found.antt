-- What is measured of the kept apexes of a row, as words of a lent list: eight words an apex, floats as their bit patterns.
use Rattle.std.specs.Prelude.{◌≡◌, true, cond, List, [], ◌∷◌, ◌++◌, ℕ, zero, suc, ◌+◌, ◌-◌, ◌*◌, ◌≤◌, ◌<◌, T, length, get_or, take, drop, Float}
use Rattle.std.specs.Float.{binary32}
use Rattle.std.specs.Float.Ieee.{to_bits, of_bits, fits}
use Rattle.limits.specs.Limits.{any_number, exact_index}
use Rattle.numeric.specs.Arith.{𝟎}
use Rattle.numeric.specs.Numeric.{all_in_range}
use Rattle.row_apex.specs.Apex.{baseline, prominence, half_height}
use Rattle.row_turns.specs.Turns.{turn}
use Rattle.row_spans.specs.Span.{span_of}
use Rattle.row_params.specs.declared.ImDetectParams.{ImDetectParams}
use Rattle.row_search.specs.Suppression.{keep}
use Rattle.row_search.specs.Qualifying.{highest_reading, reaches, qualifies, kept}
use Rattle.row_search.specs.declared.inner.Measured.{Measured}
use Rattle.row_search.specs.declared.inner.Keeping.{Keeping}

-- what is measured of the apex at i
unfoldable pub measured_of : List Float → List Float → ℕ → Measured
measured_of y z i =
    let s = span_of y z (half_height y i) i in
    record {
      index = i;
      left = s.left;
      right = s.right;
      width = s.width;
      prominence = prominence y i;
      left_x = s.left_x;
      right_x = s.right_x;
      area = s.area;
    }

-- the words of one apex
abbrev pub found_size : ℕ
found_size = 8

abbrev pub word : Float → ℕ
word x = to_bits binary32 x

abbrev pub measured_words : Measured → List ℕ
measured_words m =
    m.index ∷ m.left ∷ m.right ∷ m.width ∷ word m.prominence ∷ word m.left_x ∷ word m.right_x ∷ word m.area ∷ []

-- every float of it is one of binary32, as every f32 is
pub record Fits (m : Measured) : Type 0 where
  pub prominence : T (fits binary32 m.prominence)
  pub left : T (fits binary32 m.left_x)
  pub right : T (fits binary32 m.right_x)
  pub area : T (fits binary32 m.area)

-- the apex whose words start at a place of a list, and the one at place j
unfoldable pub measured_from : List ℕ → ℕ → Measured
measured_from l a =
    let field : ℕ → ℕ = λ k. get_or l (a + k) 0 in
    let float : ℕ → Float = λ k. of_bits binary32 (get_or l (a + k) 0) in
    record {
      index = field 0;
      left = field 1;
      right = field 2;
      width = field 3;
      prominence = float 4;
      left_x = float 5;
      right_x = float 6;
      area = float 7;
    }

abbrev pub measured_at : List ℕ → ℕ → Measured
measured_at l j = measured_from l (j * found_size)

-- the list with m at place j
unfoldable pub with_measured : List ℕ → ℕ → Measured → List ℕ
with_measured l j m = take (j * found_size) l ++ (measured_words m ++ drop (j * found_size + found_size) l)

-- The apexes ks, the newest first, stand in the list with what is measured of them, the oldest at place 0; each has a neighbour
-- on either side.
pub record FoundAt (y z : List Float) (found : List ℕ) (i j : ℕ) : Type 0 where
  pub is : measured_at found j ≡ measured_of y z i
  pub low : 0 < i
  pub high : i + 1 < length y

abbrev pub Found : List Float → List Float → List ℕ → List ℕ → Type 0
Found y z found [] = Unit {0}
Found y z found (i ∷ older) = FoundAt y z found i (length older) × Found y z found older

-- the j oldest of some apexes, the newest first
abbrev pub oldest : ℕ → List ℕ → List ℕ
oldest j ks = drop (length ks - j) ks

-- ---- one apex after another

-- the apexes kept so far and the next one, if it qualifies
unfoldable pub keep_if : ImDetectParams → List Float → List ℕ → ℕ → List ℕ
keep_if p y ks i = cond (qualifies p y i) (keep p.min_distance_scans y ks i) ks

-- the newest of some apexes is `last`, if there are any
abbrev pub Newest : List ℕ → ℕ → Type 0
Newest [] last = Unit {0}
Newest (i ∷ older) last = i ≡ last

-- what is kept of the apexes below i: ks, in so many places of the list
pub record Keeps (y z : List Float) (found : List ℕ) (i : ℕ) (s : Keeping) (ks : List ℕ) : Type 0 where
  pub stand : Found y z found ks
  pub count : s.count ≡ length ks
  pub newest : Newest ks s.last
  pub behind : 0 < s.count → s.last < i

-- An apex that is looked at: it has a neighbour on either side, and its baseline is known.
pub record Spot (y z : List Float) (base : Float) (i : ℕ) : Type 0 where
  pub base-is : base ≡ baseline y i
  pub low : 0 < i
  pub high : i + 1 < length y
  pub short : length y ≤ exact_index
  pub raw-short : length z ≤ exact_index

-- the apexes at the first k odd places of a list, and the place behind the last of them
unfoldable pub kept_of : ImDetectParams → List Float → List ℕ → ℕ → List ℕ
kept_of p y turns zero = []
kept_of p y turns (suc k) = keep_if p y (kept_of p y turns k) (turn turns (2 * k + 1))

unfoldable pub after : List ℕ → ℕ → ℕ
after turns zero = 0
after turns (suc k) = turn turns (2 * k + 1) + 1

-- ---- the search

-- A row that can be searched with scratch for so many samples: numbers with a clear sign, in a row that reaches the floor.
pub record Searchable (p : ImDetectParams) (y z : List Float) (samples : ℕ) : Type 0 where
  pub numbers : all_in_range any_number y ≡ true
  pub raw : length z ≡ length y
  pub short : length y ≤ exact_index
  pub room : length y ≤ samples
  pub floor : reaches p.min_prom (highest_reading 𝟎 z) ≡ true

-- the n apexes ks, the newest first, stand in the list
pub record Standing (y z : List Float) (found : List ℕ) (n : ℕ) (ks : List ℕ) : Type 0 where
  pub count : n ≡ length ks
  pub stand : Found y z found ks
  pub room : n * found_size ≤ length found

-- what is left of a row that was searched: its kept apexes stand in the list, n of them
abbrev pub Done : ImDetectParams → List Float → List Float → List ℕ → ℕ → Type 0
Done p y z found n = Standing y z found n (kept p y z)
