-- The apexes of a row of readings or of a retention trace: candidates, prominence, half height and the places where the
-- row crosses a height. Every operation is rounded once, in this order.
use Rattle.std.specs.Prelude.{◌≡◌, Bool, true, false, cond, not, ◌&&◌, List, [], ◌∷◌, ◌++◌, ℕ, zero, suc, ◌+◌, ◌-◌, min, ltb, length, drop, Float}
use Rattle.std.specs.Float.{binary32}
use Rattle.std.specs.Float.Ieee.{lt, le, ne, is_nan, of_bits}
use Rattle.numeric.specs.Arith.{◌⊕◌, ◌⊖◌, ◌⊗◌, ◌⊘◌, 𝟎, ½, index_f, at}
use Rattle.numeric.specs.Numeric.{max_f, clamp_f, quad_f}
use Rattle.row_apex.specs.declared.inner.Rise.{Rise}

-- ---- candidates

-- A candidate is above its left neighbour and not below its right one: a plateau counts at its left end.
unfoldable pub is_candidate : List Float → ℕ → Bool
is_candidate y i = lt (at y (i - 1)) (at y i) && le (at y (i + 1)) (at y i)

-- the candidates among the indices 1 .. k, ascending
unfoldable pub candidates_to : List Float → ℕ → List ℕ
candidates_to y zero = []
candidates_to y (suc k) = candidates_to y k ++ cond (is_candidate y (suc k)) (suc k ∷ []) []

-- the candidates of a row: its first and its last sample are none
abbrev pub candidates : List Float → List ℕ
candidates y = candidates_to y (length y - 2)

-- how far an apex lies from its sample, by the parabola through it and its neighbours, at most half a sample
unfoldable pub offset_of : List Float → ℕ → Float
offset_of y i = clamp_f (quad_f (at y (i - 1)) (at y i) (at y (i + 1))) (of_bits binary32 0xbf00_0000) ½

-- ---- prominence

-- the readings left of an index and those right of it, the nearest first
unfoldable pub left_of : List Float → ℕ → List Float
left_of y zero = []
left_of y (suc i) = at y i ∷ left_of y i

abbrev pub right_of : List Float → ℕ → List Float
right_of y i = drop (i + 1) y

-- the readings as far as the first one above the apex, which is the last that counts
unfoldable pub up_to_higher : Float → List Float → List Float
up_to_higher apex [] = []
up_to_higher apex (v ∷ vs) = v ∷ cond (lt apex v) [] (up_to_higher apex vs)

-- the least of a reading and further ones
unfoldable pub least : Float → List Float → Float
least m [] = m
least m (v ∷ vs) = least (cond (lt v m) v m) vs

-- the higher of the two lows that part the apex from higher ground, or from the row's ends
unfoldable pub baseline : List Float → ℕ → Float
baseline y i =
    max_f (least (at y i) (up_to_higher (at y i) (left_of y i))) (least (at y i) (up_to_higher (at y i) (right_of y i)))

unfoldable pub prominence : List Float → ℕ → Float
prominence y i = at y i ⊖ baseline y i

-- half of the prominence above the baseline; with a prominence of 1 it can round to the apex itself
unfoldable pub half_height : List Float → ℕ → Float
half_height y i = baseline y i ⊕ ½ ⊗ prominence y i

abbrev pub rise_of : List Float → ℕ → Rise
rise_of y i = record { prominence = prominence y i; half = half_height y i }

-- a height that no reading of a row is below; no walk to a lower reading has to go on from there
unfoldable pub none_below : Float → List Float → Bool
none_below low [] = true
none_below low (v ∷ vs) = not (lt v low) && none_below low vs

pub record Ground (low : Float) (y : List Float) : Type 0 where
  pub number : is_nan low ≡ false
  pub none : none_below low y ≡ true

-- ---- crossings

-- how many readings, from the first on, are above a height without a break
unfoldable pub run_above : Float → List Float → ℕ
run_above h [] = 0
run_above h (v ∷ vs) = cond (lt h v) (suc (run_above h vs)) 0

-- the nearest index, from i on to the left or to the right, whose reading is not above the height; the row's end if there is none
abbrev pub left_foot : List Float → Float → ℕ → ℕ
left_foot y h i = i - run_above h (left_of y (suc i))

abbrev pub right_foot : List Float → Float → ℕ → ℕ
right_foot y h i = min (i + run_above h (drop i y)) (length y - 1)

-- how much of the way from a to b it is to the height; none between equal readings
unfoldable pub part_way : Float → Float → Float → Float
part_way h a b = cond (ne b a) ((h ⊖ a) ⊘ (b ⊖ a)) 𝟎

-- where the row crosses the height left of i and right of it, in samples; at i itself where its reading is not above the height
-- Where no reading on that side falls to the height, the line through the last two is taken all the same, so that the place may
-- lie outside of the row. At the half height it does not, in a row that is accepted (row_laws/specs/Enclosed.antt).
unfoldable pub left_crossing : List Float → Float → ℕ → Float
left_crossing y h i =
    let w = left_foot y h i in cond (ltb w i) (index_f w ⊕ part_way h (at y w) (at y (w + 1))) (index_f w)

unfoldable pub right_crossing : List Float → Float → ℕ → Float
right_crossing y h i =
    let w = right_foot y h i in cond (ltb i w) (index_f (w - 1) ⊕ part_way h (at y (w - 1)) (at y w)) (index_f w)
