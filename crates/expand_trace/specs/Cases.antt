-- Worked cases, by computation; they need not be read to know what is promised.
use Rattle.std.specs.Prelude.{◌≡◌, refl, List, [], ◌∷◌, map, ℕ, Float}
use Rattle.std.specs.Float.Ieee.{lt, of_int, of_bits}
use Rattle.numeric.specs.Arith.{index_f}
use Rattle.expand_trace.specs.declared.inner.Way.TheVariants.{AllZero, TooShort, Smoothed}
use Rattle.expand_trace.specs.Trace.{any_above, way_of}

-- whole numbers as readings
abbrev row : List ℕ → List Float
row xs = map index_f xs

-- as many frames as the limit are searched, and fewer are not
as_many : way_of (row (5 ∷ 50 ∷ 5 ∷ [])) 3 ≡ Smoothed
unfolding way_of any_above lt of_int of_bits
as_many = refl

fewer : way_of (row (5 ∷ 50 ∷ 5 ∷ [])) 4 ≡ TooShort
unfolding way_of any_above lt of_int of_bits
fewer = refl

-- the last reading alone is above 0
last_alone : way_of (row (0 ∷ 0 ∷ 0 ∷ 1 ∷ [])) 4 ≡ Smoothed
unfolding way_of any_above lt of_int of_bits
last_alone = refl

-- and the first alone
first_alone : way_of (row (1 ∷ 0 ∷ 0 ∷ 0 ∷ [])) 4 ≡ Smoothed
unfolding way_of any_above lt of_int of_bits
first_alone = refl

-- no reading is above 0, however many frames there are
zeros : way_of (row (0 ∷ 0 ∷ 0 ∷ [])) 3 ≡ AllZero
unfolding way_of any_above lt of_int of_bits
zeros = refl

few-zeros : way_of (row (0 ∷ 0 ∷ [])) 3 ≡ AllZero
unfolding way_of any_above lt of_int of_bits
few-zeros = refl

nothing : way_of [] 0 ≡ AllZero
unfolding way_of any_above lt of_int of_bits
nothing = refl
