-- Worked cases, by computation; they need not be read to know what is promised: apex times that are no numbers, of which TimesInOrder.antt
-- says nothing, and the highest one.
use Rattle.std.specs.Prelude.{◌≡◌, refl, true, false, List, [], ◌∷◌, map, ℕ, Float}
use Rattle.std.specs.Float.{inf}
use Rattle.std.specs.Float.Ieee.{of_int, of_bits, to_bits, neg, add, sub, mul, div, lt, le, is_nan, to_unsigned}
use Rattle.limits.specs.Limits.{max_seconds}
use Rattle.numeric.specs.Arith.{index_f}
use Rattle.numeric.specs.Numeric.{abs_f, clamp_f, quad_f}
use Rattle.numeric.specs.Plain.{word}
use Rattle.rt_time.specs.Time.{time_between, time_at}
use Rattle.rt_apex.specs.InTime.{subframe, apex_time}

-- whole numbers as readings and times
abbrev row : List ℕ → List Float
row xs = map index_f xs

-- there is no reading behind the last one
last_frame : is_nan (apex_time (row (0 ∷ 5 ∷ 0 ∷ [])) (row (0 ∷ 1 ∷ 2 ∷ [])) 2) ≡ true
unfolding apex_time subframe time_at time_between quad_f clamp_f abs_f add sub mul div lt le is_nan neg of_int of_bits to_unsigned
last_frame = refl

-- an infinite one beside an infinite one
infinite : is_nan (apex_time (index_f 0 ∷ inf false ∷ inf false ∷ []) (row (0 ∷ 1 ∷ 2 ∷ [])) 1) ≡ true
unfolding apex_time subframe time_at time_between quad_f clamp_f abs_f add sub mul div lt le is_nan neg of_int of_bits to_unsigned
infinite = refl

-- a quarter of a frame before frame 1; all times are 2^20 seconds, and so is the apex time
highest : word (apex_time (row (2 ∷ 3 ∷ 0 ∷ [])) (row (1048576 ∷ 1048576 ∷ 1048576 ∷ [])) 1) ≡ max_seconds
unfolding apex_time subframe time_at time_between quad_f clamp_f abs_f add sub mul div lt le is_nan neg of_int of_bits to_bits to_unsigned
highest = refl
