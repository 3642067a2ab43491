-- Worked cases, by computation; they need not be read to know what is promised.
use Rattle.std.specs.Prelude.{◌≡◌, refl, true, false, List, [], ◌∷◌, map, ℕ, get_or, Float}
use Rattle.std.specs.Float.{binary32}
use Rattle.std.specs.Float.Ieee.{of_bits, of_int, add, sub, mul, div, lt, le, is_nan}
use Rattle.numeric.specs.Arith.{index_f, 𝟎, 𝟏, ½}
use Rattle.numeric.specs.Numeric.{max_f}
use Rattle.row_area.specs.Area.{whole}
use Rattle.rt_listing.specs.Shares.{total_area, largest, least_area, trace_area, best_area, meets_shares}

-- whole numbers as readings
abbrev row : List ℕ → List Float
row xs = map index_f xs

-- the area of a trace has its last segment: 1/2, 1/2 and 37
with_last : total_area (row (0 ∷ 1 ∷ 0 ∷ 74 ∷ [])) ≡ index_f 38
unfolding total_area whole add mul of_int of_bits
with_last = refl

-- none of no reading and of one
of_none : total_area [] ≡ 𝟎
unfolding total_area whole of_bits
of_none = refl

of_one : total_area (row (7 ∷ [])) ≡ 𝟎
unfolding total_area whole of_bits
of_one = refl

-- 3/4 is less than 2% of 38, and 2% of 37.5
of_trace_failed : meets_shares (trace_area (row (0 ∷ 1 ∷ 0 ∷ 74 ∷ []))) 𝟏 (of_bits binary32 0x3f40_0000) ≡ false
unfolding meets_shares trace_area total_area whole max_f add mul div lt le is_nan of_int of_bits
of_trace_failed = refl

of_trace_met : meets_shares (trace_area (row (0 ∷ 1 ∷ 0 ∷ 73 ∷ []))) 𝟏 (of_bits binary32 0x3f40_0000) ≡ true
unfolding meets_shares trace_area total_area whole max_f add mul div lt le is_nan of_int of_bits
of_trace_met = refl

-- the areas of apexes by their indices
abbrev area : ℕ → Float
area i = index_f (get_or (0 ∷ 20 ∷ 0 ∷ 1 ∷ 0 ∷ 21 ∷ []) i 0)

-- 1 is 5% of 20, and less of 21, which is the largest of those that are chosen
of_best_met : meets_shares 𝟏 (best_area area (3 ∷ 1 ∷ [])) (area 3) ≡ true
unfolding meets_shares best_area largest max_f add mul div lt le is_nan of_int of_bits
of_best_met = refl

of_best_failed : meets_shares 𝟏 (best_area area (1 ∷ 3 ∷ 5 ∷ [])) (area 3) ≡ false
unfolding meets_shares best_area largest max_f add mul div lt le is_nan of_int of_bits
of_best_failed = refl

-- no area is divided by less than 1e-6
least-of_trace : trace_area (row (0 ∷ 0 ∷ [])) ≡ least_area
unfolding trace_area total_area whole max_f add mul lt is_nan of_int of_bits
least-of_trace = refl

least-of_best : best_area area [] ≡ least_area
unfolding best_area largest max_f lt is_nan of_bits
least-of_best = refl
