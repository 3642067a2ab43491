-- Worked cases, by computation; they need not be read to know what is promised. The smoothed row is the raw one, and floor, least
-- width and least distance are 0 unless the case says otherwise.
use Rattle.std.specs.Prelude.{◌≡◌, refl, List, [], ◌∷◌, map, ℕ, Float}
use Rattle.std.specs.Float.Ieee.{of_int, of_bits, add, sub, mul, div, lt, le, ne, is_nan, to_unsigned}
use Rattle.numeric.specs.Arith.{index_f}
use Rattle.numeric.specs.Numeric.{max_f}
use Rattle.rounding.specs.Rounding.{round_f}
use Rattle.row_apex.specs.Apex.{is_candidate, candidates_to, left_of, up_to_higher, least, baseline, prominence, half_height, run_above, part_way, left_crossing, right_crossing}
use Rattle.row_spans.specs.Span.{width_of}
use Rattle.row_params.specs.declared.ImDetectParams.{ImDetectParams}
use Rattle.row_search.specs.Suppression.{keep, keep_all}
use Rattle.row_search.specs.Qualifying.{highest_reading, left_x, right_x, width, qualifies, that_qualify, qualifying, kept}

-- whole numbers as readings
abbrev row : List ℕ → List Float
row xs = map index_f xs

-- a floor and a least distance
abbrev asks : ℕ → ℕ → ImDetectParams
asks floor distance = record { min_prom = index_f floor; min_distance_scans = distance; min_width_scans = 0 }

abbrev listed : ℕ → ℕ → List ℕ → List ℕ
listed floor distance xs = kept (asks floor distance) (row xs) (row xs)

-- a plateau at the end: its left end is an apex, of no prominence and no width
plateau : listed 0 0 (0 ∷ 5 ∷ 5 ∷ []) ≡ 1 ∷ []
unfolding kept qualifying highest_reading that_qualify qualifies keep_all keep candidates_to is_candidate left_x right_x width width_of left_of up_to_higher least baseline prominence half_height run_above part_way left_crossing right_crossing max_f round_f add sub mul div lt le ne is_nan of_int of_bits to_unsigned
plateau = refl

plateau-prominence : prominence (row (0 ∷ 5 ∷ 5 ∷ [])) 1 ≡ index_f 0
unfolding left_of up_to_higher least baseline prominence max_f sub lt is_nan of_int
plateau-prominence = refl

plateau-width : width (row (0 ∷ 5 ∷ 5 ∷ [])) 1 ≡ 0
unfolding left_x right_x width width_of left_of up_to_higher least baseline prominence half_height run_above part_way left_crossing right_crossing max_f round_f add sub mul div lt le ne is_nan of_int of_bits to_unsigned
plateau-width = refl

-- a plateau below a higher apex, with a floor of 1: its prominence is 0
shoulder : listed 1 0 (0 ∷ 5 ∷ 5 ∷ 9 ∷ 0 ∷ []) ≡ 3 ∷ []
unfolding kept qualifying highest_reading that_qualify qualifies keep_all keep candidates_to is_candidate left_x right_x width width_of left_of up_to_higher least baseline prominence half_height run_above part_way left_crossing right_crossing max_f round_f add sub mul div lt le ne is_nan of_int of_bits to_unsigned
shoulder = refl

-- half of a prominence of 1 is rounded up to the apex from an odd baseline, which leaves no width ..
odd-prominence : prominence (row (8388609 ∷ 8388610 ∷ 8388609 ∷ [])) 1 ≡ index_f 1
unfolding left_of up_to_higher least baseline prominence max_f sub lt is_nan of_int
odd-prominence = refl

odd-width : width (row (8388609 ∷ 8388610 ∷ 8388609 ∷ [])) 1 ≡ 0
unfolding left_x right_x width width_of left_of up_to_higher least baseline prominence half_height run_above part_way left_crossing right_crossing max_f round_f add sub mul div lt le ne is_nan of_int of_bits to_unsigned
odd-width = refl

-- .. and down to the baseline from an even one
even-width : width (row (8388608 ∷ 8388609 ∷ 8388608 ∷ [])) 1 ≡ 2
unfolding left_x right_x width width_of left_of up_to_higher least baseline prominence half_height run_above part_way left_crossing right_crossing max_f round_f add sub mul div lt le ne is_nan of_int of_bits to_unsigned
even-width = refl

-- two apexes at a distance of 2 are far enough apart for a least distance of 2, ..
apart : listed 0 2 (0 ∷ 4 ∷ 0 ∷ 8 ∷ 0 ∷ []) ≡ 3 ∷ 1 ∷ []
unfolding kept qualifying highest_reading that_qualify qualifies keep_all keep candidates_to is_candidate left_x right_x width width_of left_of up_to_higher least baseline prominence half_height run_above part_way left_crossing right_crossing max_f round_f add sub mul div lt le ne is_nan of_int of_bits to_unsigned
apart = refl

-- .. and not for one of 3: the higher one stays
close : listed 0 3 (0 ∷ 4 ∷ 0 ∷ 8 ∷ 0 ∷ []) ≡ 3 ∷ []
unfolding kept qualifying highest_reading that_qualify qualifies keep_all keep candidates_to is_candidate left_x right_x width width_of left_of up_to_higher least baseline prominence half_height run_above part_way left_crossing right_crossing max_f round_f add sub mul div lt le ne is_nan of_int of_bits to_unsigned
close = refl

-- each gives way to the next, higher one
chain : listed 0 3 (0 ∷ 4 ∷ 0 ∷ 6 ∷ 0 ∷ 8 ∷ 0 ∷ []) ≡ 5 ∷ []
unfolding kept qualifying highest_reading that_qualify qualifies keep_all keep candidates_to is_candidate left_x right_x width width_of left_of up_to_higher least baseline prominence half_height run_above part_way left_crossing right_crossing max_f round_f add sub mul div lt le ne is_nan of_int of_bits to_unsigned
chain = refl

-- of equal ones the earlier stays
equal : listed 0 3 (0 ∷ 4 ∷ 0 ∷ 4 ∷ 0 ∷ []) ≡ 1 ∷ []
unfolding kept qualifying highest_reading that_qualify qualifies keep_all keep candidates_to is_candidate left_x right_x width width_of left_of up_to_higher least baseline prominence half_height run_above part_way left_crossing right_crossing max_f round_f add sub mul div lt le ne is_nan of_int of_bits to_unsigned
equal = refl
