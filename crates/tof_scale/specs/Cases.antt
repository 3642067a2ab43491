-- Worked cases, by computation; they need not be read to know what is promised.
use Rattle.std.specs.Prelude.{◌≡◌, refl, [], ◌∷◌, ℕ, Some, None, Ok, Err}
use Rattle.std.specs.Float.{binary32}
use Rattle.std.specs.Float.Ieee.{of_bits, to_bits, of_int, add, sub, mul, le, to_unsigned}
use Rattle.limits.specs.Limits.{max_tof_bound}
use Rattle.numeric.specs.Arith.{index_f}
use Rattle.numeric.specs.Numeric.{in_range}
use Rattle.refusal.specs.Refusal.{first_of}
use Rattle.refusal.specs.Numbered.{says}
use Rattle.refusal.specs.declared.Refusal.TheVariants.{Value, Axis, Scale}
use Rattle.row_params.specs.Params.{all_up_to}
use Rattle.tof_scale.specs.declared.TofScale.{TofScale}
use Rattle.tof_scale.specs.Tof.{row_place, window_bins, center_f, center_at_f, sound_step, sound_ends, agreeing, scale_number, lowest_tof, highest_tof, scale_of}
use Rattle.tof_scale.specs.TofAnswers.{build_number, build_answer, bin_answer, range_answer, center_answer, center_at_answer, bounds_answer}

abbrev scale : ℕ → ℕ → ℕ → ℕ → TofScale
scale lo hi step bins = record { tof_min = lo; tof_max = hi; tof_step = step; num_bins = bins }

-- (h) TOF 0 to 10, step 4: three bins, 8 in bin 2, 9 in none
abbrev by_four : TofScale
by_four = scale 0 8 4 3

built : build_answer (3 ∷ 10 ∷ 0 ∷ 7 ∷ []) 4 ≡ says (Ok (Some by_four))
unfolding build_answer build_number first_of sound_step all_up_to lowest_tof highest_tof scale_of
built = refl

eight : bin_answer by_four 8 ≡ says (Ok (Some 2))
unfolding bin_answer scale_number first_of sound_step sound_ends agreeing
eight = refl

nine : bin_answer by_four 9 ≡ says (Ok None)
unfolding bin_answer scale_number first_of sound_step sound_ends agreeing
nine = refl

-- (l) a bin from 7, step 1: centre 8 as a whole number, and 7.5 as a float
seven : (row_place (scale 7 8 1 2) 0).tof_center ≡ 8
seven = refl

seven-and-a-half : center_answer (scale 7 8 1 2) 0 ≡ says (Ok (of_bits binary32 0x40f0_0000))
unfolding center_answer center_f scale_number first_of sound_step sound_ends agreeing of_int add mul of_bits
seven-and-a-half = refl

-- no value, and one distinct value; two values in one bin give a scale
none : build_answer [] 4 ≡ says (Ok None)
unfolding build_answer build_number first_of sound_step all_up_to lowest_tof highest_tof
none = refl

one : build_answer (7 ∷ 7 ∷ []) 4 ≡ says (Ok None)
unfolding build_answer build_number first_of sound_step all_up_to lowest_tof highest_tof
one = refl

two : build_answer (6 ∷ 5 ∷ []) 4 ≡ says (Ok (Some (scale 4 4 4 1)))
unfolding build_answer build_number first_of sound_step all_up_to lowest_tof highest_tof scale_of
two = refl

-- a window with its ends turned, one past the top and one at the bottom
turned : range_answer by_four 7 1 ≡ says (Ok (record { lo = 0; hi = 1 }))
unfolding range_answer window_bins scale_number first_of sound_step sound_ends agreeing
turned = refl

past : range_answer by_four 9 max_tof_bound ≡ says (Ok (record { lo = 2; hi = 2 }))
unfolding range_answer window_bins scale_number first_of sound_step sound_ends agreeing
past = refl

-- between the centres 2 and 6, a quarter of the way
quarter : center_at_answer by_four (of_bits binary32 0x3e80_0000) ≡ says (Ok (index_f 3))
unfolding center_at_answer center_at_f center_f scale_number first_of sound_step sound_ends agreeing in_range of_int add sub mul of_bits to_bits le to_unsigned
quarter = refl

edges : bounds_answer by_four 2 ≡ says (Ok (index_f 8, index_f 12))
unfolding bounds_answer scale_number first_of sound_step sound_ends agreeing of_int
edges = refl

-- a step of 0 goes before an end out of range, and that before numbers that disagree
step-first : bin_answer (scale 4194304 3 0 9) 9 ≡ says (Err Value)
unfolding bin_answer scale_number first_of sound_step sound_ends agreeing
step-first = refl

end-next : bin_answer (scale 4194304 3 2 9) 9 ≡ says (Err Axis)
unfolding bin_answer scale_number first_of sound_step sound_ends agreeing
end-next = refl

count-last : bin_answer (scale 0 8 4 4) 9 ≡ says (Err Scale)
unfolding bin_answer scale_number first_of sound_step sound_ends agreeing
count-last = refl
