-- Worked cases, by computation; they need not be read to know what is promised.
use Rattle.std.specs.Prelude.{◌≡◌, refl, true, false, List, [], ◌∷◌, map, Float}
use Rattle.std.specs.Float.{binary32}
use Rattle.std.specs.Float.Ieee.{of_bits, to_bits, of_int, neg, add, sub, mul, lt, le, to_unsigned}
use Rattle.numeric.specs.Arith.{index_f, 𝟎, ½, 𝟏}
use Rattle.rt_time.specs.Time.{time_between, time_at, never_falls_from, never_falls}

abbrev axis : List Float
axis = map index_f (10 ∷ 20 ∷ 24 ∷ [])

-- no frame
none : time_at [] 𝟏 ≡ 𝟎
unfolding time_at
none = refl

-- left of the axis, in its first and in its last part, at a frame, and right of it
before : time_at axis (neg ½) ≡ index_f 10
unfolding time_at le neg of_int of_bits
before = refl

first : time_at axis ½ ≡ index_f 15
unfolding time_at time_between add sub mul lt le of_int of_bits to_unsigned
first = refl

-- at 1.75: 0.25 of 20 and 0.75 of 24
last : time_at axis (of_bits binary32 0x3fe0_0000) ≡ index_f 23
unfolding time_at time_between add sub mul lt le of_int of_bits to_unsigned
last = refl

at_one : time_at axis 𝟏 ≡ index_f 20
unfolding time_at time_between add sub mul lt le of_int of_bits to_unsigned
at_one = refl

behind : time_at axis (index_f 7) ≡ index_f 24
unfolding time_at le of_int of_bits
behind = refl

-- A time can lie outside of those of its frames: between two frames at 4.9, 0x409c_cccd, the place 0.1 has one that is an ulp lower.
outside : to_bits binary32 (time_at (of_bits binary32 0x409c_cccd ∷ of_bits binary32 0x409c_cccd ∷ []) (of_bits binary32 0x3dcc_cccd)) ≡ 0x409c_cccc
unfolding time_at time_between add sub mul lt le of_int of_bits to_bits to_unsigned
outside = refl

-- equal times do not fall, and a fall at the end is one
level : never_falls (map index_f (3 ∷ 5 ∷ 5 ∷ [])) ≡ true
unfolding never_falls never_falls_from lt of_int
level = refl

fall : never_falls (map index_f (3 ∷ 5 ∷ 4 ∷ [])) ≡ false
unfolding never_falls never_falls_from lt of_int
fall = refl
