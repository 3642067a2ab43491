-- Binary32 arithmetic under infix names, so that a definition reads like the formula of the field. Each operation is
-- rounded once, to nearest-even (IEEE 754-2019). Nothing of the library is shadowed.
use Rattle.std.specs.Prelude.{ℕ, List, pos, from_bits, slice_index_or, Float}
use Rattle.std.specs.Float.{nan, binary32}
use Rattle.std.specs.Float.Ieee.{add, sub, mul, div, of_int}

infixl 60 ◌⊕◌ ◌⊖◌
infixl 70 ◌⊗◌ ◌⊘◌
abbrev pub ◌⊕◌ : Float → Float → Float
a ⊕ b = add binary32 a b

abbrev pub ◌⊖◌ : Float → Float → Float
a ⊖ b = sub binary32 a b

abbrev pub ◌⊗◌ : Float → Float → Float
a ⊗ b = mul binary32 a b

abbrev pub ◌⊘◌ : Float → Float → Float
a ⊘ b = div binary32 a b

-- the literals 0, 0.5, 1 and 2
abbrev pub 𝟎 : Float
𝟎 = from_bits binary32 0

abbrev pub ½ : Float
½ = from_bits binary32 0x3f00_0000

abbrev pub 𝟏 : Float
𝟏 = from_bits binary32 0x3f80_0000

abbrev pub 𝟐 : Float
𝟐 = from_bits binary32 0x4000_0000

-- a whole number as a float: exact to 2 ^ 24, rounded above
abbrev pub index_f : ℕ → Float
index_f n = of_int binary32 (pos n)

-- the reading at an index
abbrev pub at : List Float → ℕ → Float
at y i = slice_index_or y i nan
