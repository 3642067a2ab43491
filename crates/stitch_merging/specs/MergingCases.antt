-- Worked cases, each by computation; they need not be read to know what is promised.
use Rattle.std.specs.Prelude.{◌≡◌, refl, [], ◌∷◌, ℕ}
use Rattle.std.specs.Float.Ieee.{of_bits, to_bits, of_int, add, mul, div, lt, is_nan, round, to_unsigned}
use Rattle.numeric.specs.Numeric.{max_f}
use Rattle.rounding.specs.Rounding.{round_f}
use Rattle.row_record.specs.Record.{word, words_of, peak_from}
use Rattle.row_record.specs.declared.ImPeak1D.{ImPeak1D}
use Rattle.stitch_peaks.specs.Extremes.{extreme, is_any}
use Rattle.stitch_merging.specs.Merging.{highest_f, summed, weight, having, have_all, first_of, merged}

-- a peak of window group 3 with a scan sigma of 2, and with a row, an area and a subscan given as words
strong : ℕ → ℕ → ℕ → ImPeak1D
strong row area subscan = peak_from
    (row ∷ 2000 ∷ 1990 ∷ 2010 ∷ 5 ∷ 9 ∷ 105 ∷ 109 ∷ 5 ∷ 3 ∷ 20 ∷ 18 ∷ 23 ∷ 120 ∷ 118 ∷ 123 ∷ 0x4000_0000 ∷ 0 ∷ 0x4100_0000 ∷ 0x4110_0000 ∷ 0x40e0_0000
    ∷ 0x4194_0000 ∷ 0x41b4_0000 ∷ 4 ∷ area ∷ subscan ∷ 7 ∷ [])
    0

-- a peak of window group 4 with a mobility of 1.25, an area of 0.5 and a lower identity
faint : ImPeak1D
faint = peak_from
    (12 ∷ 2030 ∷ 2020 ∷ 2040 ∷ 6 ∷ 11 ∷ 106 ∷ 111 ∷ 3 ∷ 4 ∷ 24 ∷ 17 ∷ 25 ∷ 124 ∷ 117 ∷ 125 ∷ 0 ∷ 0x3fa0_0000 ∷ 0x3f80_0000 ∷ 0x4120_0000 ∷ 0x3f00_0000
    ∷ 0x41a4_0000 ∷ 0x41c4_0000 ∷ 4 ∷ 0x3f00_0000 ∷ 0xbe80_0000 ∷ 3 ∷ [])
    0

-- the two: no common group, the one mobility, the one sigma, and weights of 40 and 1
both : words_of (merged (strong 10 0x4220_0000 0x3e80_0000 ∷ faint ∷ []))
    ≡ 10 ∷ 2001 ∷ 1990 ∷ 2040 ∷ 5 ∷ 11 ∷ 105 ∷ 111 ∷ 6 ∷ 0 ∷ 20 ∷ 17 ∷ 25 ∷ 120 ∷ 117 ∷ 125 ∷ 0x4000_0000 ∷ 0x3fa0_0000 ∷ 0x4100_0000 ∷ 0x4120_0000 ∷ 0x40e0_0000
    ∷ 0x42ea_0000 ∷ 0x42fa_0000 ∷ 9 ∷ 0x4222_0000 ∷ 0x3e73_831f ∷ 3 ∷ []
unfolding merged extreme highest_f summed weight having is_any have_all first_of strong faint peak_from max_f round_f of_bits to_bits of_int add mul div lt is_nan round to_unsigned
both = refl

-- two peaks of one row, with areas of 65 and 1, come to the row behind it
row-of-none : (merged (strong 4190001 0x4282_0000 0 ∷ strong 4190001 0x3f80_0000 0 ∷ [])).tof_row ≡ 4190002
unfolding merged summed weight strong peak_from max_f round_f of_bits of_int add mul div lt is_nan round to_unsigned
row-of-none = refl

-- the subscan of a lone peak, minus zero, comes to plus zero
lone : word (merged (strong 10 0x4220_0000 0x8000_0000 ∷ [])).subscan ≡ 0
unfolding merged summed weight strong peak_from max_f of_bits to_bits add mul div lt is_nan
lone = refl
