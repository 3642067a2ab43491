-- A peak that is put into a list is got back as it was, and nothing else of the list changes.
use mathlib.Core.Path.{◌≡◌, refl, ◌∙◌}
use mathlib.Core.List.{List}
use Prim.Native.Nat.{ℕ, ◌<◌, ◌+◌, ◌*◌}
use native.Mathlib.Omega.{arith}
use lib.Dec.{lit<}
use lib.ListN.{length, get_or, take, drop}
use lib.Seq.{length-take-le}
use lib.Ieee.{binary32}
use lib.Ieee.Bits.{of_bits-to_bits, of_bits-fits}
use Rattle.row_record.specs.declared.ImPeak1D.{ImPeak1D}
use Rattle.row_record.specs.Record.{size, words_of, peak_from, with_peak}
use Rattle.row_record.specs.RoundTrip.{ReadFits, GotBack, OthersStay, SameLength}
use Rattle.row_record.proofs.Records.{behind, put-length, beside}

-- a peak's words are as many as a record has
pub words-length : (p : ImPeak1D) → length (words_of p) ≡ size
words-length p = refl

-- a peak depends on the words of its own record alone
pub own-words : (l m : List ℕ) (a b : ℕ) → ((j : ℕ) → j < size → get_or l (a + j) 0 ≡ get_or m (b + j) 0) → peak_from l a ≡ peak_from m b
unfolding peak_from
own-words l m a b h =
    rw (
      h 0 (lit< tt),
      h 1 (lit< tt),
      h 2 (lit< tt),
      h 3 (lit< tt),
      h 4 (lit< tt),
      h 5 (lit< tt),
      h 6 (lit< tt),
      h 7 (lit< tt),
      h 8 (lit< tt),
      h 9 (lit< tt),
      h 10 (lit< tt),
      h 11 (lit< tt),
      h 12 (lit< tt),
      h 13 (lit< tt),
      h 14 (lit< tt),
      h 15 (lit< tt),
      h 16 (lit< tt),
      h 17 (lit< tt),
      h 18 (lit< tt),
      h 19 (lit< tt),
      h 20 (lit< tt),
      h 21 (lit< tt),
      h 22 (lit< tt),
      h 23 (lit< tt),
      h 24 (lit< tt),
      h 25 (lit< tt),
      h 26 (lit< tt),
    )

-- every float of a peak that is read from a list is one of binary32
pub read_fits : ReadFits
unfolding peak_from
read_fits l a =
    record {
      sigma = of_bits-fits binary32 _;
      mobility = of_bits-fits binary32 _;
      smoothed = of_bits-fits binary32 _;
      raw = of_bits-fits binary32 _;
      prominence = of_bits-fits binary32 _;
      left = of_bits-fits binary32 _;
      right = of_bits-fits binary32 _;
      area = of_bits-fits binary32 _;
      subscan = of_bits-fits binary32 _;
    }

-- the list keeps its length
pub same_length : SameLength
unfolding with_peak
same_length l k p room = put-length l (words_of p) (k * size) size refl room

-- the peak that was put is the peak that is got
pub got-back : GotBack
unfolding with_peak peak_from
got-back l k p room f =
    own-words (with_peak l k p) (words_of p) (k * size) 0
    (behind (take (k * size) l) (words_of p) (drop (k * size + size) l) (k * size) (length-take-le (k * size) l (omega arith)))
    ∙ rw (
      of_bits-to_bits binary32 p.scan_sigma f.sigma,
      of_bits-to_bits binary32 p.mobility f.mobility,
      of_bits-to_bits binary32 p.apex_smoothed f.smoothed,
      of_bits-to_bits binary32 p.apex_raw f.raw,
      of_bits-to_bits binary32 p.prominence f.prominence,
      of_bits-to_bits binary32 p.left_x f.left,
      of_bits-to_bits binary32 p.right_x f.right,
      of_bits-to_bits binary32 p.area_raw f.area,
      of_bits-to_bits binary32 p.subscan f.subscan,
    )

-- every other peak of the list stays
pub others-stay : OthersStay
unfolding with_peak
others-stay l k p room j n = own-words (with_peak l k p) l (j * size) (j * size) (beside l (words_of p) (k * size) size refl room k j refl n)
