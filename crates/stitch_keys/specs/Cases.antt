-- Worked cases, each by computation; they need not be read to know what is promised.
use Rattle.std.specs.Prelude.{◌≡◌, refl, true, false, [], ◌∷◌, ℕ}
use Rattle.row_record.specs.declared.ImPeak1D.{ImPeak1D}
use Rattle.sort_digits.specs.Sorted.{lex_lt}
use Rattle.stitch_matching.specs.Matching.{group_of}
use Rattle.stitch_matching.specs.Cases.{peak, asked, a, b}
use Rattle.stitch_keys.specs.declared.KeyRule.TheVariants.{First, Second, Identity}
use Rattle.stitch_keys.specs.Keys.{group_there, group_number, bucket_of, is_same_bucket, key_of, key_table}

-- ---- buckets: peaks of group 7 at a row and a scan

abbrev at : (row scan : ℕ) → ImPeak1D
at row scan = peak row 0 9 1 7 scan 15 25 1

-- Scans by tens and rows by threes, which is a row delta of 2: the bucket of row 100 and scan 20 has the scans 20 to 29 and the rows 99
-- to 101.
pub tens-and-threes :
    is_same_bucket (bucket_of (asked 2 10) (at 100 20)) (bucket_of (asked 2 10) (at 101 29))
    ∷ is_same_bucket (bucket_of (asked 2 10) (at 100 20)) (bucket_of (asked 2 10) (at 99 20))
    ∷ is_same_bucket (bucket_of (asked 2 10) (at 100 20)) (bucket_of (asked 2 10) (at 100 19))
    ∷ is_same_bucket (bucket_of (asked 2 10) (at 100 20)) (bucket_of (asked 2 10) (at 100 30))
    ∷ is_same_bucket (bucket_of (asked 2 10) (at 100 20)) (bucket_of (asked 2 10) (at 98 20))
    ∷ is_same_bucket (bucket_of (asked 2 10) (at 100 20)) (bucket_of (asked 2 10) (at 102 20))
    ∷ []
    ≡ true ∷ true ∷ false ∷ false ∷ false ∷ false ∷ []
unfolding bucket_of group_of
tens-and-threes = refl

-- with deltas of 0 each scan and each row is a bucket by itself
pub each-by-itself :
    is_same_bucket (bucket_of (asked 0 0) (at 100 20)) (bucket_of (asked 0 0) (at 100 20))
    ∷ is_same_bucket (bucket_of (asked 0 0) (at 100 20)) (bucket_of (asked 0 0) (at 101 20))
    ∷ is_same_bucket (bucket_of (asked 0 0) (at 100 20)) (bucket_of (asked 0 0) (at 100 21))
    ∷ []
    ≡ true ∷ false ∷ false ∷ []
unfolding bucket_of group_of
each-by-itself = refl

-- ---- keys

-- the keys of two peaks in the first pass, of the first one in the second, and by identity alone
pub first-keys : key_table (First (asked 2 10)) (a ∷ b ∷ []) ≡ 1 ∷ 7 ∷ 2 ∷ 33 ∷ 20 ∷ 0 ∷ 100 ∷ 1 ∷ 1 ∷ 7 ∷ 2 ∷ 34 ∷ 22 ∷ 5 ∷ 102 ∷ 2 ∷ []
unfolding key_table key_of group_there group_number bucket_of group_of
first-keys = refl

pub second_key : key_of Second b ≡ 1 ∷ 7 ∷ 102 ∷ 22 ∷ 5 ∷ 2 ∷ []
unfolding key_of group_there group_number group_of
second_key = refl

pub identities : key_table Identity (a ∷ b ∷ []) ≡ 1 ∷ 2 ∷ []
unfolding key_table key_of
identities = refl

-- In the second pass, in this order: a missing group, whose word is 9, comes before group 0, whatever the rows; of one group and row the
-- lower scan comes first, though its first frame is the later one; of one scan the earlier first frame, and of one frame the lower
-- identity.
pub in-second :
    lex_lt (key_of Second (peak 102 0 9 0 9 20 15 25 1)) (key_of Second (peak 100 0 9 1 0 20 15 25 2))
    ∷ lex_lt (key_of Second (peak 100 5 9 1 7 20 15 25 2)) (key_of Second (peak 100 0 9 1 7 21 15 25 1))
    ∷ lex_lt (key_of Second (peak 100 0 9 1 7 20 15 25 2)) (key_of Second (peak 100 5 9 1 7 20 15 25 1))
    ∷ lex_lt (key_of Second (peak 100 0 9 1 7 20 15 25 1)) (key_of Second (peak 100 0 8 1 7 20 14 26 2))
    ∷ []
    ≡ true ∷ true ∷ true ∷ true ∷ []
unfolding lex_lt key_of group_there group_number group_of
in-second = refl

-- In the first pass, within one bucket, in this order: the lower scan first, though its first frame and its row are the higher ones; of
-- one scan the earlier first frame, though its row is the higher one; of one frame the lower row; of one row the lower identity.
pub in-first :
    lex_lt (key_of (First (asked 2 10)) (peak 101 5 9 1 7 20 15 25 2)) (key_of (First (asked 2 10)) (peak 100 0 9 1 7 21 15 25 1))
    ∷ lex_lt (key_of (First (asked 2 10)) (peak 101 0 9 1 7 20 15 25 2)) (key_of (First (asked 2 10)) (peak 100 5 9 1 7 20 15 25 1))
    ∷ lex_lt (key_of (First (asked 2 10)) (peak 100 0 9 1 7 20 15 25 2)) (key_of (First (asked 2 10)) (peak 101 0 9 1 7 20 15 25 1))
    ∷ lex_lt (key_of (First (asked 2 10)) (peak 100 0 9 1 7 20 15 25 1)) (key_of (First (asked 2 10)) (peak 100 0 8 1 7 20 14 26 2))
    ∷ []
    ≡ true ∷ true ∷ true ∷ true ∷ []
unfolding lex_lt key_of group_there group_number bucket_of group_of
in-first = refl
