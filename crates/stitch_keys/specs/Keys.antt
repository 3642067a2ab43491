-- What peaks are sorted by: a list of numbers, of which the first that differs decides, the identity last.
use Rattle.std.specs.Prelude.{Bool, ◌&&◌, if◌then◌else◌, Option, Some, None, List, [], ◌∷◌, ◌++◌, ℕ, ◌+◌, ◌/◌, max, eqb, nat_eq}
use Rattle.std.specs.Option.{option_eq}
use Rattle.row_record.specs.Record.{id_words}
use Rattle.row_record.specs.declared.ImPeak1D.{ImPeak1D}
use Rattle.stitch_matching.specs.declared.StitchParams.{StitchParams}
use Rattle.stitch_matching.specs.Matching.{group_of}
use Rattle.stitch_keys.specs.declared.KeyRule.{KeyRule}
use Rattle.stitch_keys.specs.declared.KeyRule.TheVariants.{First, Second, Identity}
use Rattle.stitch_keys.specs.declared.inner.Bucket.{Bucket}

-- ---- buckets of the first pass

-- the window group of a peak, taken for missing where crossing is allowed
abbrev pub group_in : StitchParams → ImPeak1D → Option ℕ
group_in params p = if params.allow_cross_groups then None else group_of p

-- The bucket of a peak: its window group, which is taken for missing where crossing is allowed, the interval of scans and the
-- interval of rows that it falls into. Both deltas are widths: an interval has as many scans as the scan delta, one at least, and
-- one row more than the row delta.
unfoldable pub bucket_of : StitchParams → ImPeak1D → Bucket
bucket_of params p =
    record {
      group = group_in params p;
      scans = p.scan / max params.max_scan_delta 1;
      rows = p.tof_row / (params.max_tof_row_delta + 1);
    }

abbrev pub is_same_bucket : Bucket → Bucket → Bool
is_same_bucket x y = option_eq nat_eq x.group y.group && eqb x.scans y.scans && eqb x.rows y.rows

-- ---- keys

-- a window group as two numbers: whether it is there, and its number, 0 for a missing one
unfoldable pub group_there : Option ℕ → ℕ
group_there None = 0
group_there (Some number) = 1

unfoldable pub group_number : Option ℕ → ℕ
group_number None = 0
group_number (Some number) = number

-- First pass: by bucket, within a bucket by scan, first frame and row; equal ones by identity. Second pass: by group, where a missing
-- one comes before every other, row, scan and first frame; equal ones by identity.
unfoldable pub key_of : KeyRule → ImPeak1D → List ℕ
key_of (First params) p =
    let b = bucket_of params p in group_there b.group ∷ group_number b.group ∷ b.scans ∷ b.rows ∷ p.scan ∷ p.rt_lo ∷ p.tof_row ∷ id_words p.id
key_of Second p = group_there (group_of p) ∷ group_number (group_of p) ∷ p.tof_row ∷ p.scan ∷ p.rt_lo ∷ id_words p.id
key_of Identity p = id_words p.id

-- how many numbers a key has
unfoldable pub width_of : KeyRule → ℕ
width_of (First params) = 8
width_of Second = 6
width_of Identity = 1

-- the keys of peaks, one after the other
unfoldable pub key_table : KeyRule → List ImPeak1D → List ℕ
key_table rule [] = []
key_table rule (p ∷ ps) = key_of rule p ++ key_table rule ps
