-- Mobility peaks as words: a list of peaks is a list of words, `size` of them a peak, floats as their bit patterns.
use Rattle.std.specs.Prelude.{Bool, true, not, ◌&&◌, ◌||◌, List, [], ◌∷◌, ◌++◌, ℕ, zero, suc, ◌+◌, ◌*◌, ◌/◌, ◌%◌, leb, eqb, get_or, take, drop, Float}
use Rattle.std.specs.Float.{binary32}
use Rattle.std.specs.Float.Ieee.{le, to_bits, of_bits}
use Rattle.limits.specs.Limits.{max_place, max_mobility, max_height, max_area, max_offset, last_row, max_tof_bound, last_frame, last_sample, max_scan, max_width}
use Rattle.numeric.specs.Numeric.{in_range}
use Rattle.row_record.specs.declared.ImPeak1D.{ImPeak1D}

-- the words of a record
abbrev pub size : ℕ
size = 27

-- its bytes
abbrev pub size_in_bytes : ℕ
size_in_bytes = 4 * size

-- ---- identities, the only definitions that know how they are held

-- the words in front of the identity
abbrev pub id_place : ℕ
id_place = 26

abbrev pub id_words : ℕ → List ℕ
id_words i = i ∷ []

-- the identity in the record whose words start at a place of a list
abbrev pub id_from : List ℕ → ℕ → ℕ
id_from l a = get_or l (a + id_place) 0

-- ---- a record

abbrev pub word : Float → ℕ
word x = to_bits binary32 x

-- the words of a peak, in order
abbrev pub words_of : ImPeak1D → List ℕ
words_of p =
    p.tof_row ∷ p.tof_center ∷ p.tof_lo ∷ p.tof_hi ∷ p.rt_lo ∷ p.rt_hi ∷ p.frame_id_lo ∷ p.frame_id_hi
    ∷ p.flags ∷ p.window_group ∷ p.scan ∷ p.left ∷ p.right ∷ p.scan_abs ∷ p.left_abs ∷ p.right_abs
    ∷ word p.scan_sigma ∷ word p.mobility ∷ word p.apex_smoothed ∷ word p.apex_raw ∷ word p.prominence
    ∷ word p.left_x ∷ word p.right_x ∷ p.width_scans ∷ word p.area_raw ∷ word p.subscan ∷ id_words p.id

-- the peak whose words start at a place of a list
unfoldable pub peak_from : List ℕ → ℕ → ImPeak1D
peak_from l a =
    let field : ℕ → ℕ = λ k. get_or l (a + k) 0 in
    let float : ℕ → Float = λ k. of_bits binary32 (get_or l (a + k) 0) in
    record {
      tof_row = field 0;
      tof_center = field 1;
      tof_lo = field 2;
      tof_hi = field 3;
      rt_lo = field 4;
      rt_hi = field 5;
      frame_id_lo = field 6;
      frame_id_hi = field 7;
      flags = field 8;
      window_group = field 9;
      scan = field 10;
      left = field 11;
      right = field 12;
      scan_abs = field 13;
      left_abs = field 14;
      right_abs = field 15;
      scan_sigma = float 16;
      mobility = float 17;
      apex_smoothed = float 18;
      apex_raw = float 19;
      prominence = float 20;
      left_x = float 21;
      right_x = float 22;
      width_scans = field 23;
      area_raw = float 24;
      subscan = float 25;
      id = id_from l a;
    }

-- the peak at place k of a list, its identity, and the list with p at place k
abbrev pub peak_at : List ℕ → ℕ → ImPeak1D
peak_at l k = peak_from l (k * size)

abbrev pub id_at : List ℕ → ℕ → ℕ
id_at l k = id_from l (k * size)

unfoldable pub with_peak : List ℕ → ℕ → ImPeak1D → List ℕ
with_peak l k p = take (k * size) l ++ (words_of p ++ drop (k * size + size) l)

-- ---- number 9: fields in range, and no low bound above its high one

-- which of the three fields that may be missing are there
abbrev pub has_group : ImPeak1D → Bool
has_group p = eqb (p.flags % 2) 1

abbrev pub has_mobility : ImPeak1D → Bool
has_mobility p = eqb (p.flags / 2 % 2) 1

abbrev pub has_sigma : ImPeak1D → Bool
has_sigma p = eqb (p.flags / 4 % 2) 1

-- floats from 0 to 65,535, 2 ^ 20, 2 ^ 33 and 2 ^ 50
abbrev pub place : Float → Bool
place x = in_range max_place x

abbrev pub modest : Float → Bool
modest x = in_range max_mobility x

abbrev pub height : Float → Bool
height x = in_range max_height x

abbrev pub area : Float → Bool
area x = in_range max_area x

-- from -0.5 to 0.5, either zero
abbrev pub offset : Float → Bool
offset x = leb (word x % 0x8000_0000) max_offset

unfoldable pub sound_tof : ImPeak1D → Bool
sound_tof p =
    leb p.tof_row last_row && leb p.tof_center max_tof_bound && leb p.tof_lo p.tof_hi && leb p.tof_hi max_tof_bound

unfoldable pub sound_frames : ImPeak1D → Bool
sound_frames p = leb p.rt_lo p.rt_hi && leb p.rt_hi last_frame && leb p.frame_id_lo p.frame_id_hi

unfoldable pub sound_options : ImPeak1D → Bool
sound_options p = leb p.flags 7 && (not (has_sigma p) || modest p.scan_sigma) && (not (has_mobility p) || modest p.mobility)

unfoldable pub sound_scans : ImPeak1D → Bool
sound_scans p =
    leb p.scan last_sample && leb p.left p.right && leb p.right last_sample
    && leb p.scan_abs max_scan && leb p.left_abs p.right_abs && leb p.right_abs max_scan

unfoldable pub sound_shape : ImPeak1D → Bool
sound_shape p =
    height p.apex_smoothed && height p.apex_raw && height p.prominence
    && place p.left_x && place p.right_x && le p.left_x p.right_x
    && leb p.width_scans max_width && area p.area_raw && offset p.subscan

unfoldable pub sound : ImPeak1D → Bool
sound p = sound_tof p && sound_frames p && sound_options p && sound_scans p && sound_shape p

-- the first n peaks of a list are sound
unfoldable pub all_sound : List ℕ → ℕ → Bool
all_sound l zero = true
all_sound l (suc n) = all_sound l n && sound (peak_at l n)
