-- Retention peaks as words: a list of peaks is a list of words, as many for each peak, floats as their bit patterns. There are two
-- kinds of records, which begin alike: local ones, of the search of one trace, and those that expansion delivers, called those of the run.
use Rattle.std.specs.Prelude.{cond, List, [], ◌∷◌, ◌++◌, ℕ, ◌+◌, ◌*◌, ◌%◌, get_or, take, drop, Float}
use Rattle.std.specs.Float.{binary32}
use Rattle.std.specs.Float.Ieee.{of_bits}
use Rattle.row_record.specs.Record.{id_words, word, has_group}
use Rattle.row_record.specs.declared.ImPeak1D.{ImPeak1D}
use Rattle.rt_record.specs.declared.RtApex.{RtApex}
use Rattle.rt_record.specs.declared.RtBounds.{RtBounds}
use Rattle.rt_record.specs.declared.RtPeak1D.{RtPeak1D}
use Rattle.rt_record.specs.declared.RtLocalPeak.{RtLocalPeak}

-- the words that both kinds begin with, of a record of the run and of a record of a trace
abbrev pub apex_size : ℕ
apex_size = 10

abbrev pub rt_size : ℕ
rt_size = 22

abbrev pub local_size : ℕ
local_size = 13

-- the field and the float at place j of the record whose words start at a place of a list
abbrev pub field_of : List ℕ → ℕ → ℕ → ℕ
field_of l a j = get_or l (a + j) 0

abbrev pub float_of : List ℕ → ℕ → ℕ → Float
float_of l a j = of_bits binary32 (field_of l a j)

-- ---- identities, the only definitions that know how they are held: the parent's first, then the peak's own

abbrev pub rt_parent_from : List ℕ → ℕ → ℕ
rt_parent_from l a = field_of l a 20

abbrev pub rt_id_from : List ℕ → ℕ → ℕ
rt_id_from l a = field_of l a 21

-- ---- what both kinds begin with

abbrev pub apex_words : RtApex → List ℕ
apex_words a =
    a.rt_idx ∷ word a.rt_sec ∷ word a.apex_smoothed ∷ word a.apex_raw ∷ word a.prominence
    ∷ word a.left_x ∷ word a.right_x ∷ a.width_frames ∷ word a.area_raw ∷ word a.subframe ∷ []

unfoldable pub apex_from : List ℕ → ℕ → RtApex
apex_from l a =
    record {
      rt_idx = field_of l a 0;
      rt_sec = float_of l a 1;
      apex_smoothed = float_of l a 2;
      apex_raw = float_of l a 3;
      prominence = float_of l a 4;
      left_x = float_of l a 5;
      right_x = float_of l a 6;
      width_frames = field_of l a 7;
      area_raw = float_of l a 8;
      subframe = float_of l a 9;
    }

-- ---- a record of the run

-- the words of a peak, in order: those of its apex, and its own behind them
abbrev pub rt_own_words : RtPeak1D → List ℕ
rt_own_words p =
    p.rt_lo ∷ p.rt_hi ∷ p.frame_id_lo ∷ p.frame_id_hi ∷ p.flags ∷ p.window_group
    ∷ p.tof_row ∷ p.tof_center ∷ p.tof_lo ∷ p.tof_hi ∷ (id_words p.parent_im_id ++ id_words p.id)

abbrev pub rt_words : RtPeak1D → List ℕ
rt_words p = apex_words p.apex ++ rt_own_words p

-- the peak whose words start at a place of a list
unfoldable pub rt_peak_from : List ℕ → ℕ → RtPeak1D
rt_peak_from l a =
    record {
      apex = apex_from l a;
      rt_lo = field_of l a 10;
      rt_hi = field_of l a 11;
      frame_id_lo = field_of l a 12;
      frame_id_hi = field_of l a 13;
      flags = field_of l a 14;
      window_group = field_of l a 15;
      tof_row = field_of l a 16;
      tof_center = field_of l a 17;
      tof_lo = field_of l a 18;
      tof_hi = field_of l a 19;
      parent_im_id = rt_parent_from l a;
      id = rt_id_from l a;
    }

-- the peak at place k of a list, its parent, its identity, and the list with p at place k
abbrev pub rt_peak_at : List ℕ → ℕ → RtPeak1D
rt_peak_at l k = rt_peak_from l (k * rt_size)

abbrev pub rt_parent_at : List ℕ → ℕ → ℕ
rt_parent_at l k = rt_parent_from l (k * rt_size)

abbrev pub rt_id_at : List ℕ → ℕ → ℕ
rt_id_at l k = rt_id_from l (k * rt_size)

unfoldable pub with_rt_peak : List ℕ → ℕ → RtPeak1D → List ℕ
with_rt_peak l k p = take (k * rt_size) l ++ (rt_words p ++ drop (k * rt_size + rt_size) l)

-- ---- a record of a trace

abbrev pub local_own_words : RtLocalPeak → List ℕ
local_own_words p = word p.left_sec ∷ word p.right_sec ∷ word p.width_sec ∷ []

abbrev pub local_words : RtLocalPeak → List ℕ
local_words p = apex_words p.apex ++ local_own_words p

unfoldable pub local_from : List ℕ → ℕ → RtLocalPeak
local_from l a =
    record {
      apex = apex_from l a;
      left_sec = float_of l a 10;
      right_sec = float_of l a 11;
      width_sec = float_of l a 12;
    }

abbrev pub local_at : List ℕ → ℕ → RtLocalPeak
local_at l k = local_from l (k * local_size)

unfoldable pub with_local : List ℕ → ℕ → RtLocalPeak → List ℕ
with_local l k p = take (k * local_size) l ++ (local_words p ++ drop (k * local_size + local_size) l)

-- ---- what a retention peak takes over from its mobility peak: the window group, if it has one, its TOF values and its identity

-- the bit that tells of the window group; the flags of mobility and scan sigma are not kept
abbrev pub group_flag : ImPeak1D → ℕ
group_flag p = p.flags % 2

unfoldable pub group_word : ImPeak1D → ℕ
group_word p = cond (has_group p) p.window_group 0

-- the retention peak of the mobility peak p with an apex, bounds and an identity
unfoldable pub rt_peak_of : RtApex → RtBounds → ImPeak1D → ℕ → RtPeak1D
rt_peak_of apex b p i =
    record {
      apex = apex;
      rt_lo = b.rt_lo;
      rt_hi = b.rt_hi;
      frame_id_lo = b.frame_id_lo;
      frame_id_hi = b.frame_id_hi;
      flags = group_flag p;
      window_group = group_word p;
      tof_row = p.tof_row;
      tof_center = p.tof_center;
      tof_lo = p.tof_lo;
      tof_hi = p.tof_hi;
      parent_im_id = p.id;
      id = i;
    }
