-- The records of the peaks of one TOF row: y is the smoothed row, z the raw one, both over the same scans.
use Rattle.std.specs.Prelude.{List, [], ◌∷◌, ◌++◌, ℕ, ◌+◌, ◌-◌, min, length, get_or, Float}
use Rattle.std.specs.Float.{binary32}
use Rattle.std.specs.Float.Ieee.{of_bits}
use Rattle.numeric.specs.Arith.{𝟎, ½, index_f, at}
use Rattle.numeric.specs.Numeric.{max_f, min_f, clamp_f, quad_f}
use Rattle.rounding.specs.Rounding.{floor_f, ceil_f}
use Rattle.row_apex.specs.Apex.{prominence}
use Rattle.row_area.specs.Area.{area_f}
use Rattle.row_record.specs.declared.ImPeak1D.{ImPeak1D}
use Rattle.row_record.specs.Record.{words_of}
use Rattle.row_spans.specs.Span.{sample_at}
use Rattle.row_search.specs.Qualifying.{left_x, right_x, width}
use Rattle.row_search.specs.declared.inner.Measured.{Measured}
use Rattle.row_params.specs.declared.RowPlace.{RowPlace}
use Rattle.row_params.specs.declared.FrameBounds.{FrameBounds}
use Rattle.std.specs.Prelude.{Option}
use Rattle.std.specs.Prelude.{None, Some}
use Rattle.row.specs.declared.inner.OnAxes.{OnAxes}

-- the scan of a sample, the last one's past the axis
abbrev pub scan_at : List ℕ → ℕ → ℕ
scan_at axis k = get_or axis (min k (length axis - 1)) 0

-- how far the apex lies from its sample
unfoldable pub subscan : List Float → ℕ → Float
subscan y i = clamp_f (quad_f (at y (i - 1)) (at y i) (at y (i + 1))) (of_bits binary32 0xbf00_0000) ½

-- an empty mobility table means that there is none
abbrev pub mobility_at : List Float → ℕ → Float
mobility_at [] i = 𝟎
mobility_at (m ∷ ms) i = get_or (m ∷ ms) i 𝟎

-- which of the fields that may be missing are there; the scan sigma never is
abbrev pub group_flag : Option ℕ → ℕ
group_flag None = 0
group_flag (Some g) = 1

abbrev pub group_word : Option ℕ → ℕ
group_word None = 0
group_word (Some g) = g

abbrev pub mobility_flag : List Float → ℕ
mobility_flag [] = 0
mobility_flag (m ∷ ms) = 2

-- the same of a field, by whether it is there
abbrev pub flag_of : {A : Type 0} → Option A → ℕ → ℕ
flag_of None flag = 0
flag_of (Some v) flag = flag

abbrev pub mobility_of : List Float → ℕ → Option Float
mobility_of [] i = None
mobility_of (m ∷ ms) i = Some (get_or (m ∷ ms) i 𝟎)

-- where what is measured of an apex lies on the scan axis, and its mobility
abbrev pub on_axes : List Float → List ℕ → Measured → OnAxes
on_axes mobility axis a =
    record {
      scan = scan_at axis a.index;
      left = scan_at axis a.left;
      right = scan_at axis a.right;
      mobility = mobility_of mobility a.index;
    }

-- the peak of an apex, with its identity
unfoldable pub peak_of : RowPlace → FrameBounds → List Float → List ℕ → List Float → List Float → ℕ → ℕ → ImPeak1D
peak_of r f mobility axis y z i id =
    let lx = left_x y i in
    let rx = right_x y i in
    let n = length y in
    record {
      tof_row = r.tof_row;
      tof_center = r.tof_center;
      tof_lo = r.tof_lo;
      tof_hi = r.tof_hi;
      rt_lo = f.rt_lo;
      rt_hi = f.rt_hi;
      frame_id_lo = f.frame_id_lo;
      frame_id_hi = f.frame_id_hi;
      flags = group_flag f.window_group + mobility_flag mobility;
      window_group = group_word f.window_group;
      scan = i;
      left = sample_at n (floor_f lx);
      right = sample_at n (ceil_f rx);
      scan_abs = scan_at axis i;
      left_abs = scan_at axis (sample_at n (floor_f lx));
      right_abs = scan_at axis (sample_at n (ceil_f rx));
      scan_sigma = 𝟎;
      mobility = mobility_at mobility i;
      apex_smoothed = at y i;
      apex_raw = at z i;
      prominence = prominence y i;
      left_x = lx;
      right_x = rx;
      width_scans = width y i;
      area_raw = area_f z (max_f lx 𝟎) (min_f rx (index_f (n - 1)));
      subscan = subscan y i;
      id = id;
    }

-- the words of the listed peaks, the newest first in the argument: identities run on from the first in list order
unfoldable pub row_words : RowPlace → FrameBounds → List Float → List ℕ → List Float → List Float → ℕ → List ℕ → List ℕ
row_words r f mobility axis y z first [] = []
row_words r f mobility axis y z first (i ∷ older) =
    row_words r f mobility axis y z first older ++ words_of (peak_of r f mobility axis y z i (first + length older))
