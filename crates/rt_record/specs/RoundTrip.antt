-- A peak that is put into a list is got back as it was, and nothing else of the list changes. So it is with both kinds of records.
use Rattle.std.specs.Prelude.{◌≡◌, List, ◌++◌, ◌≢◌, ℕ, ◌+◌, ◌*◌, ◌≤◌, T, length}
use Rattle.std.specs.Float.{binary32}
use Rattle.std.specs.Float.Ieee.{fits}
use Rattle.rt_record.specs.declared.RtApex.{RtApex}
use Rattle.rt_record.specs.declared.RtPeak1D.{RtPeak1D}
use Rattle.rt_record.specs.declared.RtLocalPeak.{RtLocalPeak}
use Rattle.rt_record.specs.RtRecord.{rt_size, local_size, apex_from, rt_words, rt_peak_at, with_rt_peak, local_words, local_from, local_at, with_local}

-- every float is one of binary32, as every f32 is
pub record ApexFits (a : RtApex) : Type 0 where
  pub time : T (fits binary32 a.rt_sec)
  pub smoothed : T (fits binary32 a.apex_smoothed)
  pub raw : T (fits binary32 a.apex_raw)
  pub prominence : T (fits binary32 a.prominence)
  pub left : T (fits binary32 a.left_x)
  pub right : T (fits binary32 a.right_x)
  pub area : T (fits binary32 a.area_raw)
  pub subframe : T (fits binary32 a.subframe)

pub record LocalFits (p : RtLocalPeak) : Type 0 where
  pub apex : ApexFits p.apex
  pub left : T (fits binary32 p.left_sec)
  pub right : T (fits binary32 p.right_sec)
  pub width : T (fits binary32 p.width_sec)

-- so it is with every peak that is read from a list: `apex-fits`, `local_fits` in proofs/RoundTrip.antt
abbrev pub ApexReadFits : Type 0
ApexReadFits = (l : List ℕ) (a : ℕ) → ApexFits (apex_from l a)

abbrev pub LocalReadFits : Type 0
LocalReadFits = (l : List ℕ) (a : ℕ) → LocalFits (local_from l a)

-- ---- records of the run

-- a peak whose words stand at place k of a list is the one that is read there: `rt-read`
abbrev pub RtRead : Type 0
RtRead =
    (front rest : List ℕ) (k : ℕ) (p : RtPeak1D) → length front ≡ k * rt_size → ApexFits p.apex
    → rt_peak_at (front ++ (rt_words p ++ rest)) k ≡ p

-- the peak that was put is the peak that is got: `rt-got-back`
abbrev pub RtGotBack : Type 0
RtGotBack =
    (l : List ℕ) (k : ℕ) (p : RtPeak1D) → k * rt_size + rt_size ≤ length l → ApexFits p.apex → rt_peak_at (with_rt_peak l k p) k ≡ p

-- every other peak of the list stays: `rt-others-stay`
abbrev pub RtOthersStay : Type 0
RtOthersStay =
    (l : List ℕ) (k : ℕ) (p : RtPeak1D) → k * rt_size + rt_size ≤ length l
    → (j : ℕ) → j ≢ k → rt_peak_at (with_rt_peak l k p) j ≡ rt_peak_at l j

-- the list keeps its length: `rt-same-length`
abbrev pub RtSameLength : Type 0
RtSameLength = (l : List ℕ) (k : ℕ) (p : RtPeak1D) → k * rt_size + rt_size ≤ length l → length (with_rt_peak l k p) ≡ length l

-- ---- records of a trace: `local-read`, `local-got-back`, `local-others-stay`, `local-same-length`

abbrev pub LocalRead : Type 0
LocalRead =
    (front rest : List ℕ) (k : ℕ) (p : RtLocalPeak) → length front ≡ k * local_size → LocalFits p
    → local_at (front ++ (local_words p ++ rest)) k ≡ p

abbrev pub LocalGotBack : Type 0
LocalGotBack =
    (l : List ℕ) (k : ℕ) (p : RtLocalPeak) → k * local_size + local_size ≤ length l → LocalFits p → local_at (with_local l k p) k ≡ p

abbrev pub LocalOthersStay : Type 0
LocalOthersStay =
    (l : List ℕ) (k : ℕ) (p : RtLocalPeak) → k * local_size + local_size ≤ length l
    → (j : ℕ) → j ≢ k → local_at (with_local l k p) j ≡ local_at l j

abbrev pub LocalSameLength : Type 0
LocalSameLength = (l : List ℕ) (k : ℕ) (p : RtLocalPeak) → k * local_size + local_size ≤ length l → length (with_local l k p) ≡ length l
