-- A peak that is put into a list is got back as it was, and nothing else of the list changes.
use mathlib.Core.Path.{◌≡◌, refl, ◌∙◌}
use mathlib.Core.List.{List, ◌++◌}
use Prim.Native.Nat.{ℕ, ◌+◌, ◌*◌}
use native.Mathlib.Omega.{arith}
use lib.ListN.{take, drop}
use lib.Seq.{length-take-le}
use lib.Ieee.{binary32}
use lib.Ieee.Bits.{of_bits-to_bits, of_bits-fits}
use Rattle.rt_record.specs.declared.RtApex.{RtApex}
use Rattle.rt_record.specs.declared.RtPeak1D.{RtPeak1D}
use Rattle.rt_record.specs.declared.RtLocalPeak.{RtLocalPeak}
use Rattle.rt_record.specs.RtRecord.{apex_size, rt_size, local_size, apex_words, apex_from, rt_words, rt_peak_from, with_rt_peak, local_words, local_from, with_local}
use Rattle.rt_record.specs.RoundTrip.{ApexFits, LocalFits, ApexReadFits, LocalReadFits, RtRead, RtGotBack, RtOthersStay, RtSameLength, LocalRead, LocalGotBack, LocalOthersStay, LocalSameLength}
use Rattle.row_record.proofs.Records.{behind, put-length, beside}
use Rattle.rt_record.proofs.Laws.{own-rt, own-local}

-- every float that is read from a list is one of binary32
pub apex-fits : ApexReadFits
unfolding apex_from
apex-fits l a =
    record {
      time = of_bits-fits binary32 _;
      smoothed = of_bits-fits binary32 _;
      raw = of_bits-fits binary32 _;
      prominence = of_bits-fits binary32 _;
      left = of_bits-fits binary32 _;
      right = of_bits-fits binary32 _;
      area = of_bits-fits binary32 _;
      subframe = of_bits-fits binary32 _;
    }

pub local_fits : LocalReadFits
unfolding local_from
local_fits l a =
    record {
      apex = apex-fits l a;
      left = of_bits-fits binary32 _;
      right = of_bits-fits binary32 _;
      width = of_bits-fits binary32 _;
    }

-- an apex is got back from its words, whatever stands behind them
apex-back : (a : RtApex) (rest : List ℕ) → ApexFits a → apex_from (apex_words a ++ rest) 0 ≡ a
unfolding apex_from
apex-back a rest f =
    rw (
      of_bits-to_bits binary32 a.rt_sec f.time,
      of_bits-to_bits binary32 a.apex_smoothed f.smoothed,
      of_bits-to_bits binary32 a.apex_raw f.raw,
      of_bits-to_bits binary32 a.prominence f.prominence,
      of_bits-to_bits binary32 a.left_x f.left,
      of_bits-to_bits binary32 a.right_x f.right,
      of_bits-to_bits binary32 a.area_raw f.area,
      of_bits-to_bits binary32 a.subframe f.subframe,
    )

-- ---- records of the run

rt-back : (p : RtPeak1D) → ApexFits p.apex → rt_peak_from (rt_words p) 0 ≡ p
unfolding rt_peak_from
rt-back p f = rw (apex-back p.apex (drop apex_size (rt_words p)) f)

-- a peak whose words stand in a list is the one that is read there
pub rt-read : RtRead
rt-read front rest k p e f =
    own-rt (front ++ (rt_words p ++ rest)) (rt_words p) (k * rt_size) 0 (behind front (rt_words p) rest (k * rt_size) e) ∙ rt-back p f

pub rt-got-back : RtGotBack
unfolding with_rt_peak
rt-got-back l k p room f = rt-read (take (k * rt_size) l) (drop (k * rt_size + rt_size) l) k p (length-take-le (k * rt_size) l (omega arith)) f

pub rt-others-stay : RtOthersStay
unfolding with_rt_peak
rt-others-stay l k p room j n =
    own-rt (take (k * rt_size) l ++ (rt_words p ++ drop (k * rt_size + rt_size) l)) l (j * rt_size) (j * rt_size)
    (beside l (rt_words p) (k * rt_size) rt_size refl room k j refl n)

pub rt-same-length : RtSameLength
unfolding with_rt_peak
rt-same-length l k p room = put-length l (rt_words p) (k * rt_size) rt_size refl room

-- ---- records of a trace

local_back : (p : RtLocalPeak) → LocalFits p → local_from (local_words p) 0 ≡ p
unfolding local_from
local_back p f =
    rw (
      apex-back p.apex (drop apex_size (local_words p)) f.apex,
      of_bits-to_bits binary32 p.left_sec f.left,
      of_bits-to_bits binary32 p.right_sec f.right,
      of_bits-to_bits binary32 p.width_sec f.width,
    )

pub local-read : LocalRead
local-read front rest k p e f =
    own-local (front ++ (local_words p ++ rest)) (local_words p) (k * local_size) 0 (behind front (local_words p) rest (k * local_size) e)
    ∙ local_back p f

pub local-got-back : LocalGotBack
unfolding with_local
local-got-back l k p room f =
    local-read (take (k * local_size) l) (drop (k * local_size + local_size) l) k p (length-take-le (k * local_size) l (omega arith)) f

pub local-others-stay : LocalOthersStay
unfolding with_local
local-others-stay l k p room j n =
    own-local (take (k * local_size) l ++ (local_words p ++ drop (k * local_size + local_size) l)) l (j * local_size) (j * local_size)
    (beside l (local_words p) (k * local_size) local_size refl room k j refl n)

pub local-same-length : LocalSameLength
unfolding with_local
local-same-length l k p room = put-length l (local_words p) (k * local_size) local_size refl room
