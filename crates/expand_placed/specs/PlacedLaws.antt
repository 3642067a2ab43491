-- Where a placed peak lies.
use Rattle.std.specs.Prelude.{ℕ, ◌+◌, ◌≤◌, ◌<◌, List}
use Rattle.limits.specs.Limits.{exact_index}
use Rattle.row_record.specs.declared.ImPeak1D.{ImPeak1D}
use Rattle.rt_record.specs.declared.RtApex.{RtApex}
use Rattle.rt_record.specs.declared.RtPeak1D.{RtPeak1D}
use Rattle.expand_placed.specs.Placed.{placed}

-- a frame, by its place in the run, is one of n from lo on
pub record InFrames (lo n k : ℕ) : Type 0 where
  pub low : lo ≤ k
  pub high : k < lo + n

-- apex and bounds of a peak are
pub record PeakInFrames (lo n : ℕ) (p : RtPeak1D) : Type 0 where
  pub apex : InFrames lo n p.apex.rt_idx
  pub first : InFrames lo n p.rt_lo
  pub last : InFrames lo n p.rt_hi

-- so it is with every peak that is placed, of an apex whose index is one of its trace: `placed-inside` in proofs/Laws.antt
abbrev pub PlacedInside : Type 0
PlacedInside =
    (lo n : ℕ) (ids : List ℕ) (p : ImPeak1D) (a : RtApex) (id : ℕ) → 0 < n → n ≤ exact_index → a.rt_idx < n
    → PeakInFrames lo n (placed lo n ids p a id)
