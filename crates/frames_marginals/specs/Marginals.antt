-- Marginals of an index: a block of frames, bins and scans, summed by frame or by scan.
use Rattle.std.specs.Prelude.{Bool, ◌&&◌, List, ℕ, ◌+◌, ◌-◌, leb, ltb, length, Float, Result}
use Rattle.refusal.specs.declared.Refusal.{Refusal}
use Rattle.refusal.specs.Numbered.{says}
use Rattle.limits.specs.Limits.{max_reading, last_row, max_scan}
use Rattle.frames_index.specs.declared.numbers.Further.{Further}
use Rattle.frames_index.specs.FrameIndex.{Index, frames}
use Rattle.frames_index.specs.IndexNumber.{index_number, met, Front}
use Rattle.frames_sums.specs.declared.inner.Window.{Window}
use Rattle.frames_sums.specs.Sums.{frame_sums, scan_sums}
use Rattle.frames_marginals.specs.declared.inner.Block.{Block}

-- frames, bins and scans, ends included
abbrev pub block_of : ℕ → ℕ → ℕ → ℕ → ℕ → ℕ → Block
block_of rt_lo rt_hi bin_lo bin_hi im_lo im_hi =
    record { rt_lo = rt_lo; rt_hi = rt_hi; bin_lo = bin_lo; bin_hi = bin_hi; im_lo = im_lo; im_hi = im_hi }

-- its bins and scans
abbrev pub window_of : Block → Window
window_of b = record { bin_lo = b.bin_lo; bin_hi = b.bin_hi; scan_lo = b.im_lo; scan_hi = b.im_hi }

-- how many frames it has, and how many scans
abbrev pub frames_in : Block → ℕ
frames_in b = b.rt_hi + 1 - b.rt_lo

abbrev pub scans_in : Block → ℕ
scans_in b = b.im_hi + 1 - b.im_lo

-- ---- the marginals

-- along retention time: for each frame of the block the sum of its readings there
abbrev pub rt_marginal : Index → Block → List Float
rt_marginal ix b = frame_sums ix (window_of b) b.rt_lo (frames_in b)

-- along mobility: for each scan of the block the sum of its readings there, over all frames of the block
abbrev pub im_marginal : Index → Block → List Float
im_marginal ix b = scan_sums ix (window_of b) b.rt_lo (frames_in b)

-- ---- numbers

-- number 4: no range is reversed, frames end before n, and bins go to 4,194,303
abbrev pub sound_ranges : ℕ → Block → Bool
sound_ranges n b =
    leb b.rt_lo b.rt_hi && ltb b.rt_hi n && leb b.bin_lo b.bin_hi && leb b.bin_hi last_row && leb b.im_lo b.im_hi

-- what a marginal of n sums is asked besides its index: its ranges, scans to 65,535, and room for the sums
abbrev pub marginal_asks : Index → Block → ℕ → ℕ → Further
marginal_asks ix b n room = record met { values = sound_ranges (frames ix) b; axes = leb b.im_hi max_scan; room = leb n room }

-- its number, for readings up to a limit
abbrev pub marginal_number : ℕ → Index → Block → ℕ → ℕ → ℕ
marginal_number limit ix b n room = index_number limit ix (marginal_asks ix b n room)

-- ---- what is left of a call, with readings to 2^32

abbrev pub RtAnswered : Index → Block → List Float → List Float → Result ℕ Refusal → Type 0
RtAnswered ix b was is r = Front (marginal_number max_reading ix b (frames_in b) (length was)) (rt_marginal ix b) was is (says r)

abbrev pub ImAnswered : Index → Block → List Float → List Float → Result ℕ Refusal → Type 0
ImAnswered ix b was is r = Front (marginal_number max_reading ix b (scans_in b) (length was)) (im_marginal ix b) was is (says r)
