-- What the C entries of marginals answer.
use Rattle.std.specs.Prelude.{List, ℕ, length, Float}
use Rattle.frames_index.specs.FrameIndex.{Index}
use Rattle.frames_marginals.specs.declared.inner.Block.{Block}
use Rattle.frames_marginals.specs.Marginals.{frames_in, scans_in, rt_marginal, im_marginal, marginal_asks}
use Rattle.c_frames.specs.Sums.{Summed}

abbrev pub RtSummed : Index → Block → List Float → List Float → ℕ → Type 0
RtSummed ix b was is r = Summed ix (marginal_asks ix b (frames_in b) (length was)) (rt_marginal ix b) was is r

abbrev pub ImSummed : Index → Block → List Float → List Float → ℕ → Type 0
ImSummed ix b was is r = Summed ix (marginal_asks ix b (scans_in b) (length was)) (im_marginal ix b) was is r
