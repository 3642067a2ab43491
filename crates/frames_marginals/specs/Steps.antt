-- What holds of a block that no number refuses.
use Rattle.std.specs.Prelude.{ℕ, ◌+◌, ◌≤◌, ◌<◌, length}
use Rattle.frames_index.specs.FrameIndex.{Index}
use Rattle.frames_marginals.specs.declared.inner.Block.{Block}
use Rattle.frames_marginals.specs.Marginals.{frames_in}

-- its frames are frames of the index, its scans are not reversed, and n sums have room
pub record Within (ix : Index) (b : Block) (n room : ℕ) : Type 0 where
  pub ends : b.rt_lo + frames_in b < length ix.starts
  pub scans : b.im_lo ≤ b.im_hi
  pub fits : n ≤ room
