-- What holds of a trace that no number refuses.
use Prim.Native.Nat.{ℕ, ◌≤◌}
use borrow.Author.Tests.{leb-true}
use Rattle.refusal.proofs.Bools.{both, all4}
use Rattle.limits.specs.Limits.{max_count}
use Rattle.tof_scale.specs.declared.TofScale.{TofScale}
use Rattle.tof_scale.specs.Tof.{Sound, sound_step, sound_ends}
use Rattle.frames_index.specs.FrameIndex.{Index, frames}
use Rattle.frames_index.specs.IndexNumber.{Accepted}
use Rattle.frames_windows.specs.declared.inner.Bounds.{Bounds}
use Rattle.frames_traces.specs.Traces.{sound_axes, bounds_asks}

module _ (ix : Index) (scale : TofScale) (b : Bounds) (room : ℕ) (a : Accepted ix (bounds_asks ix scale b room)) where
  pub bounds_held : Sound scale × (b.pad ≤ max_count) × (frames ix ≤ room)
  unfolding sound_axes
  bounds_held =
      let v = both (sound_step scale.tof_step) a.values in
      let x = all4 (sound_ends scale) a.axes in
      (record { step = v.0; ends = x.0; agree = a.scale }, leb-true b.pad max_count v.1, leb-true (frames ix) room a.room)
