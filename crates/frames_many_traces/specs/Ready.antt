-- What holds of a call that no number refuses.
use Rattle.std.specs.Prelude.{◌*◌, ◌≤◌}
use Rattle.limits.specs.Limits.{max_count}
use Rattle.tof_scale.specs.Tof.{Sound}
use Rattle.frames_many_traces.specs.declared.numbers.Rooms.{Rooms}
use Rattle.frames_many_traces.specs.ManyTraces.{Call, peaks_in, sums_in}

-- its scale is sound, its pad in range, and all sums and windows have room
pub record Ready (c : Call) (room : Rooms) : Type 0 where
  pub scale : Sound c.scale
  pub pad : c.pad ≤ max_count
  pub out : sums_in c ≤ room.out
  pub windows : 4 * peaks_in c ≤ room.windows
