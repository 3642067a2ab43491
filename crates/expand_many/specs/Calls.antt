-- What the structs of a call hand in.
use Rattle.rt_params.specs.declared.RtExpandParams.{RtExpandParams}
use Rattle.expand_one.specs.declared.run.Run.{Run as LentRun}
use Rattle.expand_one.specs.declared.run.FollowedRun.{FollowedRun}
use Rattle.expand_one.specs.Runs.{run_lent, run_in}
use Rattle.expand_many.specs.declared.peaks.PeakList.{PeakList}
use Rattle.expand_many.specs.Many.{Many, many_of}

abbrev pub many_lent : LentRun → RtExpandParams → PeakList → Many
many_lent run e l = many_of (run_lent run) e l.list.now l.weights.now l.lengths.now l.first

abbrev pub many_in : FollowedRun → PeakList → Many
many_in run l = many_of (run_in run) run.params l.list.now l.weights.now l.lengths.now l.first
