-- The run of the struct that holds it.
use Rattle.expand_peak.specs.Expanded.{Run, run_of}
use Rattle.expand_one.specs.declared.run.Run.{Run as LentRun}
use Rattle.expand_one.specs.declared.run.FollowedRun.{FollowedRun}

abbrev pub run_lent : LentRun → Run
run_lent r = run_of r.index.now r.ids.now r.times.now r.scale

abbrev pub run_in : FollowedRun → Run
run_in r = run_of r.index.now r.ids.now r.times.now r.scale
