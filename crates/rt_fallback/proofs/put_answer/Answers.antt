use Rattle.rt_record.specs.RtRecord.{with_rt_peak}
use Rattle.rt_fallback.proofs.put_answer.Goals as goal

pub returns-in-Some : goal.returns-in-Some
unfolding with_rt_peak
returns-in-Some c = record { count = rw c.in-Some.is; words = rw c.in-Some.is c.put_rt_peak.ensures }
