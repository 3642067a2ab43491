use Rattle.std.proofs.Common.{sym}
use Rattle.frames_index.specs.IndexNumber.{index_number, Accepted}
use Rattle.frames_index.proofs.IndexNumberLaws.{accepted, checked}
use Rattle.frames_index.proofs.FrameIndex.check.Goals.{In_ok-check}
use Rattle.frames_index.proofs.FrameIndex.check.Goals as goal

met : (c : In_ok-check) → Accepted c.args.self.now c.args.further
unfolding index_number
met c = accepted c.args.limit _ _ (rw c.see.ensures at (sym c.in_ok-check.ensures))

pub of-requires : goal.of-requires
of-requires c = checked _ c.args.further (met (goal.at.of-requires c).In_ok-check)

pub returns-clause-accepted : goal.returns-clause-accepted
returns-clause-accepted c = met (goal.at.returns-clause-accepted c).In_ok-check
