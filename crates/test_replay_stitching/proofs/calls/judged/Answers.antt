use Prim.Native.Nat.{◌+◌}
use native.Mathlib.Omega.{arith}
use Rattle.test_replay_stitching.proofs.Laws.{rest_of, judged-is}
use Rattle.stitch.specs.Answer.{lent}
use Rattle.test_replay_stitching.specs.Replay.{word}
use lib.ListN.{length}
use Rattle.test_replay_stitching.proofs.calls.judged.Goals as goal

pub returns : goal.returns
returns c = let x = c.args in
    let line = x.line.now in
    rw (c.has.ensures, c.owners_by.ensures, c.part-rest.ensures, c.part-list.ensures, c.word-n.ensures, rest_of line (15 + word line 0) (length line) (omega arith))
    (judged-is line (lent x.out.now x.owners.now x.order.now x.groups.now x.keys.now x.merged.now) (lent c.answer-r.new.out c.answer-r.new.owners c.answer-r.new.order c.answer-r.new.groups c.answer-r.new.keys c.answer-r.new.merged) c.answer-r.result (rw (c.part-list.ensures, c.word-n.ensures) at c.answer-r.ensures))
