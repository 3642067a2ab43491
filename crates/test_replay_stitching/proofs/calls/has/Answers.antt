use Rattle.std.proofs.Common.{[], ◌∷◌, ◌+◌, ◌*◌, ◌/◌, ◌%◌, ◌∙◌, length, arith}
use Rattle.test_replay_stitching.proofs.Laws.{rest_of, compared}
use Rattle.test_replay_stitching.specs.Steps.{has_in}
use Rattle.test_replay_stitching.proofs.calls.has.Goals as goal

pub returns : goal.returns
unfolding has_in
returns c =
    let e1 = c.eq.ensures ∙ compared c.part.result.now (c.args.r % 64 ∷ c.args.r / 64 % 4294967296 ∷ []) in
    let e2 = c.eq-2.ensures ∙ compared c.part-2.result.now c.part-3.result.now in
    let e3 = c.eq-3.ensures ∙ compared c.part-4.result.now c.part-5.result.now in
    rw (e3, e2, e1, c.part.ensures, c.part-2.ensures, c.part-3.ensures, c.part-4.ensures, c.part-5.ensures, rest_of c.args.rest.now (2 + c.args.r / 64 * 27) (length c.args.rest.now) (omega arith))
