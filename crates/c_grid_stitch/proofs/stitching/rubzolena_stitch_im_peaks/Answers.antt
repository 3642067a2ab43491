use Rattle.std.proofs.Common.{arith, rules, ◌∙◌}
use Rattle.c_grid_stitch.proofs.StitchingLaws.{word-fits, word-is}
use Rattle.c_grid_stitch.proofs.stitching.rubzolena_stitch_im_peaks.Goals as goal

pub word_of-requires : goal.word_of-requires
word_of-requires c = word-fits c.stitch_told.result (c.stitch_told.ensures.answer _ _ c.then_some-params.ensures) (omega (arith, c.well_formed.0))

pub returns : goal.returns
returns c = let a = c.stitch_told.ensures.answer _ _ c.then_some-params.ensures in
    record { answer = c.word_of.ensures ∙ word-is a; accepted = search rules; refused = search rules }
