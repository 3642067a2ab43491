use native.Mathlib.Omega.{arith}
use Rattle.c_expand.proofs.ExpandWords.{one-fits}
use Rattle.c_expand.proofs.one.rubzolena_expand_im_peak.Goals as goal

pub word_of-requires : goal.word_of-requires
word_of-requires c = let f = c.expand_im_peak_along_rt-answer in
    one-fits f.ensures.answer f.ensures.same.4 (omega (arith, c.well_formed))
