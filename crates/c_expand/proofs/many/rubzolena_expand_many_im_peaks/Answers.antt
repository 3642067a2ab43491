use native.Mathlib.Omega.{arith}
use Rattle.c_expand.proofs.ExpandWords.{many-fits}
use Rattle.c_expand.proofs.many.rubzolena_expand_many_im_peaks.Goals as goal

pub word_of-requires : goal.word_of-requires
word_of-requires c = let f = c.expand_many_im_peaks_along_rt-answer in
    many-fits f.ensures.answer f.ensures.same.4 (omega (arith, c.well_formed))
