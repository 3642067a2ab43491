use lib.ListN.{length}
use Rattle.frames_marginals.specs.Marginals.{block_of, scans_in}
use Rattle.c_frames.proofs.SumWords.{sums-fit, few-by-scan}
use Rattle.c_frames.proofs.blocks.rubzolena_build_im_marginal.Goals as goal

pub word_of-requires : goal.word_of-requires
word_of-requires c = let b = block_of c.args.rt_lo c.args.rt_hi c.args.bin_lo c.args.bin_hi c.args.im_lo c.args.im_hi in
    sums-fit _ _ c.build_im_marginal-answer.ensures (λ z. few-by-scan _ b (scans_in b) (length c.args.out.now) z)
