use lib.ListN.{length}
use Rattle.frames_marginals.specs.Marginals.{block_of, frames_in}
use Rattle.c_frames.proofs.SumWords.{sums-fit, few-by-frame}
use Rattle.c_frames.proofs.blocks.rubzolena_build_rt_marginal.Goals as goal

pub word_of-requires : goal.word_of-requires
word_of-requires c = let b = block_of c.args.rt_lo c.args.rt_hi c.args.bin_lo c.args.bin_hi c.args.im_lo c.args.im_hi in
    sums-fit _ _ c.build_rt_marginal-answer.ensures (λ z. few-by-frame _ b (frames_in b) (length c.args.out.now) z)
