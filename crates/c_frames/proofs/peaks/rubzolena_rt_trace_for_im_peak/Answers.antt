use Rattle.c_frames.proofs.SumWords.{sums-fit, few-traced}
use Rattle.c_frames.proofs.peaks.rubzolena_rt_trace_for_im_peak.Goals as goal

pub word_of-requires : goal.word_of-requires
word_of-requires c = sums-fit _ _ c.rt_trace_for_im_peak-answer.ensures (λ z. few-traced _ _ _ z)
