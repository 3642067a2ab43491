use Rattle.c_frames.proofs.SumWords.{many-fits}
use Rattle.c_frames.proofs.lists.rubzolena_rt_traces_for_im_peaks_by_bounds.Goals as goal

pub word_of-requires : goal.word_of-requires
word_of-requires c = many-fits c.rt_traces_for_im_peaks_by_bounds-answer.ensures
