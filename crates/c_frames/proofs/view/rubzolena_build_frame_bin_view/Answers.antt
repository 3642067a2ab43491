use Rattle.c_frames.proofs.ViewWords.{view-fits}
use Rattle.c_frames.proofs.view.rubzolena_build_frame_bin_view.Goals as goal

pub word_of-requires : goal.word_of-requires
word_of-requires c = rw c.bins_of.ensures (view-fits c.build_frame_bin_view-answer.ensures.answer)
