use Rattle.std.proofs.Common.{ℕ, ◌<◌, ◌^◌, length, sym, subst}
use Rattle.refusal.specs.Answers.{Says}
use Rattle.c_word.specs.Word.{word_of, itself}
use Rattle.c_rt.proofs.RtWords.{fallback-fits}
use Rattle.c_rt.proofs.single.rubzolena_fallback_rt_peak.Goals as goal

pub word_of-requires : goal.word_of-requires
word_of-requires c = let s = c.args in
    subst (λ (a : Says ℕ). word_of itself a < 2 ^ 64) (sym c.fallback_rt_peak_from_trace-answer.ensures.answer)
    (fallback-fits s.trace.now s.ids.now s.times.now s.peak.now s.frac s.first (length s.out.now))
