use native.Mathlib.Omega.{arith}
use borrow.Author.Rules.{rules}
use Rattle.c_rt.proofs.SearchWords.{search-fits}
use Rattle.c_rt.proofs.search.rubzolena_find_rt_peaks.Goals as goal

pub word_of-requires : goal.word_of-requires
word_of-requires c = let f = c.find_rt_peaks-answer in search-fits f.ensures (search rules) (omega (arith, c.well_formed))
