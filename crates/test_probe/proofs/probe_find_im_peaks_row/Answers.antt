use Rattle.std.proofs.Common.{◌≡◌, refl, sym, subst, arith, ℕ, List, ◌*◌, ◌<◌, ◌^◌, length}
use Rattle.std.specs.Prelude.{Float}
use Rattle.row_params.specs.declared.ImDetectParams.{ImDetectParams}
use Rattle.row_params.specs.declared.RowPlace.{RowPlace}
use Rattle.row_params.specs.declared.FrameBounds.{FrameBounds}
use Rattle.refusal.specs.Answers.{answer_by}
use Rattle.c_word.specs.Word.{word_of, itself}
use Rattle.c_word.proofs.Words.{below, first_below, word_fits}
use Rattle.row_search.specs.Qualifying.{kept}
use Rattle.row_search.proofs.QualifyingLaws.{kept-count}
use Rattle.row.specs.RowNumber.{row_checks, row_number}
use Rattle.row.proofs.RowNumberLaws.{number_is}
use Rattle.row.proofs.Laws.{ready}
use Rattle.test_probe.proofs.probe_find_im_peaks_row.Goals as goal

module _ (y z : List Float) (r : RowPlace) (f : FrameBounds) (mobility : List Float) (p : ImDetectParams) (axis : List ℕ) (first room : ℕ) where
  small : row_number y z r f mobility p axis first room < 64
  unfolding below
  small = subst (λ (n : ℕ). n < 64) (sym (number_is y z r f mobility p axis first room)) (first_below 64 (row_checks y z r f mobility p axis first room) refl)

  few : row_number y z r f mobility p axis first room ≡ 0 → length (kept p y z) * 64 < 2 ^ 64
  few e = let s = (ready y z r f mobility p axis first room e).short in
      let k = kept-count p y z in
      omega arith

  fits : word_of itself (answer_by (row_number y z r f mobility p axis first room) (length (kept p y z))) < 2 ^ 64
  fits = word_fits itself (row_number y z r f mobility p axis first room) (length (kept p y z)) small few

pub word_of-requires : goal.word_of-requires
word_of-requires c = rw c.find_im_peaks_row.ensures.answer (fits _ _ _ _ _ _ _ _ _)
