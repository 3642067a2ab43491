-- What the answer of stitching is as one number.
use mathlib.Core.Path.{◌≡◌, refl, ap, ◌∙◌}
use mathlib.Core.Option.{some, none}
use mathlib.Core.Bool.{Bool, true, false, cond}
use mathlib.Core.List.{List}
use Prim.Native.Nat.{ℕ, ◌*◌, ◌^◌, ◌<◌}
use native.Mathlib.Omega.{arith}
use lib.Dec.{eqb}
use Rattle.std.specs.Prelude.{Result, Ok, Err}
use lib.ListN.{length}
use Rattle.refusal.specs.declared.Refusal.{Refusal}
use Rattle.refusal.specs.Answers.{Says, answer_by}
use Rattle.refusal.specs.Numbered.{says}
use Rattle.c_word.specs.Word.{as_word, word_of, itself}
use Rattle.refusal.proofs.NumberedLaws.{number_of-small}
use Rattle.stitch_peaks.proofs.PeakListLaws.{peaks-length}
use Rattle.stitch_matching.specs.declared.StitchParams.{StitchParams}
use Rattle.stitch_passes.specs.Stitching.{stitched}
use Rattle.stitch_passes.proofs.PassLaws.{stitched-count}
use Rattle.stitch.specs.StitchNumber.{count_in, peaks_in}
use Rattle.stitch.specs.Answer.{Lent, Answered, number_for}
use Rattle.c_grid_stitch.specs.Entry.{entry_answer}

-- the answer as a word
word-entry : (n count : ℕ) → word_of itself (answer_by n count) ≡ entry_answer n count
unfolding as_word
word-entry n count = go (eqb n 0) refl
  where
    go : (b : Bool) → eqb n 0 ≡ b → as_word itself n (cond b (some count) none) ≡ cond b (count * 64) n
    go true e = refl
    go false e = refl

-- a count of n whole answers
count-is : (k n count : ℕ) → says (Ok k) ≡ answer_by n count → k ≡ count
count-is k n count e = go (eqb n 0) (ap (λ (a : Says ℕ). a.values) e)
  where
    go : (b : Bool) → some k ≡ cond b (some count) none → k ≡ count
    go true f = cc
    go false f = cc

module _ {told : Bool} {list : List ℕ} {params : StitchParams} {was is : Lent} where
  pub word-is : {r : Result ℕ Refusal} → Answered told list params was is r
      → word_of itself (says r) ≡ entry_answer (number_for told list params was) (length (stitched params (peaks_in list)))
  word-is a = ap (word_of itself) a.answered ∙ word-entry (number_for told list params was) (length (stitched params (peaks_in list)))

  -- no more stitched peaks than records
  pub word-fits : (r : Result ℕ Refusal) → Answered told list params was is r → length list < 2 ^ 62 → word_of itself (says r) < 2 ^ 64
  unfolding as_word
  word-fits (Ok k) a l =
      let e = count-is k (number_for told list params was) (length (stitched params (peaks_in list))) a.answered in
      omega (arith, e, stitched-count params (peaks_in list), peaks-length list (count_in list))
  word-fits (Err e) a l = omega (arith, number_of-small e)
