-- The words of expansion.
use mathlib.Core.Path.{◌≡◌, refl, ap, ◌∙◌, subst}
use mathlib.Core.List.{List, ◌++◌}
use Prim.Native.Nat.{ℕ, ◌+◌, ◌-◌, ◌*◌, ◌≤◌, ◌<◌, ◌^◌}
use native.Mathlib.Omega.{arith}
use lib.ListN.{length, drop, length-append, length-drop}
use lib.Ieee.{Float}
use Rattle.limits.specs.Limits.{max_reading}
use Rattle.frames_index.specs.FrameIndex.{seen_in}
use Rattle.frames_index.specs.IndexNumber.{index_checks, index_number}
use Rattle.rt_record.specs.RtRecord.{rt_size}
use Rattle.rt_record.specs.declared.RtPeak1D.{RtPeak1D}
use Rattle.expand_trace.specs.FallbackPeaks.{peak_words}
use Rattle.expand_trace.proofs.Peaks.{words-length}
use Rattle.rt_params.specs.declared.RtExpandParams.{RtExpandParams}
use Rattle.expand_peak.specs.Expanded.{Run}
use Rattle.expand_many.specs.Many.{Many, joined_to}
use Rattle.std.specs.Prelude.{Result}
use Rattle.refusal.specs.declared.Refusal.{Refusal}
use Rattle.refusal.specs.Numbered.{says}
use Rattle.refusal.proofs.NumberedLaws.{which}
use Rattle.expand.specs.ExpandCall.{Lent, peaks_in, many_asks, many_number, ManyAnswered, alone, one_number, peaks_of, OneAnswered}
use Rattle.c_word.specs.Word.{word_of, itself}
use Rattle.c_word.proofs.Words.{below, first_below, word_fits, word-told}
use Rattle.c_expand.specs.Expansion.{many_count, ManyTold, ManyWordTold, one_count, OneTold, OneWordTold}

number_small : (m : Many) (was : Lent) (counts : ℕ) → many_number m was counts < 64
unfolding index_number below
number_small m was counts = first_below 64 (index_checks (seen_in max_reading m.run.index) (many_asks m was counts)) refl

-- a list has no more peaks than fit into it
few : (ps : List RtPeak1D) (was is : List ℕ) → is ≡ peak_words ps ++ drop (length ps * rt_size) was → length is ≡ length was → length ps * rt_size ≤ length was
few ps was is e kept =
    let l : length is ≡ length ps * rt_size + (length was - length ps * rt_size) =
    ap length e ∙ (simp (length-append, length-drop, words-length ps)) in
    omega (arith, l, kept)

-- ---- many mobility peaks

pub many-told : ManyWordTold
many-told m was counts = word-told itself (many_number m was counts) (many_count m) (number_small m was counts)

module _ {m : Many} {was is : Lent} {counts₀ counts : List ℕ} {r : Result ℕ Refusal} (a : ManyAnswered m was is counts₀ counts r) where
  pub many-fits : length is.out ≡ length was.out → length was.out < 2 ^ 61 → word_of itself (says r) < 2 ^ 64
  many-fits kept short =
      rw a.answered
      (word_fits itself (many_number m was (length counts₀)) (many_count m) (number_small m was (length counts₀))
      (λ z. omega (arith, few (joined_to m (peaks_in m)) was.out is.out (a.accepted z).words kept, short)))

  pub many-word : (w : ℕ) → w ≡ word_of itself (says r) → ManyTold m was is counts₀ counts w
  many-word w e =
      record {
        word = e ∙ ap (word_of itself) a.answered;
        lists = subst (λ (x : Result ℕ Refusal). ManyAnswered m was is counts₀ counts x) (which ℕ r _ _ a.answered) a;
      }

-- ---- one mobility peak

one-small : (run : Run) (e : RtExpandParams) (peak : List ℕ) (ws : List Float) (first : ℕ) (was : Lent) → one_number run e peak ws first was < 64
one-small run e peak ws first was = number_small (alone run e peak ws first) was 1

pub one_told : OneWordTold
one_told run e peak ws first was = word-told itself (one_number run e peak ws first was) (one_count run e peak ws first) (one-small run e peak ws first was)

module _ {run : Run} {e : RtExpandParams} {peak : List ℕ} {ws : List Float} {first : ℕ} {was is : Lent} {r : Result ℕ Refusal} (a : OneAnswered run e peak ws first was is r) where
  pub one-fits : length is.out ≡ length was.out → length was.out < 2 ^ 61 → word_of itself (says r) < 2 ^ 64
  one-fits kept short =
      rw a.answered
      (word_fits itself (one_number run e peak ws first was) (one_count run e peak ws first) (one-small run e peak ws first was)
      (λ z. omega (arith, few (peaks_of run e peak ws first) was.out is.out (a.accepted z).words kept, short)))

  pub one_word : (w : ℕ) → w ≡ word_of itself (says r) → OneTold run e peak ws first was is w
  one_word w q =
      record {
        word = q ∙ ap (word_of itself) a.answered;
        lists = subst (λ (x : Result ℕ Refusal). OneAnswered run e peak ws first was is x) (which ℕ r _ _ a.answered) a;
      }
