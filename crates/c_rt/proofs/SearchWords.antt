-- The word of a trace's retention peaks.
use mathlib.Core.Path.{◌≡◌, refl, ap, ◌∙◌, subst}
use mathlib.Core.List.{List, ◌++◌}
use Prim.Native.Nat.{ℕ, ◌*◌, ◌+◌, ◌-◌, ◌≤◌, ◌<◌, ◌^◌}
use native.Mathlib.Omega.{arith}
use lib.ListN.{length, drop, length-append, length-drop}
use Rattle.rt_record.specs.RtRecord.{local_size}
use Rattle.std.specs.Prelude.{Result}
use Rattle.refusal.specs.Numbered.{says}
use Rattle.refusal.specs.declared.Refusal.{Refusal}
use Rattle.refusal.proofs.NumberedLaws.{which}
use Rattle.rt_peaks.specs.Trace.{RtCall, peak_words, peaks_of, rt_checks, rt_number, number_for}
use Rattle.rt_peaks.specs.Trace as retention
use Rattle.c_word.specs.Word.{word_of, itself}
use Rattle.c_word.proofs.Words.{below, first_below, word_fits, word-told}
use Rattle.c_rt.specs.Search.{Answered, SearchTold}
use Rattle.rt_peaks.proofs.Laws.{peak-words-length}

search-small : (c : RtCall) (out scratch : List ℕ) → number_for c out scratch < 64
unfolding rt_number below
search-small c out scratch = first_below 64 (rt_checks c (length out) (length scratch)) refl

pub search-told : SearchTold
search-told c out scratch = word-told itself (number_for c out scratch) (length (peaks_of c)) (search-small c out scratch)

module _ {c : RtCall} {out₀ out scratch₀ scratch : List ℕ} {r : Result ℕ Refusal} (a : retention.Answered c out₀ out scratch₀ scratch r) where
  few : number_for c out₀ scratch₀ ≡ 0 → length out ≡ length out₀ → length (peaks_of c) * local_size ≤ length out₀
  few z kept =
      let ps = peaks_of c in
      let e : out ≡ peak_words ps ++ drop (length ps * local_size) out₀ = rw z at a.words in
      let l : length out ≡ length ps * local_size + (length out₀ - length ps * local_size) =
      ap length e ∙ (simp (length-append, length-drop, peak-words-length ps)) in
      omega (arith, l, kept)

  pub search-fits : length out ≡ length out₀ → length out₀ < 2 ^ 61 → word_of itself (says r) < 2 ^ 64
  search-fits kept short =
      rw a.answered
      (word_fits itself (number_for c out₀ scratch₀) (length (peaks_of c)) (search-small c out₀ scratch₀) (λ z. omega (arith, few z kept, short)))

  pub search-word : (w : ℕ) → w ≡ word_of itself (says r) → Answered c out₀ out scratch₀ scratch w
  search-word w e =
      record {
        word = e ∙ ap (word_of itself) a.answered;
        lists = subst (λ (x : Result ℕ Refusal). retention.Answered c out₀ out scratch₀ scratch x) (which ℕ r _ _ a.answered) a;
      }
