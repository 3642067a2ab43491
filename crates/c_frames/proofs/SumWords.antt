-- The words of calls on an index.
use mathlib.Core.Path.{◌≡◌, refl, ap, ◌∙◌, subst}
use mathlib.Core.Bool.{◌||◌}
use mathlib.Core.List.{List}
use Prim.Native.Nat.{ℕ, ◌≤◌, ◌<◌, ◌^◌}
use native.Mathlib.Omega.{arith}
use borrow.Author.Tests.{ltb-false, ltb-true, leb-true}
use lib.Dec.{ltb, leb}
use lib.ListN.{length}
use lib.Ieee.{Float}
use Rattle.refusal.specs.Answers.{Says}
use Rattle.refusal.proofs.Bools.{neither, all5}
use Rattle.limits.specs.Limits.{max_reading, max_frames, max_points, max_list, max_scan}
use Rattle.frames_index.specs.declared.numbers.Further.{Further}
use Rattle.frames_index.specs.FrameIndex.{Index, frames, points, seen_in}
use Rattle.frames_index.specs.IndexNumber.{index_checks, index_number, Front}
use Rattle.frames_index.proofs.IndexNumberLaws.{accepted}
use Rattle.frames_sums.specs.declared.inner.Window.{Window}
use Rattle.frames_sums.proofs.Laws.{sums-length as frame-sums}
use Rattle.frames_scan_sums.proofs.Laws.{sums-length as scan-sums}
use Rattle.frames_marginals.specs.declared.inner.Block.{Block}
use Rattle.frames_marginals.specs.Marginals.{window_of, frames_in, rt_marginal, im_marginal, marginal_asks}
use Rattle.frames_traces.specs.Traces.{trace_of}
use Rattle.std.specs.Prelude.{Result}
use Rattle.refusal.specs.declared.Refusal.{Refusal}
use Rattle.refusal.specs.Numbered.{says}
use Rattle.refusal.proofs.NumberedLaws.{which}
use Rattle.frames_many_traces.specs.ManyTraces.{Call, peaks_in, many_asks, number_for}
use Rattle.frames_many_traces.specs.ManyTraces as many
use Rattle.c_word.specs.Word.{word_of, itself}
use Rattle.c_frames.specs.Sums.{Summed, SumsTold}
use Rattle.c_frames.specs.ManyTraces.{Answered, ManyTold}
use Rattle.c_word.proofs.Words.{below, first_below, word_fits, word-told}

module _ (ix : Index) (asks : Further) where
  number_small : index_number max_reading ix asks < 64
  unfolding index_number below
  number_small = first_below 64 (index_checks (seen_in max_reading ix) asks) refl

  -- no more frames than there may be
  pub few-frames : index_number max_reading ix asks ≡ 0 → frames ix ≤ max_frames
  few-frames e =
      let n = neither (ltb max_frames (frames ix) || ltb max_points (points ix)) (accepted max_reading ix asks e).small in
      ltb-false max_frames (frames ix) (neither (ltb max_frames (frames ix)) n.0).0

  module _ {sums was is : List Float} {says : Says ℕ} (f : Front (index_number max_reading ix asks) sums was is says) where
    pub sums-fit : (index_number max_reading ix asks ≡ 0 → length sums ≤ 65536) → word_of itself says < 2 ^ 64
    sums-fit few = rw f.answered (word_fits itself (index_number max_reading ix asks) (length sums) number_small (λ z. omega (arith, few z)))

    pub sums_word : (w : ℕ) → w ≡ word_of itself says → Summed ix asks sums was is w
    sums_word w e = record { word = e ∙ ap (word_of itself) f.answered; out = f.out }

-- the sums of each entry are few
pub few-traced : (ix : Index) (asks : Further) (w : Window) → index_number max_reading ix asks ≡ 0 → length (trace_of ix w) ≤ 65536
few-traced ix asks w e = omega (arith, frame-sums ix w 0 (frames ix), few-frames ix asks e)

module _ (ix : Index) (b : Block) (n room : ℕ) (e : index_number max_reading ix (marginal_asks ix b n room) ≡ 0) where
  pub few-by-frame : length (rt_marginal ix b) ≤ 65536
  few-by-frame =
      let r = all5 (leb b.rt_lo b.rt_hi) (accepted max_reading ix (marginal_asks ix b n room) e).values in
      omega (arith, frame-sums ix (window_of b) b.rt_lo (frames_in b), ltb-true b.rt_hi (frames ix) r.1, few-frames ix (marginal_asks ix b n room) e)

  pub few-by-scan : length (im_marginal ix b) ≤ 65536
  few-by-scan =
      omega (arith, scan-sums ix (window_of b) b.rt_lo (frames_in b), leb-true b.im_hi max_scan (accepted max_reading ix (marginal_asks ix b n room) e).axes)

pub sums-told : SumsTold
sums-told ix asks sums = word-told itself (index_number max_reading ix asks) (length sums) (number_small ix asks)

-- ---- many peaks

abbrev asks : (c : Call) (out : List Float) (windows : List ℕ) → Further
asks c out windows = many_asks c (record { out = length out; windows = length windows })

pub many-told : ManyTold
many-told c out windows = word-told itself (number_for c out windows) (peaks_in c) (number_small c.index (asks c out windows))

module _ {c : Call} {out₀ : List Float} {windows₀ : List ℕ} {out : List Float} {windows : List ℕ} {r : Result ℕ Refusal} (a : many.Answered c out₀ windows₀ out windows r) where
  pub many-fits : word_of itself (says r) < 2 ^ 64
  many-fits =
      rw a.answered
      (word_fits itself (number_for c out₀ windows₀) (peaks_in c) (number_small c.index (asks c out₀ windows₀))
      (λ z. omega (arith, leb-true (peaks_in c) max_list (accepted max_reading c.index (asks c out₀ windows₀) z).sizes)))

  pub many-word : (w : ℕ) → w ≡ word_of itself (says r) → Answered c out₀ windows₀ out windows w
  many-word w e = record { word = e ∙ ap (word_of itself) a.answered; lists = subst (λ (x : Result ℕ Refusal). many.Answered c out₀ windows₀ out windows x) (which ℕ r _ _ a.answered) a }
