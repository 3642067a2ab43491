-- The word of a frame's part of an index.
use mathlib.Core.Path.{◌≡◌, refl, ap, ◌∙◌, subst}
use Prim.Native.Nat.{ℕ, ◌≤◌, ◌<◌, ◌^◌}
use native.Mathlib.Omega.{arith}
use lib.ListN.{length}
use Rattle.limits.specs.Limits.{max_reading}
use Rattle.frames_bins.specs.FrameBins.{kept, view_bins, sorted_bins}
use Rattle.frames_bins.proofs.Laws.{distinct-le, kept-le, bins-length}
use Rattle.std.specs.Prelude.{Result}
use Rattle.refusal.specs.declared.Refusal.{Refusal}
use Rattle.refusal.specs.Numbered.{says}
use Rattle.refusal.proofs.NumberedLaws.{which}
use Rattle.frames_bins.specs.declared.inner.Counts.{Counts}
use Rattle.frames_view.specs.Answer.{Frame, Lent, room_of, view_checks, view_number, number_for, bins_of, counts_of}
use Rattle.frames_view.specs.Answer as view
use Rattle.frames_view.proofs.Laws.{accepted}
use Rattle.c_word.specs.Word.{word_of, itself}
use Rattle.c_frames.specs.View.{bins_in, Answered, ViewTold}
use Rattle.c_word.proofs.Words.{below, first_below, word_fits, word-told}

-- as many bins as points at most
few-bins : (f : Frame) → length (view_bins (bins_of f)) ≤ length f.tofs
unfolding view_bins
few-bins f = omega (arith, distinct-le (sorted_bins (bins_of f)) (kept (bins_of f)), kept-le (bins_of f) (length (bins_of f)), bins-length f.scale f.tofs)

number_small : (f : Frame) (was : Lent) → number_for f was < 64
unfolding view_number below
number_small f was = first_below 64 (view_checks max_reading f (room_of was)) refl

pub view-told : ViewTold
view-told f was = word-told bins_in (number_for f was) (counts_of f) (number_small f was)

module _ {f : Frame} {was is : Lent} {r : Result Counts Refusal} (a : view.Answered f was is r) where
  pub view-fits : word_of bins_in (says r) < 2 ^ 64
  view-fits = rw a.answered (word_fits bins_in (number_for f was) (counts_of f) (number_small f was) (λ z. omega (arith, few-bins f, (accepted f was z).few)))

  pub view-word : (w : ℕ) → w ≡ word_of bins_in (says r) → Answered f was is w
  view-word w e = record { word = e ∙ ap (word_of bins_in) a.answered; lists = subst (λ (x : Result Counts Refusal). view.Answered f was is x) (which Counts r _ _ a.answered) a }

  -- by way of the count of bins alone
  pub view_word_by : (w : ℕ) (bins : Result ℕ Refusal) → w ≡ word_of itself (says bins) → word_of itself (says bins) ≡ word_of bins_in (says r) → Answered f was is w
  view_word_by w bins e h = view-word w (e ∙ h)
