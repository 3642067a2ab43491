-- What both forms of expansion's second call hand back.
use mathlib.Core.Path.{◌≡◌, refl, sym, ap, ◌∙◌, subst}
use mathlib.Core.Bool.{Bool, true, false}
use mathlib.Core.List.{List, [], ◌++◌, append_assoc, append-nil}
use Prim.Native.Nat.{ℕ, zero, suc, ◌≤◌, ◌<◌, ◌+◌, ◌*◌, ◌/◌}
use native.Mathlib.Omega.{arith}
use borrow.Author.Tests.{ltb-true, ltb-false}
use lib.Dec.{ltb}
use lib.ListN.{length, get_or, drop, length-map, length-append, get_or-append}
use lib.Seq.{take_all}
use lib.Ieee.{Float}
use Rattle.refusal.proofs.Bools.{all4}
use Rattle.limits.specs.Limits.{max_reading, max_seconds}
use Rattle.numeric.specs.Numeric.{all_in_range}
use Rattle.row_smoothing.specs.Smoothing.{sound_weights}
use Rattle.row_record.specs.Record.{size, peak_at}
use Rattle.rt_record.specs.RtRecord.{rt_size}
use Rattle.rt_record.specs.declared.RtPeak1D.{RtPeak1D}
use Rattle.sort_digits.specs.Sorted.{up_to}
use Rattle.sort_digits.proofs.UpTo.{upto-length, upto-get}
use Rattle.frames_index.proofs.IndexNumberLaws.{accepted}
use Rattle.rt_params.specs.Expand.{sound_expand}
use Rattle.rt_params.specs.declared.RtExpandParams.{RtExpandParams}
use Rattle.rt_laws.proofs.TimesInOrder.{counted-by}
use Rattle.expand_window.proofs.WindowLaws.{sound-numbers}
use Rattle.expand_trace.specs.FallbackPeaks.{peak_words}
use Rattle.expand_trace.proofs.Peaks.{words-join, words-length}
use Rattle.expand_peak.specs.Expanded.{Run}
use Rattle.expand_many.specs.Many.{Many, sum_to, weights_at, expanded_at, joined_to, count_of, counts_to}
use Rattle.std.specs.Prelude.{Ok}
use Rattle.refusal.proofs.NumberedLaws.{which}
use Rattle.expand_numbers.specs.ExpandNumber.{sound_values}
use Rattle.expand.specs.ExpandCall.{Lent, peaks_in, many_asks, many_number, alone, one_number, peaks_of}
use Rattle.expand.proofs.CallLaws.{records-sound, weights-sound, followed, short}
use Rattle.expand.proofs.AloneLaws.{one-peak}
use Rattle.expand_laws.specs.ExpandAccount.{PeakAccounted, OneAccounted, ManyAccounted}
use Rattle.expand_laws.proofs.ExpandAccount.{peak-accounted}
use Rattle.std.proofs.lemmas.List.{get_or-map}

-- ---- one

-- the times of an accepted call
times-ranged : (m : Many) (was : Lent) (counts : ℕ) → many_number m was counts ≡ 0 → all_in_range max_seconds m.run.times ≡ true
unfolding many_asks sound_values
times-ranged m was counts none = (all4 (sound_expand m.params) (accepted max_reading m.run.index (many_asks m was counts) none).values).2

-- the weights of the one peak of a list are all that are handed in
own-weights : (run : Run) (e : RtExpandParams) (peak : List ℕ) (ws : List Float) (first : ℕ) → weights_at (alone run e peak ws first) 0 ≡ ws
unfolding weights_at sum_to
own-weights run e peak ws first = take_all (length ws) ws (omega arith)

pub one-accounted : OneAccounted
one-accounted run e peak ws first was is count a =
    let p = peak_at peak 0 in
    let peaks = peaks_of run e peak ws first in
    let number = one_number run e peak ws first was in
    let told = counted-by number count (length peaks) (which ℕ (Ok count) number (length peaks) a.answered) in
    let m = alone run e peak ws first in
    let one : length peak / size ≡ 1 = one-peak run e peak first was ws told.0 in
    peak-accounted run e ws p first (followed m was 1 told.0) (subst (λ (l : List Float). sound_weights l ≡ true) (own-weights run e peak ws first) (weights-sound m was 1 told.0 0 (omega (arith, one))))
    (sound-numbers p (records-sound m was 1 told.0 0 (omega (arith, one)))) (short m was 1 told.0) (times-ranged m was 1 told.0)
    [] (drop (length peaks * rt_size) was.out) is.out 0 count refl told.1 (a.accepted told.0).words

-- ---- many

module _ (m : Many) where
  column-length : (n : ℕ) → length (counts_to m n) ≡ n
  column-length n = length-map (up_to n) (count_of m) ∙ upto-length n

  -- the column has the count of each
  column-at : (n q : ℕ) (rest : List ℕ) → q < n → get_or (counts_to m n ++ rest) q 0 ≡ count_of m q
  column-at n q rest h =
      get_or-append (counts_to m n) rest 0 q (omega (arith, column-length n, h))
      ∙ get_or-map (count_of m) (up_to n) q 0 0 (omega (arith, upto-length n, h)) ∙ ap (count_of m) (upto-get n q h)

  -- its sums are the lengths of the joined lists
  column-sum : (n k : ℕ) (rest : List ℕ) → k ≤ n → sum_to (counts_to m n ++ rest) k ≡ length (joined_to m k)
  unfolding sum_to joined_to
  column-sum n zero rest h = refl
  column-sum n (suc k) rest h =
      let s = column-sum n k rest (omega arith) in
      let c = column-at n k rest (omega arith) in
      let l = length-append (joined_to m k) (expanded_at m k (m.first + length (joined_to m k))) in
      omega (arith, s, c, l)

  -- the joined peaks of n, cut at those of the peak at place q
  record Cut (n q : ℕ) : Type 0 where
    after : List RtPeak1D
    is : joined_to m n ≡ joined_to m q ++ (expanded_at m q (m.first + length (joined_to m q)) ++ after)

  cut_at : (n q : ℕ) → q < n → Cut n q
  unfolding joined_to
  cut_at zero q h = absurd (omega arith)
  cut_at (suc n) q h = go (ltb q n) refl (cut_at n q)
    where
      go : (b : Bool) → ltb q n ≡ b → (q < n → Cut n q) → Cut (suc n) q
      go true t before =
          let c = before (ltb-true q n t) in
          let more = expanded_at m n (m.first + length (joined_to m n)) in
          let own = expanded_at m q (m.first + length (joined_to m q)) in
          record {
            after = c.after ++ more;
            is =
                ap (λ (l : List RtPeak1D). l ++ more) c.is
                ∙ append_assoc (joined_to m q) (own ++ c.after) more
                ∙ ap (λ (l : List RtPeak1D). joined_to m q ++ l) (append_assoc own c.after more);
          }
      go false t before =
          let s : q ≡ n = omega (arith, ltb-false q n t) in
          subst (Cut (suc n)) (sym s) (record { after = []; is = ap (λ (l : List RtPeak1D). joined_to m n ++ l) (sym (append-nil (expanded_at m n (m.first + length (joined_to m n))))) })

pub many-accounted : ManyAccounted
many-accounted m was is counts₀ counts total a =
    let n = peaks_in m in
    let number = many_number m was (length counts₀) in
    let joined = joined_to m n in
    let told = counted-by number total (length joined) (which ℕ (Ok total) number (length joined) a.answered) in
    let z = told.0 in
    let w = a.accepted z in
    let rest = drop n counts₀ in
    record {
      each = λ q h.
          let c = cut_at m n q h in
          let place : sum_to counts q ≡ length (joined_to m q) = ap (λ (l : List ℕ). sum_to l q) w.column ∙ column-sum m n q rest (omega arith) in
          let own = expanded_at m q (m.first + length (joined_to m q)) in
          let behind = drop (length joined * rt_size) was.out in
          subst (λ (n : ℕ). PeakAccounted m.run m.params (weights_at m q) (peak_at m.list q) (m.first + n) (sum_to counts q) (get_or counts q 0) is.out) (sym place)
          (peak-accounted m.run m.params (weights_at m q) (peak_at m.list q) (m.first + length (joined_to m q))
          (followed m was (length counts₀) z) (weights-sound m was (length counts₀) z q h)
          (sound-numbers (peak_at m.list q) (records-sound m was (length counts₀) z q h)) (short m was (length counts₀) z) (times-ranged m was (length counts₀) z)
          (peak_words (joined_to m q)) (peak_words c.after ++ behind) is.out (sum_to counts q) (get_or counts q 0)
          (words-length (joined_to m q) ∙ ap (λ (k : ℕ). k * 22) (sym place))
          (ap (λ (l : List ℕ). get_or l q 0) w.column ∙ column-at m n q rest h)
          (w.words
          ∙ ap (λ (ps : List RtPeak1D). peak_words ps ++ behind) c.is
          ∙ ap (λ (l : List ℕ). l ++ behind) (words-join (joined_to m q) (own ++ c.after) ∙ ap (λ (l : List ℕ). peak_words (joined_to m q) ++ l) (words-join own c.after))
          ∙ append_assoc (peak_words (joined_to m q)) (peak_words own ++ peak_words c.after) behind
          ∙ ap (λ (l : List ℕ). peak_words (joined_to m q) ++ l) (append_assoc (peak_words own) (peak_words c.after) behind)));
      all = ap (λ (l : List ℕ). sum_to l n) w.column ∙ column-sum m n n rest (omega arith) ∙ sym told.1;
    }
