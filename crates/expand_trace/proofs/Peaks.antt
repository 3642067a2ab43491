-- Retention peaks one after another, and their words in a list that they fill from its front.
use mathlib.Core.Path.{◌≡◌, refl, sym, ap, ◌∙◌}
use mathlib.Core.List.{List, [], ◌∷◌, ◌++◌, append_assoc, append-nil}
use Prim.Native.Nat.{ℕ, suc, ◌+◌, ◌*◌}
use native.Mathlib.Nat.{suc-mul}
use native.Mathlib.Omega.{arith}
use lib.ListN.{length, take, drop, length-append}
use lib.Seq.{take_at, drop-append-add, drop-drop}
use Rattle.row_record.specs.declared.ImPeak1D.{ImPeak1D}
use Rattle.rt_record.specs.RtRecord.{rt_size, rt_words, with_rt_peak}
use Rattle.rt_record.specs.declared.RtApex.{RtApex}
use Rattle.rt_record.specs.declared.RtPeak1D.{RtPeak1D}
use Rattle.expand_placed.specs.Placed.{placed}
use Rattle.expand_trace.specs.FallbackPeaks.{placed_all, peak_words, Put}

pub words-join : (ps qs : List RtPeak1D) → peak_words (ps ++ qs) ≡ peak_words ps ++ peak_words qs
unfolding peak_words
words-join [] qs = refl
words-join (p ∷ ps) qs = ap (λ (l : List ℕ). rt_words p ++ l) (words-join ps qs) ∙ sym (append_assoc (rt_words p) (peak_words ps) (peak_words qs))

pub words-length : (ps : List RtPeak1D) → length (peak_words ps) ≡ length ps * rt_size
unfolding peak_words
words-length [] = refl
words-length (p ∷ ps) = let e = words-length ps in length-append (rt_words p) (peak_words ps) ∙ ap (λ (n : ℕ). rt_size + n) e ∙ omega (arith, suc-mul (length ps) rt_size)

module _ (lo n : ℕ) (ids : List ℕ) (p : ImPeak1D) where
  pub placed-length : (l : List RtApex) (first : ℕ) → length (placed_all lo n ids p l first) ≡ length l
  unfolding placed_all
  placed-length [] first = refl
  placed-length (a ∷ l) first = ap suc (placed-length l (first + 1))

  -- one apex more
  pub placed-more : (l : List RtApex) (a : RtApex) (first : ℕ) → placed_all lo n ids p (l ++ (a ∷ [])) first ≡ placed_all lo n ids p l first ++ (placed lo n ids p a (first + length l) ∷ [])
  unfolding placed_all
  placed-more [] a first = let e : first + 0 ≡ first = omega arith in rw e
  placed-more (b ∷ l) a first =
      let e : first + 1 + length l ≡ first + suc (length l) = omega arith in
      ap (λ (ps : List RtPeak1D). placed lo n ids p b first ∷ ps) (rw (← e) (placed-more l a (first + 1)))

-- peaks at the front of a list, and one more behind them
pub put_next : (ps : List RtPeak1D) (q : RtPeak1D) (was is : List ℕ) (k : ℕ) → Put ps was k is → Put (ps ++ (q ∷ [])) was (k + 1) (with_rt_peak is k q)
unfolding with_rt_peak peak_words
put_next ps q was is k f = record {
  count = sym (length-append ps (q ∷ []) ∙ ap (λ (m : ℕ). m + 1) (sym f.count));
  words =
      ap (λ (l : List ℕ). take (k * rt_size) l ++ (rt_words q ++ drop (k * rt_size + rt_size) l)) f.words
      ∙ ap (λ (l : List ℕ). l ++ (rt_words q ++ drop (k * rt_size + rt_size) (peak_words ps ++ drop (k * rt_size) was))) (take_at (peak_words ps) (drop (k * rt_size) was) (k * rt_size) long)
      ∙ ap (λ (l : List ℕ). peak_words ps ++ (rt_words q ++ l)) rest
      ∙ sym (append_assoc (peak_words ps) (rt_words q) (drop ((k + 1) * rt_size) was))
      ∙ ap (λ (l : List ℕ). l ++ drop ((k + 1) * rt_size) was) (sym (words-join ps (q ∷ []) ∙ ap (λ (l : List ℕ). peak_words ps ++ l) (append-nil (rt_words q))));
}
  where
    long : length (peak_words ps) ≡ k * rt_size
    long = words-length ps ∙ ap (λ (m : ℕ). m * rt_size) (sym f.count)

    next : k * rt_size + rt_size ≡ (k + 1) * rt_size
    next = omega arith

    rest : drop (k * rt_size + rt_size) (peak_words ps ++ drop (k * rt_size) was) ≡ drop ((k + 1) * rt_size) was
    rest =
        ap (λ (m : ℕ). drop (m + rt_size) (peak_words ps ++ drop (k * rt_size) was)) (sym long)
        ∙ drop-append-add (peak_words ps) (drop (k * rt_size) was) rt_size
        ∙ drop-drop rt_size (k * rt_size) was
        ∙ ap (λ (m : ℕ). drop m was) next

-- none yet
pub put-start : (was : List ℕ) → Put [] was 0 was
unfolding peak_words
put-start was = record { count = refl; words = refl }
