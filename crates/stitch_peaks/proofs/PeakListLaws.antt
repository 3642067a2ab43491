-- What is read where peaks have been written.
use mathlib.Core.Path.{◌≡◌, refl, sym, ap, ◌∙◌}
use mathlib.Core.Bool.{Bool, true, false}
use mathlib.Core.List.Memᴰ
use mathlib.Core.List.{List, [], ◌∷◌, ◌++◌, append_assoc, append-nil, Memᴰ}
use mathlib.Core.List.Memᴰ.{head as here}
use mathlib.Core.List.Memᴰ.{tail as there}
use mathlib.Core.Logic.{⊎_elim}
use Prim.Native.Nat.{ℕ, zero, suc, ◌+◌, ◌*◌, ◌<◌, ◌≤◌}
use native.Mathlib.Omega.{arith}
use borrow.Author.Tests.{eqb-true, eqb-false}
use lib.Dec.{eqb}
use lib.ListN.{length, take, drop, length-append, get_or-append}
use lib.Seq.{take_at, drop_at, drop-append-add, split_at, length-take-le, get_or-append_seam, ext_get_or}
use Rattle.row_record.specs.Record.{size, words_of, peak_at, with_peak}
use Rattle.row_record.proofs.RoundTrip.{read_fits, got-back}
use Rattle.row_record.specs.declared.ImPeak1D.{ImPeak1D}
use Rattle.stitch_peaks.specs.PeakList.{no_peak, nth, peaks_of, list_words}
use Rattle.stitch_peaks.specs.PeakListLaws.{AllFit, PeaksFit, PeaksLength, NthPeaks, WordsLength, ReadBack}

pub peaks-length : PeaksLength
unfolding peaks_of
peaks-length words zero = refl
peaks-length words (suc n) = let e = peaks-length words n in simp length-append (omega arith)

pub peaks-fit : PeaksFit
unfolding peaks_of
peaks-fit words zero p m = absurd (Memᴰ.not-nil m)
peaks-fit words (suc n) p m =
    ⊎_elim (peaks-fit words n p) (λ i. let e : p ≡ peak_at words n = Memᴰ.eq_of_singleton i in rw e (read_fits words (n * size))) (Memᴰ.append_cases (peaks_of words n) m)

pub nth-peaks : NthPeaks
unfolding peaks_of
nth-peaks words zero k h = absurd (omega arith)
nth-peaks words (suc n) k h = go (eqb k n) refl (nth-peaks words n k)
  where
    go : (b : Bool) → eqb k n ≡ b → (k < n → nth (peaks_of words n) k ≡ peak_at words k) → nth (peaks_of words n ++ (peak_at words n ∷ [])) k ≡ peak_at words k
    go true e i =
        let f : k ≡ n = eqb-true k n e in
        let l : length (peaks_of words n) ≡ k = peaks-length words n ∙ sym f in
        ap (λ (j : ℕ). nth (peaks_of words n ++ (peak_at words n ∷ [])) j) (sym l) ∙ get_or-append_seam (peaks_of words n) (peak_at words n) [] no_peak ∙ ap (peak_at words) (sym f)
    go false e i =
        let d = eqb-false k n e in
        let l : k < n = omega arith in
        get_or-append (peaks_of words n) (peak_at words n ∷ []) no_peak k (rw (peaks-length words n) l) ∙ i l

-- two lists of peaks that are equal at each place
pub same-peaks : (ps qs : List ImPeak1D) → length ps ≡ length qs → ((k : ℕ) → k < length ps → nth ps k ≡ nth qs k) → ps ≡ qs
same-peaks ps qs e f = ext_get_or no_peak ps qs e f

pub words-length : WordsLength
unfolding list_words
words-length [] = refl
words-length (p ∷ ps) = let e = words-length ps in simp length-append (omega arith)

pub words_append : (ps qs : List ImPeak1D) → list_words (ps ++ qs) ≡ list_words ps ++ list_words qs
unfolding list_words
words_append [] qs = refl
words_append (p ∷ ps) qs = ap (λ (l : List ℕ). words_of p ++ l) (words_append ps qs) ∙ sym (append_assoc (words_of p) (list_words ps) (list_words qs))

pub words-one : (ps : List ImPeak1D) (p : ImPeak1D) → list_words (ps ++ (p ∷ [])) ≡ list_words ps ++ words_of p
unfolding list_words
words-one ps p = words_append ps (p ∷ []) ∙ ap (λ (l : List ℕ). list_words ps ++ l) (append-nil (words_of p))

-- a list with its middle part put where it stands
between : {A : Type 0} (l P W Q : List A) (a r : ℕ) → length P ≡ a → length W ≡ r → l ≡ P ++ (W ++ Q) → l ≡ take a l ++ (W ++ drop (a + r) l)
between l P W Q a r h k e =
    let front : take a l ≡ P = ap (take a) e ∙ take_at P (W ++ Q) a h in
    let back : drop (a + r) l ≡ Q = ap (drop (a + r)) e ∙ rw (← h, drop-append-add) (drop_at W Q r k) in
    rw (front, back) e

at_place : (ps : List ImPeak1D) (k : ℕ) → k < length ps → Memᴰ (nth ps k) ps
at_place [] k h = absurd (omega arith)
at_place (p ∷ ps) zero h = here refl
at_place (p ∷ ps) (suc k) h = there (at_place ps k (omega arith))

-- the peak at a place is read from its words
module _ (ps : List ImPeak1D) (rest : List ℕ) (fit : AllFit ps) (k : ℕ) (h : k < length ps) where
  front : List ℕ
  front = list_words (take k ps)

  back : List ℕ
  back = list_words (drop (suc k) ps) ++ rest

  front_length : length front ≡ k * size
  unfolding front
  front_length = words-length (take k ps) ∙ ap (λ (n : ℕ). n * size) (length-take-le k ps (omega arith))

  parts : list_words ps ++ rest ≡ front ++ (words_of (nth ps k) ++ back)
  unfolding front back list_words
  parts =
      ap (λ (l : List ImPeak1D). list_words l ++ rest) (split_at ps k no_peak h)
      ∙ ap (λ (l : List ℕ). l ++ rest) (words_append (take k ps) (nth ps k ∷ drop (suc k) ps))
      ∙ simp append_assoc

  put : list_words ps ++ rest ≡ with_peak (list_words ps ++ rest) k (nth ps k)
  unfolding with_peak
  put = between (list_words ps ++ rest) front (words_of (nth ps k)) back (k * size) size front_length refl parts

  pub read_at : peak_at (list_words ps ++ rest) k ≡ nth ps k
  read_at =
      let room : k * size + size ≤ length (list_words ps ++ rest) = simp length-append (omega (arith, words-length ps)) in
      ap (λ (l : List ℕ). peak_at l k) put ∙ got-back (list_words ps ++ rest) k (nth ps k) room (fit (nth ps k) (at_place ps k h))

pub read_back : ReadBack
read_back ps rest fit =
    same-peaks (peaks_of (list_words ps ++ rest) (length ps)) ps (peaks-length (list_words ps ++ rest) (length ps))
    (λ k h. let l : k < length ps = omega (arith, peaks-length (list_words ps ++ rest) (length ps)) in nth-peaks (list_words ps ++ rest) (length ps) k l ∙ read_at ps rest fit k l)
