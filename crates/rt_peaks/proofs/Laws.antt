-- Laws of the records of a trace, and of a call that no number refuses.
use mathlib.Core.Path.{◌≡◌, refl, sym, ap, ◌∙◌, subst}
use mathlib.Core.List.{List, [], ◌∷◌, ◌++◌, append_assoc, append-nil, map}
use Prim.Native.Nat.{ℕ, ◌+◌, ◌*◌, ◌≤◌, ◌<◌}
use native.Mathlib.Omega.{arith}
use native.Mathlib.Numerals.{add-one}
use borrow.Author.Tests.{not-false, eqb-true, ltb-false}
use lib.Dec.{eqb}
use lib.ListN.{length, get_or, take, drop, length-append, length-map}
use lib.Seq.{take_at, take-suc, drop-drop, drop-append-add, length-take-le}
use lib.Ieee.{Float}
use Rattle.limits.specs.Limits.{any_number, max_height, max_frames, max_samples}
use Rattle.numeric.specs.Numeric.{all_in_range}
use Rattle.refusal.proofs.Bools.{both}
use Rattle.numeric.proofs.Patterns.{all-wider}
use Rattle.row_params.specs.Params.{most_peaks}
use Rattle.rt_record.specs.RtRecord.{local_size, local_words, with_local}
use Rattle.rt_record.specs.declared.RtLocalPeak.{RtLocalPeak}
use Rattle.rt_params.specs.declared.ThresholdMode.{ThresholdMode}
use Rattle.rt_apex.specs.InTime.{local_peak_of}
use Rattle.rt_search.specs.Retention.{listed_apexes, rt_peaks}
use Rattle.rt_listing.specs.Places.{index_at}
use Rattle.rt_search.specs.Steps.{RtFound, RtSearchable}
use Rattle.rt_peaks.specs.Trace.{peak_words, call_of, same_lengths, sound_readings, rt_number}
use Rattle.rt_peaks.specs.Steps.{peaks_at, Checked}
use Rattle.rt_peaks.proofs.TraceLaws.{none-for}
use Rattle.std.proofs.lemmas.List.{map-append}

-- ---- records

words_long : (p : RtLocalPeak) → length (local_words p) ≡ local_size
words_long p = refl

pub peak-words-length : (ps : List RtLocalPeak) → length (peak_words ps) ≡ length ps * local_size
unfolding peak_words
peak-words-length [] = refl
peak-words-length (p ∷ ps) = let r = peak-words-length ps in simp length-append (omega (arith, r))

peak-words-next : (ps : List RtLocalPeak) (p : RtLocalPeak) → peak_words (ps ++ (p ∷ [])) ≡ peak_words ps ++ local_words p
unfolding peak_words
peak-words-next [] p = append-nil (local_words p)
peak-words-next (x ∷ ps) p =
    ap (λ (l : List ℕ). local_words x ++ l) (peak-words-next ps p) ∙ sym (append_assoc (local_words x) (peak_words ps) (local_words p))

-- the records of the first k places of an order stand at the front of the list d
module _ (y z t : List Float) (found order d : List ℕ) where
  abbrev pub Put : ℕ → List ℕ → Type 0
  Put k out = out ≡ peak_words (peaks_at y z t found (take k order)) ++ drop (k * local_size) d

  pub none-put : Put 0 d
  unfolding peak_words
  none-put = refl

  pub next-put : (k : ℕ) (out next : List ℕ) (p : RtLocalPeak) → k < length order → Put k out
      → p ≡ local_peak_of y z t (index_at found (get_or order k 0)) → next ≡ with_local out k p → Put (k + 1) next
  unfolding with_local
  next-put k out next p h u e o =
      let W = peak_words (peaks_at y z t found (take k order)) in
      let R = drop (k * local_size) d in
      let f : ℕ → RtLocalPeak = (λ q. local_peak_of y z t (index_at found q)) in
      let n : length (map f (take k order)) ≡ k = length-map (take k order) f ∙ length-take-le k order (omega arith) in
      let l : length W ≡ k * local_size = peak-words-length (map f (take k order)) ∙ ap (λ (m : ℕ). m * local_size) n in
      let c : take (k * local_size) out ≡ W = ap (take (k * local_size)) u ∙ take_at W R (k * local_size) l in
      let m : k * local_size + local_size ≡ (k + 1) * local_size = omega arith in
      let b : drop (k * local_size + local_size) out ≡ drop ((k + 1) * local_size) d =
      ap (drop (k * local_size + local_size)) u ∙ subst (λ (i : ℕ). drop (i + local_size) (W ++ R) ≡ drop local_size R) l (drop-append-add W R local_size)
      ∙ drop-drop local_size (k * local_size) d ∙ ap (λ (i : ℕ). drop i d) m in
      let g : peak_words (peaks_at y z t found (take (k + 1) order)) ≡ W ++ local_words p =
      ap (λ (a : List ℕ). peak_words (map f a)) (ap (λ (i : ℕ). take i order) (add-one k) ∙ take-suc order k 0 h)
      ∙ ap peak_words (map-append f (take k order) (get_or order k 0 ∷ []))
      ∙ peak-words-next (map f (take k order)) (f (get_or order k 0))
      ∙ ap (λ (q : RtLocalPeak). W ++ local_words q) (sym e) in
      o ∙ rw (c, b, g) (sym (append_assoc W (local_words p) (drop ((k + 1) * local_size) d)))

-- ---- what was found

map-map : (f : ℕ → ℕ) (g : ℕ → RtLocalPeak) (l : List ℕ) → map (λ p. g (f p)) l ≡ map g (map f l)
map-map f g [] = refl
map-map f g (x ∷ l) = ap (λ (k : List RtLocalPeak). g (f x) ∷ k) (map-map f g l)

module _ (floor sep min_width : Float) (y z t : List Float) (found order : List ℕ) (n : ℕ) (h : RtFound floor sep min_width y z t found order n) where
  pub peaks-are : peaks_at y z t found (take n order) ≡ rt_peaks floor sep min_width y z t
  unfolding rt_peaks
  peaks-are = map-map (index_at found) (local_peak_of y z t) (take n order) ∙ ap (map (local_peak_of y z t)) h.apexes

  pub peaks-count : n ≡ length (rt_peaks floor sep min_width y z t)
  unfolding rt_peaks
  peaks-count = h.count ∙ sym (length-map (listed_apexes floor sep min_width y z t) (local_peak_of y z t))

-- ---- a call that no number refuses

pub checked : (y z t : List Float) (mode : ThresholdMode) (sep min_width : Float) (room scratch : ℕ) → rt_number (call_of y z t mode sep min_width) room scratch ≡ 0
    → Checked y z t (length y) room × (length y ≤ max_frames) × (length y ≤ scratch)
unfolding same_lengths sound_readings
checked y z t mode sep min_width room scratch e =
    let c = call_of y z t mode sep min_width in
    let l = both (eqb (length z) (length y)) (not-false _ (none-for c room scratch 1 e)) in (
      record {
        numbers = all-wider max_height any_number y (omega arith) (both (all_in_range max_height y) (not-false _ (none-for c room scratch 3 e))).0;
        raw = eqb-true (length z) (length y) l.0;
        times = eqb-true (length t) (length y) l.1;
        order-long = omega arith;
        words = ltb-false room (most_peaks (length y) * local_size) (none-for c room scratch 20 e);
      },
      ltb-false max_frames (length y) (none-for c room scratch 2 e),
      ltb-false scratch (length y) (none-for c room scratch 21 e),
    )

pub searchable : {y z t : List Float} {order room : ℕ} (samples : ℕ) → Checked y z t order room → length y ≤ samples → samples ≤ max_samples
    → RtSearchable y z t samples order
searchable samples c s a =
    record {
      numbers = c.numbers;
      raw = c.raw;
      times = c.times;
      short = omega arith;
      room = s;
      order-long = c.order-long;
    }
