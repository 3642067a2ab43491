-- The listed apexes of a retention trace stand by time, and so do the records of a call.
use mathlib.Core.Path.{◌≡◌, refl, sym, ap, ◌∙◌, subst}
use mathlib.Core.Bool.{Bool, true, false, cond}
use mathlib.Core.List.{List, [], ◌∷◌, ◌++◌, map}
use Prim.Native.Nat.{ℕ, zero, suc, ◌*◌, ◌≤◌, ◌<◌}
use mathlib.Core.Logic.{◌≢◌}
use native.Mathlib.Omega.{arith}
use borrow.Author.Tests.{not-false, eqb-true, ltb-false, le-ltb, lt-ltb, le-leb}
use lib.Dec.{eqb, lit<, lit≤}
use lib.ListN.{length, get_or, drop, length-map}
use lib.Ieee.{Float, binary32, lt, le, of_bits}
use lib.Ieee.Bits.{of_bits-to_bits}
use Rattle.std.specs.Prelude.{Result, Ok, Err}
use Rattle.limits.specs.Limits.{max_frames, max_height, max_seconds}
use Rattle.refusal.specs.declared.Refusal.{Refusal}
use Rattle.refusal.specs.NumberedLaws.{refusal_of}
use Rattle.refusal.proofs.NumberedLaws.{which}
use Rattle.refusal.proofs.Bools.{clash, both, all4}
use Rattle.numeric.specs.Arith.{at}
use Rattle.numeric.specs.Numeric.{all_in_range}
use Rattle.numeric.specs.Plain.{word, AllFit, Plain}
use Rattle.numeric.proofs.Bounds.{Num}
use Rattle.numeric.proofs.Patterns.{le-bits, lt-bits, wider}
use Rattle.row_search.specs.Account.{All}
use Rattle.sort_digits.proofs.SortedLaws.{at-index}
use Rattle.rt_choice.specs.Chosen.{Each}
use Rattle.rt_choice.specs.Ranking.{before}
use Rattle.rt_choice.proofs.ChosenLaws.{each-imp}
use Rattle.rt_params.specs.Modes.{sound_mode}
use Rattle.rt_record.specs.RtRecord.{local_size, apex_from, local_from, local_at}
use Rattle.rt_apex.specs.InTime.{apex_time, local_peak_of}
use Rattle.rt_search.specs.Retention.{lower, by_index, higher_first, earlier_first, listed_apexes, rt_peaks}
use Rattle.rt_peaks.specs.Trace.{RtCall, floor_of, peak_words, peaks_of, same_lengths, sound_readings, sound_values, rt_number}
use Rattle.rt_peaks.proofs.TraceLaws.{none-for}
use Rattle.rt_laws.specs.RtAccount.{RtAccounted}
use Rattle.rt_laws.specs.TimesInOrder.{Readings, Times, ClearTime, ListedByTime, ByTime, InTime, RecordsByTime}
use Rattle.rt_laws.proofs.RtAccount.{qualifying-are, rt-account, words-at, words-bear}
use Rattle.rt_laws.proofs.ClearTimes.{time-clear, reading-num}

-- ---- clear times order like their patterns
pub plain : (x : Float) → ClearTime x → Plain x
plain x c = record { held = c.held; ranged = wider max_seconds x (lit≤ tt) c.ranged }

pub by-words : (x y : Float) → ClearTime x → ClearTime y → word x ≤ word y → le x y ≡ true
by-words x y c d h = le-bits x y (plain x c) (plain y d) ∙ le-leb (word x) (word y) h

-- ---- two relations between the ones of a list
each-both : (R S : ℕ → ℕ → Type 0) (l : List ℕ) → Each R l → Each S l → Each (λ i j. R i j × S i j) l
each-both R S [] a b = tt
each-both R S (i ∷ l) a b = (λ j m. (a.0 j m, b.0 j m), each-both R S l a.1 b.1)

-- by place
pub each-at : (R : ℕ → ℕ → Type 0) (l : List ℕ) → Each R l → (j k : ℕ) → j < k → k < length l → R (get_or l j 0) (get_or l k 0)
each-at R [] e j k h n = absurd (omega arith)
each-at R (i ∷ l) e zero zero h n = absurd (omega arith)
each-at R (i ∷ l) e zero (suc k) h n = e.0 (get_or l k 0) (at-index l k (omega arith))
each-at R (i ∷ l) e (suc j) zero h n = absurd (omega arith)
each-at R (i ∷ l) e (suc j) (suc k) h n = each-at R l e.1 j k (omega arith) (omega arith)

-- ---- of two apexes that the final order does not turn, reached at the same time, the first comes first in the choice
choice-first : (y : List Float) (i j : ℕ) → i ≢ j → higher_first y j i ≡ false → higher_first y i j ≡ true
unfolding higher_first before
choice-first y i j d h = go (lower y i j) (lower y j i) h
  where
    go : (a b : Bool) → cond a true (cond b false (by_index j i)) ≡ false → cond b true (cond a false (by_index i j)) ≡ true
    go true b e = clash true refl e
    go false true e = refl
    go false false e = let l = ltb-false j i e in lt-ltb i j (omega arith)

same-time : (y t : List Float) (i j : ℕ) → word (apex_time y t i) ≡ word (apex_time y t j) → earlier_first y t j i ≡ false → higher_first y j i ≡ false
unfolding earlier_first before
same-time y t i j e h = rw (le-ltb (word (apex_time y t j)) (word (apex_time y t i)) (omega arith), le-ltb (word (apex_time y t i)) (word (apex_time y t j)) (omega arith)) at h

-- ---- the listed apexes
module _ (floor sep min_width : Float) (y z t : List Float) (nums : (k : ℕ) → k < length y → Num (at y k)) (axis : Times t) where
  abbrev listed : List ℕ
  listed = listed_apexes floor sep min_width y z t

  account : RtAccounted floor sep min_width y z t
  account = rt-account floor sep min_width y z t

  clear : All (λ i. ClearTime (apex_time y t i)) listed
  clear i m =
      let q = (qualifying-are floor min_width y z t i).0 (account.listed-qualify i m) in
      let low = q.candidate.low in
      let high = q.candidate.high in time-clear y t i nums axis (omega arith)

  pub in-time : ListedByTime floor sep min_width y z t
  in-time =
      record {
        clear = clear;
        by-time = each-imp (λ i j. word (apex_time y t i) ≤ word (apex_time y t j)) (λ i j. le (apex_time y t i) (apex_time y t j) ≡ true) listed
            (λ i j m n h. by-words (apex_time y t i) (apex_time y t j) (clear i m) (clear j n) h) account.listed-by-time;
        of-equal = each-imp
            (λ i j. (word (apex_time y t i) ≤ word (apex_time y t j)) × ((i ≢ j) × (earlier_first y t j i ≡ false)))
            (λ i j. lt (apex_time y t i) (apex_time y t j) ≡ false → higher_first y i j ≡ true) listed
            (λ i j m n h e.
            let l = h.0 in
            let r = ltb-false (word (apex_time y t i)) (word (apex_time y t j)) (sym (lt-bits (apex_time y t i) (apex_time y t j) (plain (apex_time y t i) (clear i m)) (plain (apex_time y t j) (clear j n))) ∙ e) in
            choice-first y i j h.1.0 (same-time y t i j (omega arith) h.1.1))
            (each-both (λ i j. word (apex_time y t i) ≤ word (apex_time y t j)) (λ i j. (i ≢ j) × (earlier_first y t j i ≡ false)) listed account.listed-by-time
            (each-both (λ i j. i ≢ j) (λ i j. earlier_first y t j i ≡ false) listed account.listed-distinct account.listed-in-order));
      }

pub by-time : ByTime
by-time floor sep min_width y z t read axis = in-time floor sep min_width y z t (reading-num y read) axis

-- by their places in the list, for times that are those of the listed apexes
pub in-places : (floor sep min_width : Float) (y z t : List Float) → ListedByTime floor sep min_width y z t → (time : ℕ → Float) (count : ℕ)
    → count ≡ length (listed_apexes floor sep min_width y z t)
    → ((k : ℕ) → k < count → time k ≡ apex_time y t (get_or (listed_apexes floor sep min_width y z t) k 0)) → InTime time count
in-places floor sep min_width y z t h time count c is =
    let l = listed_apexes floor sep min_width y z t in
    record {
      clear = λ k n. subst ClearTime (sym (is k n)) (h.clear (get_or l k 0) (at-index l k (omega arith)));
      by-time = λ j k m n.
          let j-in : j < count = omega arith in
          rw (is j j-in, is k n) (each-at (λ i j. le (apex_time y t i) (apex_time y t j) ≡ true) l h.by-time j k m (omega arith));
    }

-- ---- the time that a record bears, whatever stands behind the records
time-at : (y z t : List Float) (l rest : List ℕ) (k : ℕ) → k < length l
    → (local_at (peak_words (map (local_peak_of y z t) l) ++ rest) k).apex.rt_sec ≡ of_bits binary32 (word (apex_time y t (get_or l k 0)))
unfolding local_from apex_from local_peak_of
time-at y z t l rest k h = ap (of_bits binary32) (words-at y z t l rest k 1 h (omega arith))

-- ---- an accepted call
abbrev counts : Result ℕ Refusal → Bool
counts (Ok n) = true
counts (Err r) = false

abbrev counted : Result ℕ Refusal → ℕ
counted (Ok n) = n
counted (Err r) = 0

-- a count is answered where no number applies, and it is that of the peaks
pub counted-by : (number count n : ℕ) → Ok count ≡ cond (eqb number 0) (Ok n) (Err (refusal_of number)) → (number ≡ 0) × (count ≡ n)
counted-by number count n h = go (eqb number 0) refl h
  where
    go : (b : Bool) → eqb number 0 ≡ b → Ok count ≡ cond b (Ok n) (Err (refusal_of number)) → (number ≡ 0) × (count ≡ n)
    go true t e = (eqb-true number 0 t, ap counted e)
    go false t e = clash true refl (ap counts e)

-- what it is asked: readings and times in range, and as many times as readings
module _ (c : RtCall) (room scratch : ℕ) (e : rt_number c room scratch ≡ 0) (held : AllFit c.smoothed) (timed : AllFit c.times) where
  accepted-readings : Readings c.smoothed
  unfolding sound_readings
  accepted-readings =
      record {
        limit = max_height;
        below = lit< tt;
        ranged = (both (all_in_range max_height c.smoothed) (not-false _ (none-for c room scratch 3 e))).0;
        held = held;
      }

  accepted-times : Times c.times
  unfolding same_lengths sound_values
  accepted-times =
      let l = both (eqb (length c.raw) (length c.smoothed)) (not-false _ (none-for c room scratch 1 e)) in
      let n = ltb-false max_frames (length c.smoothed) (none-for c room scratch 2 e) in
      let same = eqb-true (length c.times) (length c.smoothed) l.1 in
      record {
        few = omega arith;
        ranged = (all4 (sound_mode c.threshold) (not-false _ (none-for c room scratch 4 e))).3;
        held = timed;
      }

pub records-by-time : RecordsByTime
unfolding rt_peaks peaks_of
records-by-time c out₀ out scratch₀ scratch count held timed a =
    let y = c.smoothed in
    let z = c.raw in
    let t = c.times in
    let floor = floor_of y c.threshold in
    let l = listed_apexes floor c.separation c.width y z t in
    let number = rt_number c (length out₀) (length scratch₀) in
    let told = counted-by number count (length (peaks_of c)) (which ℕ (Ok count) number (length (peaks_of c)) a.answered) in
    let none = told.0 in
    let many : count ≡ length l = told.1 ∙ length-map l (local_peak_of y z t) in
    let rest = drop (length (peaks_of c) * local_size) out₀ in
    let words : out ≡ peak_words (peaks_of c) ++ rest =
    a.words ∙ ap (λ (b : Bool). cond b (peak_words (peaks_of c) ++ rest) out₀) (ap (λ (n : ℕ). eqb n 0) none) in
    let listed = by-time floor c.separation c.width y z t (accepted-readings c (length out₀) (length scratch₀) none held timed) (accepted-times c (length out₀) (length scratch₀) none held timed) in
    let bears : (k : ℕ) → k < count → (local_at out k).apex.rt_sec ≡ apex_time y t (get_or l k 0) =
    (λ k h.
    let m : k < length l = omega arith in
    ap (λ (w : List ℕ). (local_at w k).apex.rt_sec) words ∙ time-at y z t l rest k m
    ∙ of_bits-to_bits binary32 (apex_time y t (get_or l k 0)) (listed.clear (get_or l k 0) (at-index l k m)).held) in
    let frame : (k : ℕ) → k < count → (local_at out k).apex.rt_idx ≡ get_or l k 0 =
    (λ k h. ap (λ (w : List ℕ). (local_at w k).apex.rt_idx) words ∙ words-bear floor c.separation c.width y z t rest k (omega arith)) in
    record {
      apex-time = λ k h. bears k h ∙ ap (apex_time y t) (sym (frame k h));
      in-time = in-places floor c.separation c.width y z t listed (λ k. (local_at out k).apex.rt_sec) count many bears;
    }
