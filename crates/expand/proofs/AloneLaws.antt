-- The call for one mobility peak as the call for a list of it alone.
use mathlib.Core.Path.{◌≡◌, refl, sym, ap, ◌∙◌, subst}
use mathlib.Core.Bool.{Bool, true, false, cond, ◌&&◌}
use mathlib.Core.List.{List, [], ◌∷◌, ◌++◌}
use mathlib.Core.Option.{Option, none, some}
use Prim.Native.Nat.{ℕ, ◌≤◌, ◌<◌, ◌+◌, ◌*◌, ◌/◌, ◌%◌, min}
use native.Mathlib.Omega.{arith}
use borrow.Author.Tests.{eq-eqb, eqb-true, leb-true, leb-false}
use lib.Dec.{leb, eqb}
use lib.ListN.{length, take, drop}
use lib.Seq.{take_all, length-take-le}
use lib.Ieee.{Float}
use Rattle.refusal.specs.Answers.{answer_by}
use Rattle.refusal.proofs.Bools.{both, all4}
use Rattle.limits.specs.Limits.{max_reading, max_list}
use Rattle.row_smoothing.specs.Smoothing.{sound_weights}
use Rattle.row_smoothing.proofs.Laws.{sound-count}
use Rattle.row_record.specs.Record.{size, peak_at, all_sound}
use Rattle.tof_scale.specs.Tof.{sound_ends, agreeing}
use Rattle.frames_index.specs.IndexNumber.{index_number}
use Rattle.frames_index.proofs.IndexNumberLaws.{accepted}
use Rattle.expand_one.specs.Steps.{most}
use Rattle.rt_params.specs.declared.RtExpandParams.{RtExpandParams}
use Rattle.rt_record.specs.RtRecord.{rt_size}
use Rattle.rt_record.specs.declared.RtPeak1D.{RtPeak1D}
use Rattle.expand_trace.specs.FallbackPeaks.{peak_words}
use Rattle.expand_peak.specs.Expanded.{Run, expanded}
use Rattle.expand_many.specs.Many.{many_of, sum_to, weights_at, joined_to}
use Rattle.expand_numbers.specs.ExpandNumber.{paired_axes, sum_of, all_weights, sound_values, rising_axes, enough_room, enough_scratch}
use Rattle.refusal.specs.declared.Refusal.{Refusal}
use Rattle.std.specs.Prelude.{Result}
use Rattle.expand.specs.ExpandCall.{Lent, many_asks, many_number, ManyAnswered, alone, one_number, peaks_of, OneAnswered}
use Rattle.std.proofs.Math.Bool.{and-true}

-- ---- the first 258 weights tell whether all are sound
unsound : (l : List Float) → 257 < length l → sound_weights l ≡ false
unsound l k = go (sound_weights l) refl
  where
    go : (b : Bool) → sound_weights l ≡ b → sound_weights l ≡ false
    go true e = let h = sound-count l e in absurd (omega arith)
    go false e = e

abbrev cut_to : List Float → List Float
cut_to ws = take (min (length ws) 258) ws

cut-whole : (ws : List Float) → length ws ≤ 257 → cut_to ws ≡ ws
cut-whole ws h = take_all (min (length ws) 258) ws (omega arith)

cut-sound : (ws : List Float) → sound_weights (cut_to ws) ≡ sound_weights ws
cut-sound ws = go (leb (length ws) 257) refl
  where
    go : (b : Bool) → leb (length ws) 257 ≡ b → sound_weights (cut_to ws) ≡ sound_weights ws
    go true e = ap sound_weights (cut-whole ws (leb-true (length ws) 257 e))
    go false e =
        let k = leb-false (length ws) 257 e in
        let n : length (cut_to ws) ≡ min (length ws) 258 = length-take-le (min (length ws) 258) ws (omega arith) in
        unsound (cut_to ws) (omega arith) ∙ sym (unsound ws (omega arith))

-- ---- the number depends on the weights only by that
module _ (run : Run) (e : RtExpandParams) (peak : List ℕ) (first : ℕ) (was : Lent) where
  by_weights : Bool → Bool → ℕ
  by_weights summed weighed =
      let n = length peak / size in
      let f = length run.ids in
      index_number max_reading run.index (record {
        lengths = eqb (length peak % size) 0 && eqb 1 n && summed && paired_axes (length run.index.starts) f (length run.times);
        sizes = leb n max_list;
        values = sound_values e run.scale.tof_step run.times first n (most f);
        axes = sound_ends run.scale;
        weights = weighed;
        order = rising_axes run.ids run.times;
        records = all_sound peak n;
        room = enough_room n (most f) (length was.out) && leb n 1;
        scratch = enough_scratch f (length was.raw) (length was.smooth) (length was.order);
        scale = agreeing run.scale;
      })

  by_weights_lem : (ws : List Float) → one_number run e peak ws first was ≡ by_weights true (sound_weights ws)
  unfolding many_asks sum_of all_weights by_weights
  by_weights_lem ws =
      let own : eqb (length ws + 0) (length ws) ≡ true = eq-eqb (length ws + 0) (length ws) (omega arith) in
      let all : (sound_weights (take (length ws) ws) && true) ≡ sound_weights ws = and-true (sound_weights (take (length ws) ws)) ∙ ap sound_weights (take_all (length ws) ws (omega arith)) in
      ap (λ (b : Bool). by_weights b (sound_weights (take (length ws) ws) && true)) own ∙ ap (by_weights true) all

  number_cut : (ws : List Float) → one_number run e peak (cut_to ws) first was ≡ one_number run e peak ws first was
  number_cut ws = by_weights_lem (cut_to ws) ∙ ap (by_weights true) (cut-sound ws) ∙ sym (by_weights_lem ws)

  -- where it is 0 there is one record, and the weights are sound
  pub one-peak : (ws : List Float) → one_number run e peak ws first was ≡ 0 → length peak / size ≡ 1
  unfolding many_asks
  one-peak ws z =
      let a = accepted max_reading run.index (many_asks (alone run e peak ws first) was 1) z in
      sym (eqb-true 1 (length peak / size) (all4 (eqb (length peak % size) 0) a.lengths).1)

  few-weights : (ws : List Float) → one_number run e peak ws first was ≡ 0 → length ws ≤ 257
  unfolding many_asks all_weights
  few-weights ws z =
      let a = accepted max_reading run.index (many_asks (alone run e peak ws first) was 1) z in
      sound-count ws (ap sound_weights (sym (take_all (length ws) ws (omega arith))) ∙ (both (sound_weights (take (length ws) ws)) a.weights).0)

-- ---- the peaks
joined-alone : (run : Run) (e : RtExpandParams) (peak : List ℕ) (ws : List Float) (first : ℕ) → joined_to (alone run e peak ws first) 1 ≡ peaks_of run e peak ws first
unfolding joined_to weights_at sum_to
joined-alone run e peak ws first =
    let z : first + 0 ≡ first = omega arith in
    ap (λ (l : List Float). expanded run e l (peak_at peak 0) (first + 0)) (take_all (length ws) ws (omega arith)) ∙ ap (expanded run e ws (peak_at peak 0)) z

-- ---- the answer
answer-same : (n v w : ℕ) → (n ≡ 0 → v ≡ w) → answer_by n v ≡ answer_by n w
answer-same n v w h = ap (λ (o : Option ℕ). record { number = n; values = o }) (go (eqb n 0) refl)
  where
    go : (b : Bool) → eqb n 0 ≡ b → cond b (some v) none ≡ cond b (some w) none
    go true t = ap some (h (eqb-true n 0 t))
    go false t = refl

module _ (run : Run) (e : RtExpandParams) (peak : List ℕ) (ws : List Float) (first : ℕ) (was is : Lent) where
  joined_is : one_number run e peak ws first was ≡ 0 → joined_to (alone run e peak (cut_to ws) first) (length peak / size) ≡ peaks_of run e peak ws first
  joined_is z =
      ap (joined_to (alone run e peak (cut_to ws) first)) (one-peak run e peak first was ws z)
      ∙ joined-alone run e peak (cut_to ws) first
      ∙ ap (λ (l : List Float). peaks_of run e peak l first) (cut-whole ws (few-weights run e peak first was ws z))

  one-answered : (lengths counts₀ counts : List ℕ) (r : Result ℕ Refusal) → lengths ≡ length (cut_to ws) ∷ [] → length counts₀ ≡ 1
      → ManyAnswered (many_of run e peak (cut_to ws) lengths first) was is counts₀ counts r → OneAnswered run e peak ws first was is r
  one-answered lengths counts₀ counts r el ec a =
      let m = alone run e peak (cut_to ws) first in
      let b = subst (λ (l : List ℕ). ManyAnswered (many_of run e peak (cut_to ws) l first) was is counts₀ counts r) el a in
      let number : many_number m was (length counts₀) ≡ one_number run e peak ws first was = ap (many_number m was) ec ∙ number_cut run e peak first was ws in
      record {
        answered =
            b.answered
            ∙ ap (λ (k : ℕ). answer_by k (length (joined_to m (length peak / size)))) number
            ∙ answer-same (one_number run e peak ws first was) (length (joined_to m (length peak / size))) (length (peaks_of run e peak ws first)) (λ z. ap length (joined_is z));
        accepted = λ z.
            let w = b.accepted (number ∙ z) in
            record { words = w.words ∙ ap (λ (ps : List RtPeak1D). peak_words ps ++ drop (length ps * rt_size) was.out) (joined_is z); past = w.past };
        refused = λ h. (b.refused (λ z. h (sym number ∙ z))).0;
      }

  -- with k weights handed on, as many as are looked at
  pub one-answered-by : (k : ℕ) (counts₀ counts : List ℕ) (r : Result ℕ Refusal) → k ≡ min (length ws) 258 → length counts₀ ≡ 1
      → ManyAnswered (many_of run e peak (take k ws) (k ∷ []) first) was is counts₀ counts r → OneAnswered run e peak ws first was is r
  one-answered-by k counts₀ counts r ek ec a =
      let cut = min (length ws) 258 in
      one-answered (cut ∷ []) counts₀ counts r (ap (λ (n : ℕ). n ∷ []) (sym (length-take-le cut ws (omega arith)))) ec
      (subst (λ (n : ℕ). ManyAnswered (many_of run e peak (take n ws) (n ∷ []) first) was is counts₀ counts r) ek a)
