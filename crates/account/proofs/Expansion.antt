-- The account of expansion, from what expand_laws has of it.
use mathlib.Core.Path.{◌≡◌, sym, ap, ◌∙◌, subst}
use mathlib.Core.List.{List, [], ◌∷◌}
use mathlib.Core.Logic.{⊎_elim, inl, inr, ◌≢◌}
use Prim.Native.Nat.{ℕ, zero, suc, ◌+◌, ◌-◌, ◌/◌, ◌%◌, ◌<◌}
use native.Mathlib.Omega.{arith}
use lib.ListN.{length, get_or}
use lib.Ieee.{Float}
use Rattle.row_record.specs.declared.ImPeak1D.{ImPeak1D}
use Rattle.sort_digits.proofs.SortedLaws.{at-index}
use Rattle.rt_choice.specs.Chosen.{Distinct}
use Rattle.rt_params.specs.declared.RtExpandParams.{RtExpandParams}
use Rattle.expand_placed.specs.PlacedLaws.{PeakInFrames}
use Rattle.rt_record.specs.declared.RtPeak1D.{RtPeak1D}
use Rattle.rt_laws.proofs.RtAccount.{rt-account}
use Rattle.expand_peak.specs.Expanded.{Run, floor_of, searched}
use Rattle.expand.specs.ExpandCall.{one_number, OneAnswered, many_number, ManyAnswered}
use Rattle.c_expand.specs.Expansion.{answer_to, one_count, many_count}
use Rattle.c_expand.proofs.ExpandWords.{one_told, many-told}
use Rattle.expand_laws.specs.ExpandAccount.{raw_over, smooth_over, times_over, listed_over, Ordinary, ExpandAccounted, PeakAccounted}
use Rattle.expand_laws.proofs.ExpandAccount.{index_of}
use Rattle.expand_laws.proofs.Calls.{one-accounted, many-accounted}
use Rattle.account.specs.Demand3.{Within, OrdinaryPath, RetentionAccounted, ExpansionAccounted, OneExpanded, OneCallExpanded, ManyExpanded, ManyCallsExpanded}

within : (lo hi : ℕ) (r : RtPeak1D) → PeakInFrames lo (hi + 1 - lo) r → Within lo hi r
within lo hi r p =
    let a = p.apex in
    let f = p.first in
    let l = p.last in
    record {
      apex = (a.low, omega (arith, a.low, a.high));
      first = (f.low, omega (arith, f.low, f.high));
      last = (l.low, omega (arith, l.low, l.high));
    }

-- no two places of a list without repetitions have the same element
places-differ : (l : List ℕ) (j k : ℕ) → Distinct l → j < k → k < length l → get_or l j 0 ≢ get_or l k 0
places-differ [] j k d h m = absurd (omega arith)
places-differ (i ∷ l) j zero d h m = absurd (omega arith)
places-differ (i ∷ l) zero (suc k) d h m = d.0 (get_or l k 0) (at-index l k (omega arith))
places-differ (i ∷ l) (suc j) (suc k) d h m = places-differ l j k d.1 (omega arith) (omega arith)

module _ (run : Run) (e : RtExpandParams) (ws : List Float) (p : ImPeak1D) (first from count : ℕ) (out : List ℕ) where
  retention : (lo hi : ℕ) → ExpandAccounted run e ws p lo hi from count out → RetentionAccounted run e ws p lo hi from count out
  unfolding searched
  retention lo hi a =
      let listed = listed_over run e ws p lo hi in
      record {
        only-qualifying = λ k h.
            let l : k < length listed = omega (arith, a.counted, h) in
            record { apex = get_or listed k 0; qualifies = a.apexes.listed-qualify (get_or listed k 0) (at-index listed k l); bears-frame = a.frames k h };
        distinct = λ j k l h same.
            let f = a.frames j (omega arith) in
            let g = a.frames k h in
            places-differ listed j k a.apexes.listed-distinct l (omega (arith, a.counted, h)) (omega (arith, f, g, same));
        missing = λ i m.
            let b = a.missing i m in (
              (λ none. ⊎_elim
                  (λ w. inl (record { to = w.to; other = w.other; chosen = w.among; no_lower = w.no_lower; close = w.close }))
                  (λ fails. inr fails)
                  (b.0 (λ l. none (record { place = l.place; among = l.among; bears-frame = l.bears })))),
              (λ why. λ l. b.1
                  (⊎_elim
                  (λ w. inl (record { to = w.to; other = w.other; among = w.chosen; no_lower = w.no_lower; close = w.close }))
                  (λ fails. inr fails)
                  why)
                  (record { place = l.place; among = l.among; bears = l.bears-frame })),
            );
      }

  -- a chosen apex that meets both shares is listed
  listed-one : (lo hi : ℕ) → OrdinaryPath run e ws p lo hi → Ordinary run e ws p lo hi
  unfolding searched
  listed-one lo hi o =
      let y = smooth_over run e ws p lo hi in
      let a = rt-account (floor_of e y) e.min_sep_sec e.min_width_sec y (raw_over run e p lo hi) (times_over run lo hi) in
      let s = index_of (listed_over run e ws p lo hi) o.apex ((a.listed-are o.apex).1 (o.chosen, o.shares)) in
      let low = s.low in
      record { window = o.window; long = omega (arith, o.long); some = omega arith }

  -- and a listed one is such an apex
  path-of : (lo hi : ℕ) → Ordinary run e ws p lo hi → OrdinaryPath run e ws p lo hi
  unfolding searched
  path-of lo hi o =
      let y = smooth_over run e ws p lo hi in
      let listed = listed_over run e ws p lo hi in
      let a = rt-account (floor_of e y) e.min_sep_sec e.min_width_sec y (raw_over run e p lo hi) (times_over run lo hi) in
      let l = (a.listed-are (get_or listed 0 0)).0 (at-index listed 0 o.some) in
      record { window = o.window; long = omega (arith, o.long); apex = get_or listed 0 0; chosen = l.0; shares = l.1 }

  expansion : PeakAccounted run e ws p first from count out → ExpansionAccounted run e ws p from count out
  expansion a =
      record {
        records = a.records;
        inside = λ lo hi w k h. within lo hi _ (a.window lo hi w k h).inside;
        ordinary = λ lo hi o. retention lo hi (a.ordinary lo hi (listed-one lo hi o));
        fallback = λ lo hi w other. a.fallback lo hi w (λ o. other (path-of lo hi o));
        none-above = a.none-above;
      }

pub one-expanded : OneExpanded
one-expanded run e peak ws first was is count a = expansion run e ws _ first 0 count is.out (one-accounted run e peak ws first was is count a)

pub many-expanded : ManyExpanded
many-expanded m was is counts₀ counts total a =
    let b = many-accounted m was is counts₀ counts total a in
    record { each = λ q h. expansion m.run m.params _ _ _ _ _ is.out (b.each q h); all = b.all }

-- ---- the C functions: a word that is a multiple of 64 tells a count

pub one-call-expanded : OneCallExpanded
one-call-expanded run e peak ws first was is r a z =
    let t = one_told run e peak ws first was in
    let count = one_count run e peak ws first in
    let none : one_number run e peak ws first was ≡ 0 = sym t.number ∙ ap (λ (w : ℕ). w % 64) (sym a.word) ∙ z in
    let told : r / 64 ≡ count = ap (λ (w : ℕ). w / 64) a.word ∙ t.count none in
    rw told (one-expanded run e peak ws first was is count (subst (λ (n : ℕ). OneAnswered run e peak ws first was is (answer_to n count)) none a.lists))

pub many-calls-expanded : ManyCallsExpanded
many-calls-expanded m was is counts₀ counts r a z =
    let t = many-told m was (length counts₀) in
    let count = many_count m in
    let none : many_number m was (length counts₀) ≡ 0 = sym t.number ∙ ap (λ (w : ℕ). w % 64) (sym a.word) ∙ z in
    let told : r / 64 ≡ count = ap (λ (w : ℕ). w / 64) a.word ∙ t.count none in
    rw told (many-expanded m was is counts₀ counts count (subst (λ (n : ℕ). ManyAnswered m was is counts₀ counts (answer_to n count)) none a.lists))
