-- Ranks of readings in the order of floats.
use mathlib.Core.Path.{◌≡◌, refl, sym, ap, ◌∙◌, subst}
use mathlib.Core.Bool.{Bool}
use mathlib.Core.List.{List, [], ◌∷◌}
use Prim.Native.Nat.{ℕ, suc, ◌+◌, ◌≤◌, ◌<◌}
use native.Mathlib.Omega.{arith}
use lib.Dec.{ltb, leb}
use lib.ListN.{length, length-map}
use lib.Ieee.{Float, nan, binary32, lt, le, of_bits}
use lib.Ieee.Bits.{of_bits-to_bits}
use Rattle.numeric.specs.Arith.{at, ◌⊖◌}
use Rattle.numeric.specs.Numeric.{abs_f}
use Rattle.numeric.specs.Plain.{word, Plain, AllPlain}
use Rattle.numeric.proofs.Patterns.{le-bits, lt-bits}
use Rattle.sort_rank.specs.Rank.{counted, smaller, at_most, ranked, words, rank_f, smaller_f, at_most_f}
use Rattle.sort_rank.specs.RankLaws.{ReadingAtRank, OneReading, OneOfReadings, DistancesPlain, StepsPlain}
use Rattle.sort_rank.proofs.Laws.{ranked-is}
use Rattle.sort_rank.proofs.Sorted.{ranked-at, at-rank-in}
use Rattle.sort_rank.proofs.Signs.{distance-plain}
use Rattle.sort_rank.proofs.Lists.{steps-length, steps-at}
use Rattle.std.proofs.lemmas.List.{get_or-map}

-- ---- counts of readings are counts of patterns
counted_words : (p : Float → Bool) (q : ℕ → Bool) (xs : List Float) → ((i : ℕ) → i < length xs → p (at xs i) ≡ q (word (at xs i))) → counted p xs ≡ counted q (words xs)
unfolding counted
counted_words p q [] h = refl
counted_words p q (x ∷ xs) h = rw (h 0 (omega arith), counted_words p q xs (λ i l. h (suc i) (omega arith)))

module _ (xs : List Float) (a : AllPlain xs) (v : Float) (p : Plain v) where
  at-most-words : at_most_f v xs ≡ at_most (word v) (words xs)
  at-most-words = counted_words (λ x. le x v) (λ w. leb w (word v)) xs (λ i h. le-bits (at xs i) v (a i h) p)

  smaller-words : smaller_f v xs ≡ smaller (word v) (words xs)
  smaller-words = counted_words (λ x. lt x v) (λ w. ltb w (word v)) xs (λ i h. lt-bits (at xs i) v (a i h) p)

-- ---- the reading at a rank
module _ (xs : List Float) (k : ℕ) (h : k < length xs) (a : AllPlain xs) where
  -- its place, and its pattern
  found : (i : ℕ) × (i < length xs) × (word (at xs i) ≡ ranked (words xs) k)
  found =
      let i = at-rank-in (words xs) k (ranked (words xs) k) (ranked-at (words xs) k (rw (length-map xs word) h)) in
      let l : i.0 < length xs = subst (λ (n : ℕ). i.0 < n) (length-map xs word) i.1 in
      (i.0, l, sym (get_or-map word xs i.0 nan 0 l) ∙ i.2)

  is : at xs found.0 ≡ rank_f xs k
  unfolding rank_f
  is = let f = found in sym (of_bits-to_bits binary32 (at xs f.0) (a f.0 f.1).held) ∙ ap (of_bits binary32) f.2

  pub place : (i : ℕ) × (i < length xs) × (at xs i ≡ rank_f xs k)
  place = (found.0, found.1, is)

  pub rank-plain : Plain (rank_f xs k)
  rank-plain = subst Plain is (a found.0 found.1)

  rank-bits : word (rank_f xs k) ≡ ranked (words xs) k
  rank-bits = sym (ap word is) ∙ found.2

pub rank-reading : OneOfReadings
rank-reading xs k h a = place xs k h a

pub rank-float : ReadingAtRank
rank-float xs k h a =
    let r = ranked-at (words xs) k (rw (length-map xs word) h) in
    let v = rank_f xs k in
    let p = rank-plain xs k h a in
    record {
      few = rw (smaller-words xs a v p, rank-bits xs k h a) r.few;
      enough = rw (at-most-words xs a v p, rank-bits xs k h a) r.enough;
    }

pub one_float : OneReading
unfolding rank_f
one_float xs k h a v p r =
    let e : word v ≡ ranked (words xs) k =
    ranked-is (words xs) k (word v)
    (record { few = subst (λ (n : ℕ). n ≤ k) (smaller-words xs a v p) r.few; enough = subst (λ (n : ℕ). k < n) (at-most-words xs a v p) r.enough }) in
    sym (of_bits-to_bits binary32 v p.held) ∙ ap (of_bits binary32) e

-- ---- distances and steps of finite readings
pub distances-plain : DistancesPlain
distances-plain m xs f a i h =
    let l : i < length xs = subst (λ (n : ℕ). i < n) (length-map xs (λ x. abs_f (x ⊖ m))) h in
    subst Plain (sym (get_or-map (λ x. abs_f (x ⊖ m)) xs i nan nan l)) (distance-plain (at xs i) m (a i l) f)

pub steps-plain : StepsPlain
steps-plain xs a i h =
    let n = steps-length xs in
    let l : i + 1 < length xs = omega arith in
    subst Plain (sym (steps-at xs i l)) (distance-plain (at xs (i + 1)) (at xs i) (a (i + 1) l) (a i (omega arith)))
