-- What distinct identities are, in terms of places.
use mathlib.Core.Path.{◌≡◌, refl, sym, ap}
use mathlib.Core.Bool.{true, false, not}
use mathlib.Core.List.{List, [], ◌∷◌, map}
use Prim.Native.Nat.{ℕ, zero, suc, ◌<◌}
use native.Mathlib.Omega.{arith}
use borrow.Author.Tests.{eq-eqb, ne_eqb, not-true}
use lib.Dec.{eqb}
use lib.ListN.{length}
use Rattle.refusal.proofs.Bools.{clash, both}
use Rattle.row_record.specs.declared.ImPeak1D.{ImPeak1D}
use Rattle.stitch_peaks.specs.PeakList.{nth}
use Rattle.stitch_distinct.specs.Distinct.{is_in, distinct}
use Rattle.stitch_distinct.specs.DistinctLaws.{DistinctTells, TellsDistinct}
use Rattle.std.proofs.Math.Bool.{or-true}

-- an identity that a place has is one of all
is-in : (x : ℕ) (ps : List ImPeak1D) (k : ℕ) → k < length ps → x ≡ (nth ps k).id → is_in x (map (λ p. p.id) ps) ≡ true
unfolding is_in
is-in x [] k h e = absurd (omega arith)
is-in x (p ∷ ps) zero h e = rw (eq-eqb x p.id e)
is-in x (p ∷ ps) (suc k) h e = rw (is-in x ps k (omega arith) e) (or-true (eqb x p.id))

not_in : (x : ℕ) (ps : List ImPeak1D) → ((k : ℕ) → k < length ps → x ≡ (nth ps k).id → ⊥) → is_in x (map (λ p. p.id) ps) ≡ false
unfolding is_in
not_in x [] h = refl
not_in x (p ∷ ps) h = rw (ne_eqb x p.id (h 0 (omega arith))) (not_in x ps (λ k l. h (suc k) (omega arith)))

pub distinct-tells : DistinctTells
unfolding distinct
distinct-tells [] h j k a b e = absurd (omega arith)
distinct-tells (p ∷ ps) h zero zero a b e = refl
distinct-tells (p ∷ ps) h zero (suc k) a b e =
    let n = (both (not (is_in p.id (map (λ q. q.id) ps))) h).0 in
    clash (is_in p.id (map (λ q. q.id) ps)) (is-in p.id ps k (omega arith) e) (not-true (is_in p.id (map (λ q. q.id) ps)) n)
distinct-tells (p ∷ ps) h (suc j) zero a b e =
    let n = (both (not (is_in p.id (map (λ q. q.id) ps))) h).0 in
    clash (is_in p.id (map (λ q. q.id) ps)) (is-in p.id ps j (omega arith) (sym e)) (not-true (is_in p.id (map (λ q. q.id) ps)) n)
distinct-tells (p ∷ ps) h (suc j) (suc k) a b e =
    ap suc (distinct-tells ps (both (not (is_in p.id (map (λ q. q.id) ps))) h).1 j k (omega arith) (omega arith) e)

pub tells-distinct : TellsDistinct
unfolding distinct
tells-distinct [] f = refl
tells-distinct (p ∷ ps) f =
    rw (not_in p.id ps (λ k h e. let z : 0 ≡ suc k = f 0 (suc k) (omega arith) (omega arith) e in absurd (omega arith)))
    (tells-distinct ps (λ j k a b e. let z : suc j ≡ suc k = f (suc j) (suc k) (omega arith) (omega arith) e in omega arith))
