-- Laws of a trace that a loop reads from the front.
use mathlib.Core.Path.{◌≡◌, refl, sym, ap}
use mathlib.Core.Bool.{Bool, true, false, cond}
use mathlib.Core.List.{List, [], ◌∷◌}
use Prim.Native.Nat.{ℕ, suc, ◌≤◌, ◌<◌, ◌+◌}
use native.Mathlib.Numerals.{add-one}
use native.Mathlib.Omega.{arith}
use lib.ListN.{length}
use lib.Ieee.{Float, lt, le, of_bits}
use Rattle.numeric.specs.Arith.{◌⊕◌, ◌⊗◌, 𝟎, index_f}
use Rattle.row_apex.specs.Apex.{least}
use Rattle.rt_fallback.specs.Fallback.{top_from, top_of, sums_from}
use Rattle.rt_fallback.specs.declared.inner.Top.{Top}
use Rattle.rt_fallback.specs.declared.inner.Sums.{Sums}
use Rattle.std.specs.List.{fold, enumerate_from}
use Rattle.std.specs.Prelude.{Some, None, is_some}
use Rattle.std.specs.Option.{unwrap_or}
use Rattle.refusal.proofs.Bools.{clash}

-- ---- the highest reading

abbrev pub higher : Top → ℕ × Float → Top
higher t p = cond (lt t.height p.1) (record { place = p.0; height = p.1 }) t

pub top-fold : (y : List Float) (k : ℕ) (t : Top) → fold higher t (enumerate_from k y) ≡ top_from y k t.place t.height
unfolding top_from
top-fold [] k t = refl
top-fold (v ∷ vs) k t =
    rw (sym (add-one k)) (either (lt t.height v) (record { place = k; height = v }) t (top-fold vs (k + 1) (record { place = k; height = v })) (top-fold vs (k + 1) t))
  where
    either : (c : Bool) (a b : Top) {A B : Top} → fold higher a (enumerate_from (k + 1) vs) ≡ A → fold higher b (enumerate_from (k + 1) vs) ≡ B
        → fold higher (cond c a b) (enumerate_from (k + 1) vs) ≡ cond c A B
    either true a b p q = p
    either false a b p q = q

-- its place is one of the trace
top_below : (vs : List Float) (k place n : ℕ) (h : Float) → place < n → k + length vs ≤ n → (top_from vs k place h).place < n
unfolding top_from
top_below [] k place n h a b = a
top_below (v ∷ vs) k place n h a b =
    either (lt h v) (top_below vs (suc k) k n v (omega arith) (omega arith)) (top_below vs (suc k) place n h a (omega arith))
  where
    either : (c : Bool) → (top_from vs (suc k) k v).place < n → (top_from vs (suc k) place h).place < n
        → (cond c (top_from vs (suc k) k v) (top_from vs (suc k) place h)).place < n
    either true p q = p
    either false p q = q

pub top_within : (y : List Float) (t : Top) → t ≡ top_of y → 0 < length y → t.place < length y
top_within y t e h = rw e (top_below y 0 0 (length y) _ h (omega arith))

-- ---- sums

pub sums-fold : (y : List Float) (k : ℕ) (s : Sums)
    → fold (λ (s : Sums) (p : ℕ × Float). record { mass = s.mass ⊕ p.1; moment = s.moment ⊕ index_f p.0 ⊗ p.1 }) s (enumerate_from k y) ≡ sums_from y k s.mass s.moment
unfolding sums_from
sums-fold [] k s = refl
sums-fold (v ∷ vs) k s = rw (sym (add-one k)) (sums-fold vs (k + 1) (record { mass = s.mass ⊕ v; moment = s.moment ⊕ index_f k ⊗ v }))

-- ---- the least reading

pub least-fold : (y : List Float) (m : Float) → fold (λ (m v : Float). cond (lt v m) v m) m y ≡ least m y
unfolding least
least-fold [] m = refl
least-fold (v ∷ vs) m = least-fold vs (cond (lt v m) v m)

-- ---- a trace with a reading above 0 is not empty

pub some-reading : (y : List Float) → le (top_of y).height 𝟎 ≡ false → 0 < length y
unfolding top_from le of_bits
some-reading [] h = clash (le (top_of []).height 𝟎) refl h
some-reading (v ∷ vs) h = omega arith

-- ---- the highest reading, if one is above 0

pub some-top : (b : Bool) (t x : Top) → Some x ≡ cond b None (Some t) → (b ≡ false) × (x ≡ t)
some-top true t x e = clash false (sym (ap is_some e)) refl
some-top false t x e = (refl, ap (λ o. unwrap_or o t) e)

pub no-top : (b : Bool) (t : Top) → None ≡ cond b None (Some t) → b ≡ true
no-top true t e = refl
no-top false t e = clash false (ap is_some e) refl
