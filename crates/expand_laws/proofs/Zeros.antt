-- A trace without a reading above 0 has no candidate: its readings are sums of readings that are not negative, so that each is 0 or no
-- number (row_smoothed/proofs/Zeros).
use mathlib.Core.Path.{◌≡◌, refl, sym, subst}
use mathlib.Core.Bool.{Bool, true, false, cond}
use mathlib.Core.List.{List, [], ◌∷◌}
use Prim.Native.Nat.{ℕ, zero, suc, ◌≤◌, ◌<◌, ◌+◌, ◌-◌, ◌*◌, ◌^◌}
use native.Mathlib.Omega.{arith}
use borrow.Author.Tests.{ltb-true, ltb-false}
use lib.Dec.{T, ltb, eqb}
use lib.ListN.{length, get_or, get_or-eq_default}
use lib.Ieee.{Float, nan, inf, fin, Format, binary32, prec, emax, low, up, down, lt, add, sum, round, units, odd, of_bits}
use lib.Ieee.Fits.{up_pos}
use lib.Ieee.Scale.{finite}
use Rattle.std.proofs.Common.{zero-mul, mul-pos}
use Rattle.refusal.proofs.Bools.{clash, neither}
use Rattle.numeric.specs.Arith.{◌⊕◌, 𝟎, at}
use Rattle.numeric.specs.Numeric.{in_range, all_in_range}
use Rattle.numeric.proofs.Patterns.{no_minus, below_inf, wider, range_at}
use Rattle.row_smoothing.specs.Smoothing.{smoothed}
use Rattle.row_smoothed.proofs.Zeros.{idle, smoothed-idle, idle-candidate}
use Rattle.row_apex.specs.Apex.{is_candidate}
use Rattle.frames_index.specs.FrameIndex.{Index}
use Rattle.frames_sums.specs.declared.inner.Window.{Window}
use Rattle.frames_sums.specs.Sums.{in_bins, in_scans, add_points, add_bins, add_frame, frame_sums}
use Rattle.frames_sums.proofs.Laws.{sums-length}
use Rattle.frames_sums.proofs.InRange.{sum-at}
use Rattle.expand_trace.specs.Trace.{any_above}

-- ---- readings that are not negative, or no number
abbrev Up : Float → Type 0
Up nan = Unit {0}
Up (inf s) = s ≡ false
Up (fin s m e) = s ≡ false

up-odd : (d q k l : ℕ) → Up (odd d false q k l)
unfolding odd
up-odd d zero k l = refl
up-odd d (suc q) k l = refl

up-units : (f : Format) (q k : ℕ) → Up (units f false q k)
unfolding units
up-units f q k = go (ltb (q * 2 ^ k) (2 ^ (low f + suc (emax f))))
  where
    go : (b : Bool) → Up (cond b (odd (suc (prec f)) false q k (low f)) (inf false))
    go true = up-odd (suc (prec f)) q k (low f)
    go false = refl

up-round : (a c : ℕ) → Up (round binary32 false a c)
unfolding round
up-round a c = up-units binary32 _ _

up-add : (x y : Float) → Up x → Up y → Up (x ⊕ y)
unfolding add sum
up-add nan y h k = tt
up-add (inf s) nan h k = tt
up-add (inf s) (inf t) h k = rw (h, k) refl
up-add (inf s) (fin t n d) h k = h
up-add (fin s m e) nan h k = tt
up-add (fin s m e) (inf t) h k = k
up-add (fin s m e) (fin t n d) h k = rw (h, k) (up-round (m * up e * down d + n * up d * down e) (down e * down d))

-- a reading in range is one
up-in : (limit : ℕ) (x : Float) → limit < 0x7f80_0000 → in_range limit x ≡ true → Up x
up-in limit x l h = go x (wider limit x (omega (arith, l)) h) (below_inf limit x l h)
  where
    go : (x : Float) → in_range 0x7f80_0000 x ≡ true → T (finite x) → Up x
    go nan h f = tt
    go (inf s) h f = absurd f
    go (fin true m e) h f = absurd (no_minus m e h)
    go (fin false m e) h f = refl

-- one that is not above 0 is a zero or no number
up-idle : (x : Float) → Up x → lt 𝟎 x ≡ false → idle x ≡ true
unfolding idle lt of_bits
up-idle nan h z = refl
up-idle (inf true) h z = clash true refl h
up-idle (inf false) h z = clash true refl z
up-idle (fin true m e) h z = clash true refl h
up-idle (fin false m e) h z = go m (subst (λ (n : ℕ). m * up e * 1 ≤ n) (zero-mul (down e)) (ltb-false (0 * down e) (m * up e * 1) z))
  where
    go : (m : ℕ) → m * up e * 1 ≤ 0 → eqb m 0 ≡ true
    go zero l = refl
    go (suc m) l = let p : 0 < suc m * up e = mul-pos (omega arith) (up_pos e) in absurd (omega (arith, l, p))

-- ---- the trace: sums of readings
module _ (ix : Index) (w : Window) (each : (a : ℕ) → Up (at ix.readings a)) where
  up-points : (n a : ℕ) (so : Float) → Up so → Up (add_points ix w n a so)
  unfolding add_points
  up-points zero a so h = h
  up-points (suc n) a so h = up-points n (a + 1) _ (go (in_scans w (get_or ix.scans a 0)))
    where
      go : (b : Bool) → Up (cond b (so ⊕ at ix.readings a) so)
      go true = up-add so (at ix.readings a) h (each a)
      go false = h

  up-bins : (n i : ℕ) (so : Float) → Up so → Up (add_bins ix w n i so)
  unfolding add_bins
  up-bins zero i so h = h
  up-bins (suc n) i so h = up-bins n (i + 1) _ (go (in_bins w (get_or ix.bins i 0)))
    where
      from : ℕ
      from = get_or ix.offsets i 0

      go : (b : Bool) → Up (cond b (add_points ix w (get_or ix.offsets (i + 1) 0 - from) from so) so)
      go true = up-points (get_or ix.offsets (i + 1) 0 - from) from so h
      go false = h

  up-frame : (f : ℕ) → Up (add_frame ix w f 𝟎)
  unfolding add_frame of_bits
  up-frame f = up-bins _ (get_or ix.starts f 0) 𝟎 refl

  up-sums : (f n i : ℕ) → Up (at (frame_sums ix w f n) i)
  up-sums f n i = go (ltb i n) refl
    where
      go : (b : Bool) → ltb i n ≡ b → Up (at (frame_sums ix w f n) i)
      go true e = subst Up (sym (sum-at ix w f n i (ltb-true i n e))) (up-frame (f + i))
      go false e = subst Up (sym (get_or-eq_default (frame_sums ix w f n) nan (omega (arith, sums-length ix w f n, ltb-false i n e)))) tt

up-readings : (limit : ℕ) (y : List Float) → limit < 0x7f80_0000 → all_in_range limit y ≡ true → (i : ℕ) → Up (at y i)
up-readings limit y l h i = go (ltb i (length y)) refl
  where
    go : (b : Bool) → ltb i (length y) ≡ b → Up (at y i)
    go true e = up-in limit (at y i) l (range_at limit y i h (ltb-true i (length y) e))
    go false e = subst Up (sym (get_or-eq_default y nan (ltb-false i (length y) e))) tt

not-above : (x : List Float) → any_above x ≡ false → (i : ℕ) → lt 𝟎 (at x i) ≡ false
unfolding any_above lt of_bits
not-above [] h i = refl
not-above (v ∷ vs) h zero = (neither (lt 𝟎 v) h).0
not-above (v ∷ vs) h (suc i) = not-above vs (neither (lt 𝟎 v) h).1 i

-- a trace over a run whose readings are in range has no candidate, smoothed by any weights, where none of its readings is above 0
pub none-above : (limit : ℕ) (ix : Index) (w : Window) (f n : ℕ) (ws : List Float) (i : ℕ) → limit < 0x7f80_0000 → all_in_range limit ix.readings ≡ true
    → any_above (frame_sums ix w f n) ≡ false → is_candidate (smoothed ws (frame_sums ix w f n)) i ≡ false
none-above limit ix w f n ws i l h none =
    let x = frame_sums ix w f n in
    idle-candidate (smoothed ws x) i
    (λ j. smoothed-idle ws x j (λ k. up-idle (at x k) (up-sums ix w (up-readings limit ix.readings l h) f n k) (not-above x none k)))
