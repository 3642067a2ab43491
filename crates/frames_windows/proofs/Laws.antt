-- The bins of TOF bounds are bins of the scale.
use mathlib.Core.Path.{◌≡◌, refl}
use mathlib.Core.Bool.{Bool, true, false}
use Prim.Native.Nat.{ℕ, ◌≤◌, min, max}
use native.Mathlib.Omega.{arith}
use borrow.Author.Tests.{leb-false, le-leb}
use lib.Dec.{leb}
use Rattle.limits.specs.Limits.{last_row}
use Rattle.tof_scale.specs.declared.TofScale.{TofScale}
use Rattle.tof_scale.specs.Tof.{Sound, window_between, window_bins}
use Rattle.tof_scale.proofs.TofLaws.{plain, bins-held, bin-below}

module _ (s : TofScale) (h : Sound s) where
  between-held : (lo hi : ℕ) → (window_between s lo hi).hi ≤ last_row
  between-held lo hi = go (leb hi s.tof_min) (leb s.tof_max lo) refl refl
    where
      go : (p q : Bool) → leb hi s.tof_min ≡ p → leb s.tof_max lo ≡ q → (window_between s lo hi).hi ≤ last_row
      go true q ep eq = rw ep (omega arith)
      go false true ep eq = rw (ep, eq) (omega (arith, (bins-held s h).1))
      go false false ep eq =
          let a = leb-false hi s.tof_min ep in
          let o = (plain s h).ordered in
          let u = min hi s.tof_max in
          rw (ep, eq) (omega (arith, bin-below s h u (rw (le-leb s.tof_min u (omega arith), le-leb u s.tof_max (omega arith))), (bins-held s h).1))

  -- the last bin of a window is at most 4,194,303
  pub window-held : (a b : ℕ) → (window_bins s a b).hi ≤ last_row
  unfolding window_bins
  window-held a b = between-held (min a b) (max a b)
