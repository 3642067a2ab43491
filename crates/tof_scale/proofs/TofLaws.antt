-- What the definitions of the scale come to, for a reader and for the proofs.
use mathlib.Core.Path.{◌≡◌, refl, sym, ◌∙◌, ap, subst}
use mathlib.Core.Bool.{Bool, true, false, cond, ◌&&◌}
use mathlib.Core.List.{List, [], ◌∷◌}
use mathlib.Core.Option.{none, some}
use mathlib.Core.Option.{Option as Values}
use Rattle.std.specs.Prelude.{Option, Some, None}
use Prim.Native.Nat.{ℕ, zero, suc, ◌+◌, ◌-◌, ◌*◌, ◌/◌, ◌%◌, ◌≤◌, ◌<◌, min, max}
use native.Mathlib.Nat.{div-le_self, le-div_iff_mul-le, div-lt_iff_lt-mul, div-mul-le_self, div-add-mod', dvd-sub, dvd_of_mod-eq-zero, mod-eq-zero_of_dvd, mul-mod_left, mul-le-mul_right, add-mul}
use native.Mathlib.Omega.{arith}
use borrow.Author.Tests.{leb-true, leb-false, le-leb, lt-leb, lt-ltb, ltb-true, eq-eqb, eqb-true, not-false}
use lib.Dec.{leb, ltb, eqb}
use lib.ListN.{length, get_or}
use Rattle.refusal.specs.Refusal.{first_of, ascending_from}
use Rattle.refusal.proofs.RefusalLaws.{lowest_by, none-by, applies_for}
use Rattle.refusal.proofs.Bools.{both, all5}
use Rattle.refusal.specs.Answers.{Says}
use Rattle.limits.specs.Limits.{max_step, max_tof, max_tof_bound}
use Rattle.row_params.specs.Params.{all_up_to, sound_tof}
use Rattle.tof_scale.specs.declared.TofScale.{TofScale}
use Rattle.tof_scale.specs.TofAnswers.{build_checks, build_number, build_answer}
use Rattle.tof_scale.specs.Tof.{Sound, edge, in_scale, bin_of, last_bin, window_between, window_bins, sound_step, sound_ends, agreeing, scale_checks, scale_number, lowest_tof, highest_tof, rounded, scale_of}
use Rattle.tof_scale.specs.TofLaws.{ScaleLowest, BuildLowest, SoundAtZero, ZeroForSound, BinsHeld, EdgesHeld, LastEdge, BinBelow, BinEdges, RowHeld, CenterRounded, or_else, rust_between, rust_window, WindowIsRusts, OneValue, NoScale, BuiltSound}

-- ---- numbers

pub scale-number-is : (s : TofScale) (value tofs : Bool) → scale_number s value tofs ≡ first_of (scale_checks s value tofs)
unfolding scale_number
scale-number-is s value tofs = refl

module _ (s : TofScale) (value tofs : Bool) where
  ascending : ascending_from 0 (scale_checks s value tofs) ≡ true
  unfolding ascending_from
  ascending = refl

  -- where it is 0, the check with the number n does not apply
  none-for : (n : ℕ) → scale_number s value tofs ≡ 0 → applies_for n (scale_checks s value tofs) ≡ false
  none-for n z = none-by n (scale_checks s value tofs) (scale-number-is s value tofs) ascending z

pub build-number-is : (tofs : List ℕ) (step : ℕ) → build_number tofs step ≡ first_of (build_checks tofs step)
unfolding build_number
build-number-is tofs step = refl

module _ (ts : List ℕ) (step : ℕ) where
  build-ascending : ascending_from 0 (build_checks ts step) ≡ true
  unfolding ascending_from
  build-ascending = refl

  none-builds : (n : ℕ) → build_number ts step ≡ 0 → applies_for n (build_checks ts step) ≡ false
  none-builds n z = none-by n (build_checks ts step) (build-number-is ts step) build-ascending z

-- each is the lowest that applies
pub number-lowest : ScaleLowest
number-lowest s value tofs h = lowest_by (scale_checks s value tofs) (scale-number-is s value tofs) (ascending s value tofs) h

pub build-lowest : BuildLowest
build-lowest ts step h = lowest_by (build_checks ts step) (build-number-is ts step) (build-ascending ts step) h

-- ---- soundness

-- a sound scale in plain numbers
pub record Plain (s : TofScale) : Type 0 where
  pub step-low : 1 ≤ s.tof_step
  pub step-high : s.tof_step ≤ max_step
  pub min-high : s.tof_min ≤ max_tof
  pub max-high : s.tof_max ≤ max_tof
  pub ordered : s.tof_min ≤ s.tof_max
  pub min-multiple : s.tof_min % s.tof_step ≡ 0
  pub max-multiple : s.tof_max % s.tof_step ≡ 0
  pub count : s.num_bins ≡ bin_of s s.tof_max + 1

pub plain : (s : TofScale) → Sound s → Plain s
unfolding sound_step sound_ends agreeing
plain s h =
    let p = both (leb 1 s.tof_step) h.step in
    let e = both (leb s.tof_min max_tof) h.ends in
    let a = all5 (ltb 0 s.tof_step) h.agree in
    record {
      step-low = leb-true 1 s.tof_step p.0;
      step-high = leb-true _ _ p.1;
      min-high = leb-true _ _ e.0;
      max-high = leb-true _ _ e.1;
      ordered = leb-true _ _ a.1;
      min-multiple = eqb-true _ _ a.2;
      max-multiple = eqb-true _ _ a.3;
      count = eqb-true _ _ a.4;
    }

-- from 1 to 4,194,304 bins
pub bins-held : BinsHeld
bins-held s h = let p = plain s h in let d = div-le_self (s.tof_max - s.tof_min) s.tof_step in (omega arith, omega arith)

-- no number applies exactly when the scale is sound and the call's own values are in range
pub no_number : SoundAtZero
no_number s value tofs h =
    let p = both (sound_step s.tof_step) (not-false _ (none-for s value tofs 4 h)) in
    let q = both (sound_ends s) (not-false _ (none-for s value tofs 5 h)) in
    (record { step = p.0; ends = q.0; agree = not-false _ (none-for s value tofs 22 h) }, p.1, q.1)

pub sound-number : ZeroForSound
unfolding scale_number first_of
sound-number s h = rw (h.step, h.ends, h.agree)

-- ---- edges and bins

pub upper-edge : (s : TofScale) (i : ℕ) → edge s (i + 1) ≡ edge s i + s.tof_step
upper-edge s i = let e : (i + 1) * s.tof_step ≡ i * s.tof_step + 1 * s.tof_step = add-mul i 1 s.tof_step in omega arith

pub scale-above : (s : TofScale) (t : ℕ) → in_scale s t ≡ true → s.tof_min ≤ t
scale-above s t b = leb-true s.tof_min t (both (leb s.tof_min t) b).0

bins-rise : (k x y : ℕ) → 0 < k → x ≤ y → x / k ≤ y / k
bins-rise k x y p h = (le-div_iff_mul-le p).1 (let d : x / k * k ≤ x = div-mul-le_self x k in omega arith)

-- every bin's lower edge is at most the highest TOF, and its upper one at most what a peak's bounds may be
pub edge-le : (s : TofScale) → Sound s → (i : ℕ) → i < s.num_bins → edge s i ≤ s.tof_max
edge-le s h i b =
    let p = plain s h in
    let k : i ≤ (s.tof_max - s.tof_min) / s.tof_step = omega arith in
    let m : i * s.tof_step ≤ s.tof_max - s.tof_min = (le-div_iff_mul-le p.step-low).0 k in
    omega arith

pub edges-held : EdgesHeld
edges-held s h i b = let p = plain s h in let e = edge-le s h i b in let u = upper-edge s i in omega arith

-- a row's TOF values are such as number 5 lets pass; its bounds are not reversed, as they stand
pub row-held : RowHeld
unfolding sound_tof
row-held s h i b =
    let p = plain s h in
    let e = edges-held s h i b in
    let u = upper-edge s i in
    rw (
      le-leb (edge s i + (s.tof_step + 1) / 2) max_tof_bound (omega (arith, p.step-low)),
      le-leb (edge s i) max_tof_bound (omega arith),
      le-leb (edge s i + s.tof_step) max_tof_bound (omega arith),
    )

-- the last bin begins at the highest TOF
pub last-edge : LastEdge
last-edge s h =
    let p = plain s h in
    let k = s.tof_step in
    let d = s.tof_max - s.tof_min in
    let z : d % k ≡ 0 = mod-eq-zero_of_dvd k (dvd-sub k (dvd_of_mod-eq-zero k p.max-multiple) (dvd_of_mod-eq-zero k p.min-multiple)) in
    let e : d / k * k + d % k ≡ d = div-add-mod' d k in
    let l : last_bin s ≡ d / k = omega arith in
    rw l (omega arith)

bin-within : (s : TofScale) → Sound s → (t : ℕ) → t ≤ s.tof_max → bin_of s t < s.num_bins
bin-within s h t b =
    let p = plain s h in
    let m = bins-rise s.tof_step (t - s.tof_min) (s.tof_max - s.tof_min) p.step-low (omega arith) in
    omega arith

-- a TOF in the scale has a bin, and stands between its edges
pub bin-below : BinBelow
bin-below s h t b = bin-within s h t (leb-true t s.tof_max (both (leb s.tof_min t) b).1)

pub bin-edges : BinEdges
bin-edges s h t b =
    let p = plain s h in
    let l = scale-above s t b in
    let d : bin_of s t * s.tof_step ≤ t - s.tof_min = div-mul-le_self (t - s.tof_min) s.tof_step in
    let u : t - s.tof_min < (bin_of s t + 1) * s.tof_step = (div-lt_iff_lt-mul p.step-low).0 (omega arith) in
    (omega arith, omega arith)

-- Twice the whole centre of a row is the sum of its edges, which is twice the exact centre, or one more where that sum is
-- odd: the exact centre, a half rounded up, as the Rust's `round` gives it.
pub center-rounded : CenterRounded
center-rounded s i = let u = upper-edge s i in omega arith

-- ---- the window as the Rust has it

module _ (s : TofScale) (h : Sound s) where
  found : (t d : ℕ) → s.tof_min ≤ t → t ≤ s.tof_max → or_else s t d ≡ bin_of s t
  unfolding or_else
  found t d l u = rw (le-leb _ _ l, le-leb _ _ u, lt-ltb _ _ (bin-within s h t u))

  between : (lo hi : ℕ) → lo ≤ hi → window_between s lo hi ≡ rust_between s lo hi
  between lo hi o = go (leb hi s.tof_min) (leb s.tof_max lo) refl refl
    where
      go : (p q : Bool) → leb hi s.tof_min ≡ p → leb s.tof_max lo ≡ q → window_between s lo hi ≡ rust_between s lo hi
      go true q ep eq = rw ep
      go false true ep eq = rw (ep, eq)
      go false false ep eq =
          let f = plain s h in
          let a = leb-false hi s.tof_min ep in
          let b = leb-false s.tof_max lo eq in
          let l = max lo s.tof_min in
          let u = min hi s.tof_max in
          let i : or_else s l 0 ≡ bin_of s l = found l 0 (omega arith) (omega arith) in
          let j : or_else s u (last_bin s) ≡ bin_of s u = found u (last_bin s) (omega arith) (omega arith) in
          let r : bin_of s l ≤ bin_of s u = bins-rise s.tof_step (l - s.tof_min) (u - s.tof_min) f.step-low (omega arith) in
          let m : min (bin_of s l) (bin_of s u) ≡ bin_of s l = omega arith in
          let n : max (bin_of s u) (bin_of s l) ≡ bin_of s u = omega arith in
          rw (ep, eq, i, j, m, n)

-- none of what stands for none is ever reached, and the two bins come in order
pub window-is-rusts : WindowIsRusts
unfolding window_bins rust_window
window-is-rusts s h a b = go (leb a b) refl
  where
    go : (o : Bool) → leb a b ≡ o → window_bins s a b ≡ cond o (rust_between s a b) (rust_between s b a)
    go true e =
        let o = leb-true a b e in
        let l : min a b ≡ a = omega arith in
        let u : max a b ≡ b = omega arith in
        rw (l, u) (between s h a b o)
    go false e =
        let o = leb-false a b e in
        let l : min a b ≡ b = omega arith in
        let u : max a b ≡ a = omega arith in
        rw (l, u) (between s h b a (omega arith))

-- ---- a scale of TOF values

rounded-is : (step t : ℕ) → rounded step t ≡ t / step * step
rounded-is step t = let e : t / step * step + t % step ≡ t = div-add-mod' t step in omega arith

pub rounded-rise : (step lo hi : ℕ) → 0 < step → lo ≤ hi → rounded step lo ≤ rounded step hi
rounded-rise step lo hi p h = rw (rounded-is step lo, rounded-is step hi) (mul-le-mul_right step (bins-rise step lo hi p h))

rounded-multiple : (step t : ℕ) → rounded step t % step ≡ 0
rounded-multiple step t = rw (rounded-is step t) (mul-mod_left (t / step) step)

-- a limit holds for all values when it holds for the highest
max-leb : (a b limit : ℕ) → (leb a limit && leb b limit) ≡ leb (max a b) limit
max-leb a b limit = go (leb a limit) (leb b limit) refl refl
  where
    go : (p q : Bool) → leb a limit ≡ p → leb b limit ≡ q → (leb a limit && leb b limit) ≡ leb (max a b) limit
    go false q ep eq = let h = leb-false a limit ep in rw (ep, lt-leb (max a b) limit (omega arith))
    go true false ep eq = let h = leb-false b limit eq in rw (ep, eq, lt-leb (max a b) limit (omega arith))
    go true true ep eq =
        let h = leb-true a limit ep in let k = leb-true b limit eq in rw (ep, eq, le-leb (max a b) limit (omega arith))

pub up-to-highest : (limit : ℕ) (ts : List ℕ) → all_up_to limit ts ≡ leb (highest_tof ts) limit
unfolding all_up_to highest_tof
up-to-highest limit [] = sym (le-leb 0 limit (omega arith))
up-to-highest limit (t ∷ ts) = rw (up-to-highest limit ts) (max-leb t (highest_tof ts) limit)

bounds : (ts : List ℕ) (i : ℕ) → i < length ts → (lowest_tof ts ≤ get_or ts i 0) × (get_or ts i 0 ≤ highest_tof ts)
unfolding lowest_tof highest_tof
bounds [] i h = absurd (omega arith)
bounds (t ∷ ts) zero h = (omega arith, omega arith)
bounds (t ∷ ts) (suc i) h = let r = bounds ts i (omega arith) in (omega arith, omega arith)

-- there is no scale exactly where any two values are one
pub no-scale-one : OneValue
no-scale-one ts h i j a b = let p = bounds ts i a in let q = bounds ts j b in omega arith

same : (v : ℕ) (ts : List ℕ) → v ≤ max_tof → ((i : ℕ) → i < length ts → get_or ts i 0 ≡ v) → (highest_tof ts ≤ v) × (v ≤ lowest_tof ts)
unfolding lowest_tof highest_tof
same v [] u h = (omega arith, omega arith)
same v (t ∷ ts) u h =
    let e : t ≡ v = h 0 (omega arith) in
    let r = same v ts u (λ (i : ℕ) (k : i < length ts). h (suc i) (omega arith)) in
    (omega arith, omega arith)

pub one-no-scale : NoScale
unfolding lowest_tof highest_tof
one-no-scale [] u h = omega arith
one-no-scale (t ∷ ts) u h =
    let k : highest_tof (t ∷ ts) ≤ max_tof = leb-true _ _ (sym (up-to-highest max_tof (t ∷ ts)) ∙ u) in
    let r = same t (t ∷ ts) (omega arith) (λ (i : ℕ) (l : i < length (t ∷ ts)). h i 0 l (omega arith)) in
    omega arith

pub step-above : (step : ℕ) → sound_step step ≡ true → 0 < step
unfolding sound_step
step-above step p = leb-true 1 step (both (leb 1 step) p).0

scale-sound : (lo hi step : ℕ) → sound_step step ≡ true → lo ≤ hi → hi ≤ max_tof → Sound (scale_of lo hi step)
unfolding scale_of sound_ends agreeing
scale-sound lo hi step p o u =
    let k = step-above step p in
    record {
      step = p;
      ends = rw (le-leb (rounded step lo) max_tof (omega arith), le-leb (rounded step hi) max_tof (omega arith));
      agree =
          rw (
            lt-ltb 0 step k,
            le-leb (rounded step lo) (rounded step hi) (rounded-rise step lo hi k o),
            eq-eqb _ _ (rounded-multiple step lo),
            eq-eqb _ _ (rounded-multiple step hi),
            eq-eqb ((rounded step hi - rounded step lo) / step + 1) _ refl,
          );
    }

-- a scale that is built is sound, so that no entry refuses it for its numbers
pub built-sound : BuiltSound
unfolding build_answer
built-sound tofs step s h = go (ltb (lowest_tof tofs) (highest_tof tofs)) refl (ap (λ (a : Says (Option TofScale)). a.values) h)
  where
    n : build_number tofs step ≡ 0
    n = ap (λ (a : Says (Option TofScale)). a.number) h

    go : (d : Bool) → ltb (lowest_tof tofs) (highest_tof tofs) ≡ d
        → cond (eqb (build_number tofs step) 0) (some (cond d (Some (scale_of (lowest_tof tofs) (highest_tof tofs) step)) None)) none ≡ some (Some s) → Sound s
    go true e v =
        let o : lowest_tof tofs < highest_tof tofs = ltb-true _ _ e in
        let u : highest_tof tofs ≤ max_tof = leb-true _ _ (sym (up-to-highest max_tof tofs) ∙ not-false _ (none-builds tofs step 5 n)) in
        let w : some (Some (scale_of (lowest_tof tofs) (highest_tof tofs) step)) ≡ some (Some s) = rw n at v in
        let k : scale_of (lowest_tof tofs) (highest_tof tofs) step ≡ s = cc in
        subst Sound k (scale-sound (lowest_tof tofs) (highest_tof tofs) step (not-false _ (none-builds tofs step 4 n)) (omega arith) u)
    go false e v = let w : ◌≡◌ {A = Values (Option TofScale)} (some None) (some (Some s)) = rw n at v in cc
