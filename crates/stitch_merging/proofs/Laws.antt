-- What one more peak does to the definitions.
use mathlib.Core.Path.{◌≡◌, refl, ap, sym}
use mathlib.Core.Bool.{Bool, true, false, cond, ◌&&◌, ◌||◌}
use mathlib.Core.List.{List, [], ◌∷◌, ◌++◌, append-nil, foldl-append}
use lib.Ieee.{Float}
use Rattle.std.specs.Bool.{then_some}
use Rattle.std.specs.Option.{option_or}
use Rattle.std.specs.Prelude.{Some, None}
use Rattle.std.proofs.lemmas.Option.{none-some, same_Some}
use Rattle.numeric.specs.Arith.{◌⊕◌, ◌⊗◌, ◌⊘◌, 𝟎, 𝟏}
use Rattle.numeric.specs.Numeric.{max_f}
use Rattle.row_record.specs.Record.{has_sigma}
use Rattle.row_record.specs.declared.ImPeak1D.{ImPeak1D}
use Rattle.stitch_peaks.specs.Extremes.{is_any}
use Rattle.stitch_merging.specs.declared.inner.SigmaSums.{SigmaSums}
use Rattle.stitch_merging.specs.Merging.{highest_f, summed, weight, having, have_all, first_of}
use Rattle.stitch_merging.specs.Walk.{sigma_of}
use Rattle.std.proofs.Math.Bool.{and_assoc, and-true}

-- ---- heights and sums
pub highest-join : (f : ImPeak1D → Float) (ps : List ImPeak1D) (p : ImPeak1D) → highest_f f (ps ++ (p ∷ [])) ≡ max_f (highest_f f ps) (f p)
unfolding highest_f
highest-join f ps p = foldl-append _ _ ps (p ∷ [])

pub sum-join : (f : ImPeak1D → Float) (ps : List ImPeak1D) (p : ImPeak1D) → summed f (ps ++ (p ∷ [])) ≡ summed f ps ⊕ f p
unfolding summed
sum-join f ps p = foldl-append _ _ ps (p ∷ [])

-- ---- peaks that have something
pub having-join : (has : ImPeak1D → Bool) (ps : List ImPeak1D) (p : ImPeak1D) → having has (ps ++ (p ∷ [])) ≡ having has ps ++ cond (has p) (p ∷ []) []
unfolding having
having-join has [] p = refl
having-join has (q ∷ ps) p = go (has q) (having has (ps ++ (p ∷ []))) (cond (has p) (p ∷ []) []) (having-join has ps p)
  where
    go : (b : Bool) (l m : List ImPeak1D) → l ≡ having has ps ++ m → cond b (q ∷ l) l ≡ cond b (q ∷ having has ps) (having has ps) ++ m
    go true l m e = ap (λ l. q ∷ l) e
    go false l m e = e

pub any-join : (ps : List ImPeak1D) (p : ImPeak1D) → is_any (ps ++ (p ∷ [])) ≡ true
unfolding is_any
any-join [] p = refl
any-join (q ∷ ps) p = refl

pub all_join : (has : ImPeak1D → Bool) (ps : List ImPeak1D) (p : ImPeak1D) → have_all has (ps ++ (p ∷ [])) ≡ (have_all has ps && has p)
unfolding have_all
all_join has [] p = and-true (has p)
all_join has (q ∷ ps) p = rw (all_join has ps p) (sym (and_assoc (has q) (have_all has ps) (has p)))

pub first-join : {A : Type 0} (none : A) (f : ImPeak1D → A) (ps qs : List ImPeak1D) → first_of none f (ps ++ qs) ≡ cond (is_any ps) (first_of none f ps) (first_of none f qs)
unfolding first_of is_any
first-join none f [] qs = refl
first-join none f (p ∷ ps) qs = refl

-- ---- the fields that may be missing, as the code has them
pub any-having : (has : ImPeak1D → Bool) (ps : List ImPeak1D) (p : ImPeak1D)
    → is_any (having has (ps ++ (p ∷ []))) ≡ (is_any (having has ps) || has p)
unfolding is_any
any-having has ps p = rw (having-join has ps p) (go (having has ps) (has p))
  where
    go : (l : List ImPeak1D) (b : Bool) → is_any (l ++ cond b (p ∷ []) []) ≡ (is_any l || b)
    go [] true = refl
    go [] false = refl
    go (q ∷ l) b = refl

pub first-having : {A : Type 0} (none : A) (f : ImPeak1D → A) (has : ImPeak1D → Bool) (ps : List ImPeak1D) (p : ImPeak1D)
    → first_of none f (having has (ps ++ (p ∷ [])))
    ≡ cond (is_any (having has ps)) (first_of none f (having has ps)) (cond (has p) (f p) none)
unfolding first_of
first-having none f has ps p = rw (having-join has ps p, first-join none f (having has ps) (cond (has p) (p ∷ []) [])) (ap (λ a. cond (is_any (having has ps)) (first_of none f (having has ps)) a) (go (has p)))
  where
    go : (b : Bool) → first_of none f (cond b (p ∷ []) []) ≡ cond b (f p) none
    go true = refl
    go false = refl

-- the same for a lone peak
module _ (has : ImPeak1D → Bool) (p : ImPeak1D) where
  pub any-having-one : is_any (having has (p ∷ [])) ≡ has p
  unfolding having is_any
  any-having-one = any-having has [] p

  pub first-having-one : {A : Type 0} (none : A) (f : ImPeak1D → A) → first_of none f (having has (p ∷ [])) ≡ cond (has p) (f p) none
  unfolding having is_any
  first-having-one none f = first-having none f has [] p

-- ---- the sums for the scan sigma

-- one more peak that has a scan sigma
pub sigma-more : (ps : List ImPeak1D) (p : ImPeak1D) (x : Float) → then_some (has_sigma p) p.scan_sigma ≡ Some x
    → record { weight = (sigma_of ps).weight ⊕ weight p; sigma = (sigma_of ps).sigma ⊕ x ⊗ weight p } ≡ sigma_of (ps ++ (p ∷ []))
unfolding sigma_of
sigma-more ps p x e = rw (having-join has_sigma ps p) (go (has_sigma p) (having has_sigma ps) e)
  where
    go : (b : Bool) (l : List ImPeak1D) → then_some b p.scan_sigma ≡ Some x
        → ◌≡◌ {A = SigmaSums} (record { weight = summed weight l ⊕ weight p; sigma = summed (λ q. q.scan_sigma ⊗ weight q) l ⊕ x ⊗ weight p })
        (record { weight = summed weight (l ++ cond b (p ∷ []) []); sigma = summed (λ q. q.scan_sigma ⊗ weight q) (l ++ cond b (p ∷ []) []) })
    go true l k = rw (← same_Some _ _ k, sum-join weight l p, sum-join (λ q. q.scan_sigma ⊗ weight q) l p) refl
    go false l k = absurd (none-some _ k)

-- one more that has none
pub sigma-same : (ps : List ImPeak1D) (p : ImPeak1D) → then_some (has_sigma p) p.scan_sigma ≡ None → sigma_of ps ≡ sigma_of (ps ++ (p ∷ []))
unfolding sigma_of
sigma-same ps p e = rw (having-join has_sigma ps p) (go (has_sigma p) (having has_sigma ps) e)
  where
    go : (b : Bool) (l : List ImPeak1D) → then_some b p.scan_sigma ≡ None
        → ◌≡◌ {A = SigmaSums} (record { weight = summed weight l; sigma = summed (λ q. q.scan_sigma ⊗ weight q) l })
        (record { weight = summed weight (l ++ cond b (p ∷ []) []); sigma = summed (λ q. q.scan_sigma ⊗ weight q) (l ++ cond b (p ∷ []) []) })
    go true l k = absurd (none-some _ (sym k))
    go false l k = rw append-nil refl

-- the mean's divisor where its sum of weights is above 0
pub divided : (b : Bool) (x w : Float) → cond b (x ⊘ cond b w 𝟏) 𝟎 ≡ cond b (x ⊘ w) 𝟎
divided true x w = refl
divided false x w = refl

-- ---- the mobility and the group, as values that may be missing
pub then-chosen : {A : Type 0} (b : Bool) (x none : A) → then_some b (cond b x none) ≡ then_some b x
then-chosen true x none = refl
then-chosen false x none = refl

pub or_then : (a b : Bool) (x y : Float) → option_or (then_some a x) (then_some b y) ≡ then_some (a || b) (cond a x (cond b y 𝟎))
or_then true b x y = refl
or_then false true x y = refl
or_then false false x y = refl

-- the first of none is none
pub first-none : {A : Type 0} (none : A) (f : ImPeak1D → A) (ps : List ImPeak1D) → cond (is_any ps) (first_of none f ps) none ≡ first_of none f ps
unfolding is_any first_of
first-none none f [] = refl
first-none none f (p ∷ ps) = refl
