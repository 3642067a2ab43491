-- One step of each loop of `choose`, and nearness without a branch.
use mathlib.Core.Path.{◌≡◌, refl, sym, ◌∙◌, ap, subst}
use mathlib.Core.Bool.{Bool, true, false, cond}
use mathlib.Core.List.{List, [], ◌∷◌, ◌++◌}
use Prim.Native.Nat.{ℕ, zero, suc, ◌≤◌, ◌<◌, ◌+◌, ◌*◌}
use native.Mathlib.Omega.{arith}
use native.Mathlib.Numerals.{add-one}
use native.Mathlib.Nat.{zero-add, zero-mul, mul-pos}
use borrow.Author.Tests.{eqb-true, eqb-false, ltb-false, le-ltb}
use lib.Dec.{eqb, ltb}
use lib.IntN.{ℤ}
use lib.Ieee.{Float, nan, inf, fin, lt, neg, is_nan, up, down}
use lib.Ieee.Fits.{down_pos}
use Rattle.numeric.specs.Numeric.{abs_f, max_f}
use lib.ListN.{length, get_or, drop, take, set, length-append, drop_of_length-le}
use lib.Seq.{drop-cons, take_at, take_all, get_or-set_same, get_or-set_other}
use Rattle.rt_choice.specs.Chosen.{near_any, choose, choose_all, chosen}
use Rattle.rt_choice.proofs.ChosenLaws.{choose-near, choose-far, chosen-next}
use Rattle.numeric.proofs.Lists.{push}

module _ (near : ℕ → ℕ → Bool) where
  module _ (p b : ℕ) (ks : List ℕ) (h : b < length ks) where
    rest : drop b ks ≡ get_or ks b 0 ∷ drop (b + 1) ks
    rest = rw add-one (drop-cons ks b 0 h)

    pub near_step : near p (get_or ks b 0) ≡ false → near_any near p (drop b ks) ≡ near_any near p (drop (b + 1) ks)
    unfolding near_any
    near_step f = ap (near_any near p) rest ∙ rw f

    pub near-hit : near p (get_or ks b 0) ≡ true → near_any near p (drop b ks) ≡ true
    unfolding near_any
    near-hit f = ap (near_any near p) rest ∙ rw f

  pub near_none : (p b : ℕ) (ks : List ℕ) → length ks ≤ b → near_any near p (drop b ks) ≡ false
  unfolding near_any
  near_none p b ks h = rw (drop_of_length-le ks {i = b} h)

  module _ (order : List ℕ) where
    -- what is chosen among the first a stands at the front of the list d, and there are n of them
    pub record Upto (d : List ℕ) (a : ℕ) (out : List ℕ) (n : ℕ) : Type 0 where
      pub count : n ≡ length (chosen near (take a order))
      pub front : out ≡ chosen near (take a order) ++ drop n d

    pub upto-none : (d : List ℕ) → Upto d 0 d 0
    unfolding choose_all
    upto-none d = record { count = refl; front = refl }

    module _ (d out : List ℕ) (a n : ℕ) (u : Upto d a out n) (within : a < length order) where
      front : take n out ≡ chosen near (take a order)
      front = ap (take n) u.front ∙ take_at (chosen near (take a order)) (drop n d) n (sym u.count)

      next : chosen near (take (a + 1) order) ≡ choose near (chosen near (take a order)) (get_or order a 0)
      next = ap (λ (k : ℕ). chosen near (take k order)) (add-one a) ∙ chosen-next near order a within

      pub upto_skip : near_any near (get_or order a 0) (take n out) ≡ true → Upto d (a + 1) out n
      upto_skip f =
          let g : near_any near (get_or order a 0) (chosen near (take a order)) ≡ true = sym (ap (near_any near (get_or order a 0)) front) ∙ f in
          let e : chosen near (take (a + 1) order) ≡ chosen near (take a order) = next ∙ choose-near near (chosen near (take a order)) (get_or order a 0) g in
          record { count = rw e u.count; front = rw e u.front }

      pub upto_take : near_any near (get_or order a 0) (take n out) ≡ false → n < length d → Upto d (a + 1) (set out n (get_or order a 0)) (n + 1)
      upto_take f l =
          let v = get_or order a 0 in
          let ks = chosen near (take a order) in
          let g : near_any near v ks ≡ false = sym (ap (near_any near v) front) ∙ f in
          let e : chosen near (take (a + 1) order) ≡ ks ++ (v ∷ []) = next ∙ choose-far near ks v g in
          record {
            count = rw (e, length-append) (omega (arith, u.count));
            front = ap (λ (o : List ℕ). set o n v) u.front ∙ push ks d n v (sym u.count) l ∙ ap (λ (o : List ℕ). o ++ drop (n + 1) d) (sym e);
          }

    pub upto_all : (d : List ℕ) (a : ℕ) (out : List ℕ) (n : ℕ) → length order ≤ a → Upto d a out n
        → (n ≡ length (chosen near order)) × (out ≡ chosen near order ++ drop n d)
    upto_all d a out n h u = let e : take a order ≡ order = take_all a order h in (rw e at u.count, rw e at u.front)

-- every place of the list's front stays below m
pub below_set : (m n v : ℕ) (out : List ℕ) → n < length out → v < m → ((b : ℕ) → b < n → get_or out b 0 < m) → (b : ℕ) → b < n + 1 → get_or (set out n v) b 0 < m
below_set m n v out l h f b k = go (eqb b n) refl
  where
    go : (e : Bool) → eqb b n ≡ e → get_or (set out n v) b 0 < m
    go true e = subst (λ (i : ℕ). get_or (set out n v) i 0 < m) (sym (eqb-true b n e)) (subst (λ (x : ℕ). x < m) (sym (get_or-set_same out n v 0 l)) h)
    go false e = subst (λ (x : ℕ). x < m) (sym (get_or-set_other out n b v 0 (eqb-false b n e))) (f b (let ne : b ≡ n → ⊥ = eqb-false b n e in omega arith))

-- ---- a distance is the higher of the difference and its opposite; only which zero it is may differ

no_size : (m : ℕ) (e k : ℤ) → m * up e * down e + m * up e * down e ≤ 0 → m * up e * down k ≡ 0
no_size m e k h = go (m * up e) refl
  where
    go : (a : ℕ) → m * up e ≡ a → m * up e * down k ≡ 0
    go zero q = rw q (zero-mul (down k))
    go (suc a) q =
        let p : 0 < suc a * down e = mul-pos {m = suc a} (omega arith) (down_pos e) in
        let r : suc a * down e + suc a * down e ≤ 0 = rw q at h in
        absurd (omega arith)

-- a minus with no size is below whatever a plus is
either-zero : (m : ℕ) (e : ℤ) (sep : Float) → m * up e * down e + m * up e * down e ≤ 0 → lt (fin false m e) sep ≡ lt (fin true m e) sep
unfolding lt
either-zero m e nan h = refl
either-zero m e (inf t) h = refl
either-zero m e (fin false n k) h = let z = no_size m e k h in rw (z, zero-add)
either-zero m e (fin true n k) h = let z = no_size m e k h in rw z (sym (le-ltb (n * up k * down e) 0 (omega arith)))

pub higher-side : (d sep : Float) → lt (abs_f d) sep ≡ lt (max_f d (neg d)) sep
unfolding lt neg abs_f max_f is_nan
higher-side nan sep = refl
higher-side (inf true) sep = refl
higher-side (inf false) sep = refl
higher-side (fin false m e) sep = refl
higher-side (fin true m e) sep = go (ltb 0 (m * up e * down e + m * up e * down e)) refl
  where
    go : (b : Bool) → ltb 0 (m * up e * down e + m * up e * down e) ≡ b → lt (fin false m e) sep ≡ lt (cond b (fin false m e) (fin true m e)) sep
    go true h = refl
    go false h = either-zero m e sep (ltb-false 0 (m * up e * down e + m * up e * down e) h)
