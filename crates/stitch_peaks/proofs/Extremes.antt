-- The lowest and the highest value of a field: no peak goes beyond it, some peak has it, and of groups it is that of all.
use mathlib.Core.Path.{◌≡◌, refl, sym, ◌∙◌}
use mathlib.Core.Bool.{Bool, true, false}
use mathlib.Core.List.{List, [], ◌∷◌, ◌++◌, map, flatten, append-nil, foldl, foldl-append, Memᴰ}
use mathlib.Core.Logic.{◌⊎◌, inl, inr, ⊎_elim}
use Prim.Native.Nat.{ℕ, ◌≤◌, min, max}
use native.Mathlib.Nat.{min-eq_left, min-eq_right, max-eq_left, max-eq_right}
use native.Mathlib.Omega.{arith}
use borrow.Author.Tests.{ltb-true, ltb-false}
use lib.Dec.{ltb}
use Rattle.refusal.proofs.Bools.{clash}
use Rattle.row_record.specs.declared.ImPeak1D.{ImPeak1D}
use Rattle.stitch_peaks.specs.Extremes.{extreme, is_any, AllAny, Has, LowestBelow, LowestOne, HighestAbove, HighestOne}

-- ---- extremes, the lowest and the highest alike

-- A choice of one of two numbers: it goes before both, in the sense of an order, and further choices may be made in any grouping.
pub record Choice (pick : ℕ → ℕ → ℕ) (Before : ℕ → ℕ → Type 0) : Type 0 where
  pub first : (a b : ℕ) → Before (pick a b) a
  pub second : (a b : ℕ) → Before (pick a b) b
  pub same : (a : ℕ) → Before a a
  pub chain : (a b c : ℕ) → Before a b → Before b c → Before a c
  pub either : (a b : ℕ) → (pick a b ≡ a) ⊎ (pick a b ≡ b)
  pub grouped : (a b c : ℕ) → pick (pick a b) c ≡ pick a (pick b c)

any_append : (ps qs : List ImPeak1D) → is_any ps ≡ true → is_any (ps ++ qs) ≡ true
unfolding is_any
any_append [] qs h = clash false h refl
any_append (p ∷ ps) qs h = refl

module _ (pick : ℕ → ℕ → ℕ) (Before : ℕ → ℕ → Type 0) (choice : Choice pick Before) (f : ImPeak1D → ℕ) where
  from-two : (a b : ℕ) (ps : List ImPeak1D) → foldl (λ so q. pick so (f q)) (pick a b) ps ≡ pick a (foldl (λ so q. pick so (f q)) b ps)
  from-two a b [] = refl
  from-two a b (p ∷ ps) = rw (choice.grouped a b (f p)) (from-two a (pick b (f p)) ps)

  pub extreme-cons : (p q : ImPeak1D) (ps : List ImPeak1D) → extreme pick f (p ∷ q ∷ ps) ≡ pick (f p) (extreme pick f (q ∷ ps))
  unfolding extreme
  extreme-cons p q ps = from-two (f p) (f q) ps

  extreme-append : (ps qs : List ImPeak1D) → is_any ps ≡ true → is_any qs ≡ true → extreme pick f (ps ++ qs) ≡ pick (extreme pick f ps) (extreme pick f qs)
  unfolding extreme is_any
  extreme-append [] qs h k = clash false h refl
  extreme-append (p ∷ ps) [] h k = clash false k refl
  extreme-append (p ∷ ps) (q ∷ qs) h k = foldl-append (λ so r. pick so (f r)) (f p) ps (q ∷ qs) ∙ from-two (foldl (λ so r. pick so (f r)) (f p) ps) (f q) qs

  extreme-before : (p : ImPeak1D) (ps : List ImPeak1D) → Memᴰ p ps → Before (extreme pick f ps) (f p)
  unfolding extreme
  extreme-before p [] m = absurd (mathlib.Core.List.Memᴰ.not-nil m)
  extreme-before p (q ∷ []) m = rw (mathlib.Core.List.Memᴰ.eq_of_singleton m) (choice.same (f q))
  extreme-before p (q ∷ r ∷ ps) m =
      let rest = extreme pick f (r ∷ ps) in
      let later : Memᴰ p (r ∷ ps) → Before (pick (f q) rest) (f p) = λ n. choice.chain (pick (f q) rest) rest (f p) (choice.second (f q) rest) (extreme-before p (r ∷ ps) n) in
      rw (extreme-cons q r ps) (⊎_elim (λ (e : p ≡ q). rw e (choice.first (f q) rest)) later (mathlib.Core.List.Memᴰ.cases_cons m))

  one-cons : (p q : ImPeak1D) (ps : List ImPeak1D) → Has f (extreme pick f (q ∷ ps)) (q ∷ ps)
      → (pick (f p) (extreme pick f (q ∷ ps)) ≡ f p) ⊎ (pick (f p) (extreme pick f (q ∷ ps)) ≡ extreme pick f (q ∷ ps))
      → Has f (extreme pick f (p ∷ q ∷ ps)) (p ∷ q ∷ ps)
  one-cons p q ps rest (inl e) = record { peak = p; member = mathlib.Core.List.Memᴰ.head refl; value = extreme-cons p q ps ∙ e }
  one-cons p q ps rest (inr e) = record { peak = rest.peak; member = mathlib.Core.List.Memᴰ.tail rest.member; value = extreme-cons p q ps ∙ e ∙ rest.value }

  extreme-one : (ps : List ImPeak1D) → is_any ps ≡ true → Has f (extreme pick f ps) ps
  unfolding extreme is_any
  extreme-one [] h = clash false h refl
  extreme-one (p ∷ []) h = record { peak = p; member = mathlib.Core.List.Memᴰ.head refl; value = refl }
  extreme-one (p ∷ q ∷ ps) h = one-cons p q ps (extreme-one (q ∷ ps) refl) (choice.either (f p) (extreme pick f (q ∷ ps)))

  -- groups of which each has been made one peak that has the group's extreme
  pub extreme-groups : (one : List ImPeak1D → ImPeak1D) → ((ps : List ImPeak1D) → f (one ps) ≡ extreme pick f ps)
      → (gs : List (List ImPeak1D)) → AllAny gs → extreme pick f (map one gs) ≡ extreme pick f (flatten gs)
  unfolding extreme flatten
  extreme-groups one has [] h = refl
  extreme-groups one has (g ∷ []) h = rw append-nil (has g)
  extreme-groups one has (g ∷ k ∷ gs) h =
      let rest : AllAny (k ∷ gs) = λ l m. h l (mathlib.Core.List.Memᴰ.tail m) in
      extreme-cons (one g) (one k) (map one gs) ∙ rw (has g, extreme-groups one has (k ∷ gs) rest) (sym (extreme-append g (k ++ flatten gs) (h g (mathlib.Core.List.Memᴰ.head refl)) (any_append k (flatten gs) (h k (mathlib.Core.List.Memᴰ.tail (mathlib.Core.List.Memᴰ.head refl))))))

order : (a b : ℕ) → (a ≤ b) ⊎ (b ≤ a)
order a b = go (ltb a b) refl
  where
    go : (t : Bool) → ltb a b ≡ t → (a ≤ b) ⊎ (b ≤ a)
    go true e = inl (omega (arith, ltb-true a b e))
    go false e = inr (ltb-false a b e)

pub lowest-choice : Choice min (λ a b. a ≤ b)
lowest-choice = record {
  first = λ a b. omega arith;
  second = λ a b. omega arith;
  same = λ a. omega arith;
  chain = λ a b c p q. omega arith;
  either = λ a b. ⊎_elim (λ (h : a ≤ b). inl (min-eq_left h)) (λ (h : b ≤ a). inr (min-eq_right h)) (order a b);
  grouped = λ a b c. omega arith;
}

pub highest-choice : Choice max (λ a b. b ≤ a)
highest-choice = record {
  first = λ a b. omega arith;
  second = λ a b. omega arith;
  same = λ a. omega arith;
  chain = λ a b c p q. omega arith;
  either = λ a b. ⊎_elim (λ (h : a ≤ b). inr (max-eq_right h)) (λ (h : b ≤ a). inl (max-eq_left h)) (order a b);
  grouped = λ a b c. omega arith;
}

-- No member is below the lowest, some member has it, and of two lists together it is the lower of the two; likewise the highest.
pub lowest-below : LowestBelow
lowest-below f p ps m = extreme-before min _ lowest-choice f p ps m

pub lowest-one : LowestOne
lowest-one f ps h = extreme-one min _ lowest-choice f ps h

pub highest-above : HighestAbove
highest-above f p ps m = extreme-before max _ highest-choice f p ps m

pub highest-one : HighestOne
highest-one f ps h = extreme-one max _ highest-choice f ps h

-- one more peak
pub extreme-join : (pick : ℕ → ℕ → ℕ) (f : ImPeak1D → ℕ) (ps : List ImPeak1D) (p : ImPeak1D) → is_any ps ≡ true
    → extreme pick f (ps ++ (p ∷ [])) ≡ pick (extreme pick f ps) (f p)
unfolding extreme is_any
extreme-join pick f [] p h = clash false h refl
extreme-join pick f (q ∷ ps) p h = foldl-append (λ so q. pick so (f q)) (f q) ps (p ∷ [])
