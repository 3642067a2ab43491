-- Apexes that are known by their places in a table: what is made of the places is made of the apexes.
use mathlib.Core.Path.{◌≡◌, refl, ◌∙◌, ap}
use mathlib.Core.Bool.{Bool, true, false, cond}
use mathlib.Core.List.{List, [], ◌∷◌, ◌++◌, map}
use mathlib.Core.List.Memᴰ.{head as here}
use Prim.Native.Nat.{ℕ}
use Rattle.sort_digits.specs.Sorted.{lex_lt, inserted, sorted_by}
use Rattle.sort_digits.proofs.SortedLaws.{sort-given}
use Rattle.row_search.specs.Account.{All}
use Rattle.rt_choice.specs.Chosen.{Each, near_any, choose, choose_all, chosen, passing}
use Rattle.rt_choice.specs.Ranking.{inserted_by, ordered_by}
use Rattle.row_search.proofs.Account.{all_none, all_cons, all_tail}

-- f p is the apex at place p
module _ (f : ℕ → ℕ) where
  map-append : (a b : List ℕ) → map f (a ++ b) ≡ map f a ++ map f b
  map-append [] b = refl
  map-append (i ∷ a) b = ap (λ (l : List ℕ). f i ∷ l) (map-append a b)

  -- ---- a test
  pub map-passing : (own test : ℕ → Bool) (ps : List ℕ) → All (λ p. own p ≡ test (f p)) ps → map f (passing own ps) ≡ passing test (map f ps)
  unfolding passing
  map-passing own test [] h = refl
  map-passing own test (p ∷ ps) h = go (test (f p)) (h p (here refl)) (map-passing own test ps (all_tail (λ q. own q ≡ test (f q)) p ps h))
    where
      go : (b : Bool) → own p ≡ b → map f (passing own ps) ≡ passing test (map f ps)
          → map f (cond (own p) (p ∷ passing own ps) (passing own ps)) ≡ cond b (f p ∷ passing test (map f ps)) (passing test (map f ps))
      go true e r = rw e (ap (λ (l : List ℕ). f p ∷ l) r)
      go false e r = rw e r

  -- ---- the choice
  module _ (own near : ℕ → ℕ → Bool) (P : ℕ → Type 0) (same : (p q : ℕ) → P p → P q → own p q ≡ near (f p) (f q)) where
    near_same : (p : ℕ) (ks : List ℕ) → P p → All P ks → near_any own p ks ≡ near_any near (f p) (map f ks)
    unfolding near_any
    near_same p [] h g = refl
    near_same p (k ∷ ks) h g = rw (same p k h (g k (here refl)), near_same p ks h (all_tail P k ks g))

    choose-same : (ks : List ℕ) (p : ℕ) → P p → All P ks → map f (choose own ks p) ≡ choose near (map f ks) (f p)
    unfolding choose
    choose-same ks p h g = go (near_any near (f p) (map f ks)) (near_same p ks h g)
      where
        go : (b : Bool) → near_any own p ks ≡ b → map f (cond (near_any own p ks) ks (ks ++ (p ∷ []))) ≡ cond b (map f ks) (map f ks ++ (f p ∷ []))
        go true e = rw e
        go false e = rw e (map-append ks (p ∷ []))

    choose-all : (ks : List ℕ) (p : ℕ) → P p → All P ks → All P (choose own ks p)
    unfolding choose
    choose-all ks p h g = go (near_any own p ks)
      where
        go : (b : Bool) → All P (cond b ks (ks ++ (p ∷ [])))
        go true = g
        go false = joined ks g
          where
            joined : (l : List ℕ) → All P l → All P (l ++ (p ∷ []))
            joined [] a = all_cons P p [] h (all_none P)
            joined (x ∷ l) a = all_cons P x (l ++ (p ∷ [])) (a x (here refl)) (joined l (all_tail P x l a))

    map-choose : (ks ps : List ℕ) → All P ks → All P ps → map f (choose_all own ks ps) ≡ choose_all near (map f ks) (map f ps)
    unfolding choose_all
    map-choose ks [] g h = refl
    map-choose ks (p ∷ ps) g h =
        let q : P p = h p (here refl) in
        map-choose (choose own ks p) ps (choose-all ks p q g) (all_tail P p ps h)
        ∙ ap (λ (l : List ℕ). choose_all near l (map f ps)) (choose-same ks p q g)

    pub map-chosen : (ps : List ℕ) → All P ps → map f (chosen own ps) ≡ chosen near (map f ps)
    map-chosen ps h = map-choose [] ps (all_none P) h

  -- ---- the order: a stable sort by keys is that by a comparison, if the two agree on each place and those behind it
  module _ (key : ℕ → List ℕ) (first : ℕ → ℕ → Bool) where
    map-inserted : (p : ℕ) (qs : List ℕ) → All (λ q. lex_lt (key q) (key p) ≡ first (f q) (f p)) qs → map f (inserted key p qs) ≡ inserted_by first (f p) (map f qs)
    unfolding inserted inserted_by
    map-inserted p [] h = refl
    map-inserted p (q ∷ qs) h = go (first (f q) (f p)) (h q (here refl)) (map-inserted p qs (all_tail (λ q. lex_lt (key q) (key p) ≡ first (f q) (f p)) q qs h))
      where
        go : (b : Bool) → lex_lt (key q) (key p) ≡ b → map f (inserted key p qs) ≡ inserted_by first (f p) (map f qs)
            → map f (cond (lex_lt (key q) (key p)) (q ∷ inserted key p qs) (p ∷ (q ∷ qs))) ≡ cond b (f q ∷ inserted_by first (f p) (map f qs)) (f p ∷ (f q ∷ map f qs))
        go true e r = rw e (ap (λ (l : List ℕ). f q ∷ l) r)
        go false e r = rw e

    pub map-ordered : (ps : List ℕ) → Each (λ p q. lex_lt (key q) (key p) ≡ first (f q) (f p)) ps → map f (sorted_by key ps) ≡ ordered_by first (map f ps)
    unfolding sorted_by ordered_by
    map-ordered [] e = refl
    map-ordered (p ∷ ps) e =
        map-inserted p (sorted_by key ps) (λ q m. e.0 q (sort-given key ps q m))
        ∙ ap (inserted_by first (f p)) (map-ordered ps e.1)
