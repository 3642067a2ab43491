-- Where a frame number stands in a run, and that a window lies in it.
use mathlib.Core.Path.{◌≡◌, refl, ap}
use mathlib.Core.Bool.{Bool, true, false, cond, ◌&&◌}
use mathlib.Core.List.{List, [], ◌∷◌}
use Prim.Native.Nat.{ℕ, zero, suc, ◌≤◌, ◌<◌, ◌+◌, ◌-◌, min}
use native.Mathlib.Omega.{arith}
use borrow.Author.Tests.{lt-ltb, le-ltb, ltb-true, ltb-false, eq-eqb, ne_eqb}
use lib.Dec.{ltb, eqb}
use lib.ListN.{length, get_or}
use Rattle.std.specs.Prelude.{Option, Some, None, Result, Ok, Err, MatchResult}
use Rattle.std.specs.Result.{result_ok}
use Rattle.std.specs.Ordering.{nat_cmp}
use Rattle.std.specs.List.Sorted.{IsBinarySearchResult}
use Rattle.std.proofs.lemmas.List.Sorted.{searched}
use Rattle.row_params.specs.Params.{rising}
use Rattle.frames_index.proofs.Laws.{rising-up}
use Rattle.expand_padded_window.specs.declared.Frames.{Frames}
use Rattle.expand_padded_window.specs.FrameWindow.{before, frame_with, widened, between, padded_window}

-- the first place whose number is not below id, where numbers from it on are not
before-is : (id : ℕ) (l : List ℕ) (r : ℕ) → r ≤ length l → ((j : ℕ) → j < r → get_or l j 0 < id)
    → ((j : ℕ) → r ≤ j → j < length l → id ≤ get_or l j 0) → before id l ≡ r
unfolding before
before-is id [] r h low high = omega arith
before-is id (x ∷ xs) zero h low high = rw (le-ltb x id (high 0 (omega arith) (omega arith)))
before-is id (x ∷ xs) (suc r) h low high =
    rw (lt-ltb x id (low 0 (omega arith)))
    (ap suc (before-is id xs r (omega arith) (λ j k. low (suc j) (omega arith)) (λ j k m. high (suc j) (omega arith) (omega arith))))

module _ (ids : List ℕ) (id k : ℕ) (is : before id ids ≡ k) where
  there : k < length ids → get_or ids k 0 ≡ id → Some k ≡ frame_with ids id
  unfolding frame_with
  there h e = rw (is, lt-ltb k (length ids) h, eq-eqb (get_or ids k 0) id e)

  other : k < length ids → (get_or ids k 0 ≡ id → ⊥) → None ≡ frame_with ids id
  unfolding frame_with
  other h e = rw (is, lt-ltb k (length ids) h, ne_eqb (get_or ids k 0) id e)

  past : length ids ≤ k → None ≡ frame_with ids id
  unfolding frame_with
  past h = rw (is, le-ltb k (length ids) h)

-- numbers that rise do not fall
up : (ids : List ℕ) → rising ids ≡ true → (i j : ℕ) → i ≤ j → j < length ids → get_or ids i 0 ≤ get_or ids j 0
up ids rise i j h m = go (ltb i j) refl
  where
    go : (b : Bool) → ltb i j ≡ b → get_or ids i 0 ≤ get_or ids j 0
    go true t = omega (arith, rising-up ids i j rise (ltb-true i j t) m)
    go false t = let e : i ≡ j = omega (arith, ltb-false i j t) in rw e (omega arith)

-- what a binary search finds is the frame
pub found-by : (ids : List ℕ) (id : ℕ) (r : Result ℕ ℕ) → rising ids ≡ true → IsBinarySearchResult (λ y. nat_cmp y id) ids r → result_ok r ≡ frame_with ids id
found-by ids id r rise h = go r (searched ids id r h (up ids rise))
  where
    go : (r : Result ℕ ℕ) → MatchResult r (λ i. (i < length ids) × (get_or ids i 0 ≡ id)) (λ i. (i ≤ length ids) × ((k : ℕ) → k < i → get_or ids k 0 < id) × ((k : ℕ) → i ≤ k → k < length ids → id < get_or ids k 0)) → result_ok r ≡ frame_with ids id
    go (Ok i) f =
        there ids id i
        (before-is id ids i (omega (arith, f.0)) (λ j k. omega (arith, f.1, rising-up ids j i rise k f.0)) (λ j k m. omega (arith, f.1, up ids rise i j k m)))
        f.0 f.1
    go (Err i) f =
        let b = before-is id ids i f.0 f.1 (λ j k m. omega (arith, f.2 j k m)) in
        absent (ltb i (length ids)) refl b
      where
        absent : (t : Bool) → ltb i (length ids) ≡ t → before id ids ≡ i → None ≡ frame_with ids id
        absent true t b = let l = ltb-true i (length ids) t in other ids id i b l (λ e. absurd (omega (arith, e, f.2 i (omega arith) l)))
        absent false t b = past ids id i b (ltb-false i (length ids) t)

-- a frame that is found is one of the run
pub found_lt : (ids : List ℕ) (id k : ℕ) → Some k ≡ frame_with ids id → k < length ids
unfolding frame_with
found_lt ids id k e = go (ltb (before id ids) (length ids)) (eqb (get_or ids (before id ids) 0) id) refl e
  where
    go : (b d : Bool) → ltb (before id ids) (length ids) ≡ b → Some k ≡ cond (b && d) (Some (before id ids)) None → k < length ids
    go true true t f = let e : k ≡ before id ids = cc in omega (arith, ltb-true (before id ids) (length ids) t)
    go true false t f = cc
    go false d t f = cc

-- a higher frame number stands no earlier
before-mono : (id more : ℕ) (l : List ℕ) → id ≤ more → before id l ≤ before more l
unfolding before
before-mono id more [] h = omega arith
before-mono id more (x ∷ xs) h = go (ltb x id) (ltb x more) refl refl (before-mono id more xs h)
  where
    go : (b d : Bool) → ltb x id ≡ b → ltb x more ≡ d → before id xs ≤ before more xs → cond b (suc (before id xs)) 0 ≤ cond d (suc (before more xs)) 0
    go true true s t r = omega arith
    go true false s t r = absurd (omega (arith, ltb-true x id s, ltb-false x more t))
    go false d s t r = omega arith

found-is : (ids : List ℕ) (id k : ℕ) → Some k ≡ frame_with ids id → k ≡ before id ids
unfolding frame_with
found-is ids id k e = go (ltb (before id ids) (length ids) && eqb (get_or ids (before id ids) 0) id) e
  where
    go : (b : Bool) → Some k ≡ cond b (Some (before id ids)) None → k ≡ before id ids
    go true f = cc
    go false f = cc

-- a window lies in the run, and its first frame is not behind its last
pub window-in : (ids : List ℕ) (lo hi pad a b : ℕ) → lo ≤ hi → Some (record { lo = a; hi = b }) ≡ padded_window ids lo hi pad → (a ≤ b) × (b < length ids)
unfolding padded_window between widened
window-in ids lo hi pad a b h e = go (frame_with ids lo) (frame_with ids hi) refl refl e
  where
    go : (p q : Option ℕ) → p ≡ frame_with ids lo → q ≡ frame_with ids hi → Some (record { lo = a; hi = b }) ≡ between (length ids) pad p q → (a ≤ b) × (b < length ids)
    go None q s t f = cc
    go (Some i) None s t f = cc
    go (Some i) (Some j) s t f =
        let w : record { lo = a; hi = b } ≡ widened (length ids) pad i j = cc in
        let first : a ≡ i - min pad (length ids - 1) = ap (λ (x : Frames). x.lo) w in
        let last : b ≡ min (j + min pad (length ids - 1)) (length ids - 1) = ap (λ (x : Frames). x.hi) w in
        let i_lt = found_lt ids lo i s in
        let j-lt = found_lt ids hi j t in
        let up : i ≤ j = omega (arith, found-is ids lo i s, found-is ids hi j t, before-mono lo hi ids h) in
        (omega (arith, first, last, i_lt, j-lt, up), omega (arith, first, last, i_lt, j-lt))
