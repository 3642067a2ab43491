-- The two orders of retention apexes sort.
use mathlib.Core.Path.{◌≡◌, refl}
use mathlib.Core.Bool.{Bool, true, false, cond}
use mathlib.Core.List.{List}
use Prim.Native.Nat.{ℕ}
use native.Mathlib.Omega.{arith}
use borrow.Author.Tests.{ltb-true, ltb-false, le-ltb}
use lib.Ieee.{Float, lt, is_nan}
use Rattle.numeric.specs.Arith.{at}
use Rattle.numeric.specs.Plain.{word}
use Rattle.numeric.proofs.Order.{not-lt, lt-asym, le_trans, le_not_lt}
use Rattle.row_search.specs.Account.{All, NoNan}
use Rattle.rt_choice.specs.Ranking.{before, Strict}
use Rattle.rt_choice.proofs.Ranking.{before-strict}
use Rattle.rt_apex.specs.InTime.{apex_time}
use Rattle.rt_search.specs.Retention.{lower, by_index, higher_first, later, earlier_first}

pub index-strict : (l : List ℕ) → Strict by_index l
index-strict l =
    record {
      one_way = λ i j m n h. le-ltb j i (omega (arith, ltb-true i j h));
      onward = λ i j k m n q g h. le-ltb k i (omega (arith, ltb-false j i g, ltb-false k j h));
    }

-- the larger first
pub larger-strict : (f : ℕ → Float) (l : List ℕ) → All (λ i. is_nan (f i) ≡ false) l → Strict (λ i j. lt (f j) (f i)) l
larger-strict f l r =
    record {
      one_way = λ i j m n h. lt-asym (f j) (f i) h;
      onward = λ i j k m n q g h.
          le_not_lt (f i) (f k) (le_trans (f k) (f j) (f i) (not-lt (f j) (f k) (r j n) (r k q) h) (not-lt (f i) (f j) (r i m) (r j n) g));
    }

pub higher-strict : (y : List Float) (l : List ℕ) → NoNan y l → Strict (higher_first y) l
unfolding higher_first
higher-strict y l r = before-strict (lower y) by_index l (larger-strict (at y) l r) (index-strict l)

pub later-strict : (y t : List Float) (l : List ℕ) → Strict (λ i j. later y t j i) l
later-strict y t l =
    let w : ℕ → ℕ = (λ i. word (apex_time y t i)) in
    record {
      one_way = λ i j m n h. le-ltb (w j) (w i) (omega (arith, ltb-true (w i) (w j) h));
      onward = λ i j k m n q g h. le-ltb (w k) (w i) (omega (arith, ltb-false (w j) (w i) g, ltb-false (w k) (w j) h));
    }

pub earlier-strict : (y t : List Float) (l : List ℕ) → NoNan y l → Strict (earlier_first y t) l
unfolding earlier_first
earlier-strict y t l r = before-strict (later y t) (higher_first y) l (later-strict y t l) (higher-strict y l r)

-- where the second comparison does not put a before b, the first decides
pub first-decides : (low tie : ℕ → ℕ → Bool) (a b : ℕ) → tie a b ≡ false → before low tie a b ≡ low b a
unfolding before
first-decides low tie a b h = go (low b a) (low a b)
  where
    go : (c d : Bool) → cond c true (cond d false (tie a b)) ≡ c
    go true d = refl
    go false true = refl
    go false false = h
