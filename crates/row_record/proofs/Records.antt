-- Laws of records in a list, for records of any count of words.
use mathlib.Core.Path.{◌≡◌, ◌∙◌, ap, subst, refl}
use mathlib.Core.Bool.{Bool, true, false}
use mathlib.Core.List.{List, ◌++◌}
use mathlib.Core.Logic.{◌≢◌}
use Prim.Native.Nat.{ℕ, suc, ◌≤◌, ◌<◌, ◌+◌, ◌-◌, ◌*◌}
use native.Mathlib.Nat.{zero-add, mul-le-mul_right, suc-mul}
use native.Mathlib.Omega.{arith}
use borrow.Author.Tests.{ltb-true, ltb-false}
use lib.Dec.{ltb}
use lib.ListN.{length, get_or, take, drop, length-append, length-take, length-drop, get_or-append}
use lib.Seq.{length-take-le, get_or-append-add, get_or-take, get_or-drop}

-- the words of two lists agree, n of them from a and from b on
abbrev pub Agree : ℕ → List ℕ → ℕ → List ℕ → ℕ → Type 0
Agree n l a m b = (j : ℕ) → j < n → get_or l (a + j) 0 ≡ get_or m (b + j) 0

-- words that stand behind others are read there
pub behind : (front ws rest : List ℕ) (a : ℕ) → length front ≡ a → Agree (length ws) (front ++ (ws ++ rest)) a ws 0
behind front ws rest a e j h =
    subst (λ (n : ℕ). get_or (front ++ (ws ++ rest)) (n + j) 0 ≡ get_or ws (0 + j) 0) e
    (rw zero-add (get_or-append-add front (ws ++ rest) j 0 ∙ get_or-append ws rest 0 j h))

-- words put at place a: those in front of them and those behind stay
module _ (l ws : List ℕ) (a w : ℕ) (size : length ws ≡ w) (room : a + w ≤ length l) where
  abbrev put : List ℕ
  put = take a l ++ (ws ++ drop (a + w) l)

  front : length (take a l) ≡ a
  front = length-take-le a l (omega arith)

  before : (i : ℕ) → i < a → get_or put i 0 ≡ get_or l i 0
  before i h = get_or-append (take a l) (ws ++ drop (a + w) l) 0 i (omega (arith, front)) ∙ get_or-take a l i 0 h

  after : (i : ℕ) → a + w ≤ i → get_or put i 0 ≡ get_or l i 0
  after i h =
      let j = i - (a + w) in
      let e : i ≡ length (take a l) + (length ws + j) = omega (arith, front) in
      let f : a + w + j ≡ i = omega arith in
      ap (λ (n : ℕ). get_or put n 0) e ∙ get_or-append-add (take a l) (ws ++ drop (a + w) l) (length ws + j) 0
      ∙ get_or-append-add ws (drop (a + w) l) j 0 ∙ get_or-drop (a + w) l j 0 ∙ ap (λ (n : ℕ). get_or l n 0) f

  pub put-length : length put ≡ length l
  put-length = simp (length-append, length-take, length-drop) (omega arith)

  -- so every other record of w words stays
  pub beside : (k j : ℕ) → a ≡ k * w → j ≢ k → Agree w put (j * w) l (j * w)
  beside k j e n = choose (ltb j k) refl
    where
      choose : (b : Bool) → ltb j k ≡ b → Agree w put (j * w) l (j * w)
      choose true t i h = before (j * w + i) (let lt : j < k = ltb-true j k t in omega (arith, e, mul-le-mul_right w lt, suc-mul j w))
      choose false t i h = after (j * w + i) (let ge : suc k ≤ j = omega (arith, ltb-false j k t, n) in omega (arith, e, mul-le-mul_right w ge, suc-mul k w))
