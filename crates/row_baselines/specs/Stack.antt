-- The stack of a sweep over the apexes of a row, from left to right. On it are the apexes that no later one is above yet, the newest on top.
-- An entry has two words: the number of its apex, and its gap, the lowest valley between that apex and the one of the entry below.
use Rattle.std.specs.Prelude.{◌≡◌, cond, List, ℕ, zero, suc, ◌+◌, ◌-◌, ◌*◌, ◌≤◌, ◌<◌, min, max, ltb, length, get_or, set, Float}
use Rattle.limits.specs.Limits.{exact_index}
use Rattle.numeric.specs.Plain.{AllPlain}
use Rattle.row_turns.specs.Turns.{turn}
use Rattle.row_baselines.specs.Lows.{left_low, right_low, left_low_of, right_low_of, base_at}

-- A row whose turns can be read: each of the turns of m apexes is a place of the row.
pub record Marked (y : List Float) (turns : List ℕ) (m : ℕ) : Type 0 where
  pub plain : AllPlain y
  pub few : m ≤ exact_index
  pub turns-long : 2 * m < length turns
  pub valleys : (k : ℕ) → k ≤ m → turn turns (2 * k) < length y
  pub apexes : (k : ℕ) → k < m → turn turns (2 * k + 1) < length y

-- the apex of the entry t, its gap and its height
abbrev pub apex_at : List ℕ → ℕ → ℕ
apex_at stack t = get_or stack (2 * t) 0

abbrev pub gap_at : List ℕ → ℕ → ℕ
gap_at stack t = get_or stack (2 * t + 1) 0

abbrev pub height_at : (ℕ → ℕ) → List ℕ → ℕ → ℕ
height_at mark stack t = mark (2 * apex_at stack t + 1)

-- the bases with that of the entry t made the higher of the two lows
abbrev pub based : List ℕ → List ℕ → ℕ → ℕ → List ℕ
based bases stack t low = set bases (apex_at stack t) (max (get_or bases (apex_at stack t) 0) low)

-- The lower of `low` and the gaps of the entries from the top one down, as far as the first apex above the height h; d entries are left.
unfoldable pub stack_low : (ℕ → ℕ) → List ℕ → ℕ → ℕ → ℕ → ℕ
stack_low mark stack h low zero = low
stack_low mark stack h low (suc t) = cond (ltb h (height_at mark stack t)) low (stack_low mark stack h (min (gap_at stack t) low) t)

-- For each entry what its apex has yet to pass on the right starts at the apex k; `low` is the lowest valley between the top one and k.
unfoldable pub Ahead : (ℕ → ℕ) → ℕ → ℕ → List ℕ → ℕ → ℕ → Type 0
Ahead mark m k stack low zero = Unit {0}
Ahead mark m k stack low (suc t) =
    (right_low_of mark m (apex_at stack t) ≡ right_low mark (height_at mark stack t) low (m - k) k) × Ahead mark m k stack (min (gap_at stack t) low) t

-- The sweep has come to the apex k, with d entries on the stack, and `low` is the lowest valley between the top one and k. The base of an
-- apex that is on the stack is its left low as yet; that of any other below k is settled.
pub record Stacked (mark : ℕ → ℕ) (m k : ℕ) (bases stack : List ℕ) (d low : ℕ) : Type 0 where
  pub few : d ≤ k
  pub below : (t : ℕ) → t < d → apex_at stack t < k
  pub rises : (t u : ℕ) → t < u → u < d → apex_at stack t < apex_at stack u
  pub falls : (t u : ℕ) → t ≤ u → u < d → height_at mark stack u ≤ height_at mark stack t
  pub left : (t : ℕ) → t < d → get_or bases (apex_at stack t) 0 ≡ left_low_of mark (apex_at stack t)
  pub left_here : (t : ℕ) → t < d → get_or bases (apex_at stack t) 0 ≡ stack_low mark stack (height_at mark stack t) (gap_at stack t) t
  pub right : Ahead mark m k stack low d
  pub settled : (j : ℕ) → j < k → ((t : ℕ) → t < d → apex_at stack t ≡ j → ⊥) → get_or bases j 0 ≡ base_at mark m j

-- A walk to the left from the apex k finds over the stack what it finds over the apexes.
abbrev pub Walks : (ℕ → ℕ) → ℕ → List ℕ → ℕ → Type 0
Walks mark k stack d = (h low : ℕ) → left_low mark h low k ≡ stack_low mark stack h low d

-- A walk to the right of an apex below h ends at the apex k, if it comes so far.
abbrev pub Ends : (ℕ → ℕ) → ℕ → ℕ → ℕ → Type 0
Ends mark m k h = (x low : ℕ) → x < h → right_low mark x low (m - k) k ≡ low

-- room for m bases and for two words of each of m entries
pub record Roomy (m k : ℕ) (bases stack : List ℕ) : Type 0 where
  pub on : k ≤ m
  pub bases-long : m ≤ length bases
  pub stack-long : 2 * m ≤ length stack

-- A walk to the left from the apex k, of an apex not below h, finds the same over the entries that stay; `first` and `low` are the lowest
-- valleys between the top one and k, then and now.
abbrev pub Passes : (ℕ → ℕ) → ℕ → ℕ → List ℕ → ℕ → ℕ → ℕ → Type 0
Passes mark k h stack first d low = (x l : ℕ) → h ≤ x → left_low mark x (min first l) k ≡ stack_low mark stack x (min low l) d

-- no apex on the stack is below h
abbrev pub High : (ℕ → ℕ) → List ℕ → ℕ → ℕ → Type 0
High mark stack d h = (t : ℕ) → t < d → h ≤ height_at mark stack t

-- The entries below h have left the stack: `first` was the lowest valley before that, and d entries stay.
pub record Popped (mark : ℕ → ℕ) (m k h : ℕ) (bases stack : List ℕ) (first d low : ℕ) : Type 0 where
  pub stacked : Stacked mark m k bases stack d low
  pub high : High mark stack d h
  pub passes : Passes mark k h stack first d low

-- The apexes below k are passed, with d entries on the stack; the next valley is the one left of the apex k.
pub record Swept (mark : ℕ → ℕ) (m k : ℕ) (bases stack : List ℕ) (d : ℕ) : Type 0 where
  pub stacked : Stacked mark m k bases stack d (mark (2 * k))
  pub walks : Walks mark k stack d
