-- The lowest and the highest value that a field has among peaks.
use Rattle.std.specs.Prelude.{◌≡◌, Bool, true, false, ℕ, ◌≤◌, min, max}
use mathlib.Core.List.{List, [], ◌∷◌, foldl, Memᴰ}
use Rattle.row_record.specs.declared.ImPeak1D.{ImPeak1D}

-- whether there are any peaks
unfoldable pub is_any : List ImPeak1D → Bool
is_any [] = false
is_any (p ∷ ps) = true

-- Of the values that a whole-number field has in the peaks, the one that is left when two at a time yield to one; 0 of no peaks.
unfoldable pub extreme : (ℕ → ℕ → ℕ) → (ImPeak1D → ℕ) → List ImPeak1D → ℕ
extreme pick f [] = 0
extreme pick f (p ∷ ps) = foldl (λ so q. pick so (f q)) (f p) ps

-- the lowest value and the highest one
abbrev pub lowest_of : (ImPeak1D → ℕ) → List ImPeak1D → ℕ
lowest_of f ps = extreme min f ps

abbrev pub highest_of : (ImPeak1D → ℕ) → List ImPeak1D → ℕ
highest_of f ps = extreme max f ps

-- a peak among some that has a value of a field
pub record Has (f : ImPeak1D → ℕ) (n : ℕ) (ps : List ImPeak1D) : Type 0 where
  pub peak : ImPeak1D
  pub member : Memᴰ peak ps
  pub value : n ≡ f peak

-- no peak is below the lowest: `lowest-below` in proofs/Extremes.antt
abbrev pub LowestBelow : Type 0
LowestBelow = (f : ImPeak1D → ℕ) (p : ImPeak1D) (ps : List ImPeak1D) → Memᴰ p ps → lowest_of f ps ≤ f p

-- and some peak has it: `lowest-one`
abbrev pub LowestOne : Type 0
LowestOne = (f : ImPeak1D → ℕ) (ps : List ImPeak1D) → is_any ps ≡ true → Has f (lowest_of f ps) ps

-- no peak is above the highest: `highest-above`
abbrev pub HighestAbove : Type 0
HighestAbove = (f : ImPeak1D → ℕ) (p : ImPeak1D) (ps : List ImPeak1D) → Memᴰ p ps → f p ≤ highest_of f ps

-- and some peak has it: `highest-one`
abbrev pub HighestOne : Type 0
HighestOne = (f : ImPeak1D → ℕ) (ps : List ImPeak1D) → is_any ps ≡ true → Has f (highest_of f ps) ps

-- groups that have a peak each
abbrev pub AllAny : List (List ImPeak1D) → Type 0
AllAny gs = (g : List ImPeak1D) → Memᴰ g gs → is_any g ≡ true
