-- Lists that have nothing twice.
use Rattle.std.specs.Prelude.{◌≡◌, Bool, true, false, cond, not, ◌&&◌, ◌||◌, List, [], ◌∷◌, map, ℕ, eqb, length, take}
use Rattle.row_record.specs.declared.ImPeak1D.{ImPeak1D}
use Rattle.stitch_peaks.specs.PeakList.{nth}
use Rattle.sort_digits.specs.Sorted.{sorted_by, up_to}
use Rattle.stitch_keys.specs.declared.KeyRule.TheVariants.{Identity}
use Rattle.stitch_keys.specs.Keys.{key_of}

-- x is one of the numbers
unfoldable pub is_in : ℕ → List ℕ → Bool
is_in x [] = false
is_in x (y ∷ ys) = eqb x y || is_in x ys

-- no number comes again
unfoldable pub distinct : List ℕ → Bool
distinct [] = true
distinct (x ∷ xs) = not (is_in x xs) && distinct xs

-- number 8 does not apply to a list of peaks: no identity comes again
abbrev pub distinct_ids : List ImPeak1D → Bool
distinct_ids ps = distinct (map (λ p. p.id) ps)

-- the places of peaks in the order of their identities
abbrev pub by_identity : List ImPeak1D → List ℕ
by_identity ps = sorted_by (λ k. key_of Identity (nth ps k)) (up_to (length ps))

-- Whether identities are distinct is answered. Where they are, a list is filled with the first places in their order, and else it stays.
pub record Told (ps : List ImPeak1D) (old new : List ℕ) (answer : Bool) : Type 0 where
  pub distinct : answer ≡ distinct_ids ps
  pub order : new ≡ cond answer (take (length old) (by_identity ps)) old

-- no number is the one before it, where x stands before the first
unfoldable pub differ_from : ℕ → List ℕ → Bool
differ_from x [] = true
differ_from x (y ∷ ys) = not (eqb x y) && differ_from y ys

unfoldable pub neighbours_differ : List ℕ → Bool
neighbours_differ [] = true
neighbours_differ (x ∷ xs) = differ_from x xs
