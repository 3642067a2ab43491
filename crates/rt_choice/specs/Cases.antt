-- Worked cases, by computation; they need not be read to know what is promised. On whole numbers: an apex has a height and an area, and two are near if their indices differ by less than 3.
use Rattle.std.specs.Prelude.{◌≡◌, refl, Bool, not, List, [], ◌∷◌, ℕ, ◌+◌, ◌-◌, ltb, eqb, get_or}
use Rattle.rt_choice.specs.Chosen.{near_any, choose, choose_all, chosen, passing, listed}
use Rattle.rt_choice.specs.Ranking.{before, inserted_by, ordered_by}

near : ℕ → ℕ → Bool
near i j = ltb ((i - j) + (j - i)) 3

heights : List ℕ
heights = 0 ∷ 9 ∷ 0 ∷ 9 ∷ 0 ∷ 7 ∷ 0 ∷ 4 ∷ 0 ∷ []

areas : List ℕ
areas = 0 ∷ 20 ∷ 0 ∷ 30 ∷ 0 ∷ 9 ∷ 0 ∷ 5 ∷ 0 ∷ []

lower : ℕ → ℕ → Bool
lower i j = ltb (get_or heights i 0) (get_or heights j 0)

smaller : ℕ → ℕ → Bool
smaller i j = ltb (get_or areas i 0) (get_or areas j 0)

by_index : ℕ → ℕ → Bool
by_index i j = ltb i j

-- the larger area first, then the lower index
by_area : ℕ → ℕ → Bool
by_area i j = before smaller by_index i j

-- of 1 and 3, of one height, the lower index comes first, or else the larger area
case-sorted : ordered_by (before lower by_index) (1 ∷ 3 ∷ 5 ∷ 7 ∷ []) ≡ 1 ∷ 3 ∷ 5 ∷ 7 ∷ []
unfolding ordered_by inserted_by before lower by_index heights
case-sorted = refl

case-sorted-area : ordered_by (before lower by_area) (1 ∷ 3 ∷ 5 ∷ 7 ∷ []) ≡ 3 ∷ 1 ∷ 5 ∷ 7 ∷ []
unfolding ordered_by inserted_by before lower by_area by_index smaller heights areas
case-sorted-area = refl

-- 3 is near 1, which is chosen; 5 is near 3, which is not chosen, and so it is; 7 is near 5
case-chosen : chosen near (1 ∷ 3 ∷ 5 ∷ 7 ∷ []) ≡ 1 ∷ 5 ∷ []
unfolding choose_all choose near_any near
case-chosen = refl

-- in the order by area 3 is the first, 1 and 5 are near it, and 7 is chosen
case-chosen-area : chosen near (3 ∷ 1 ∷ 5 ∷ 7 ∷ []) ≡ 3 ∷ 7 ∷ []
unfolding choose_all choose near_any near
case-chosen-area = refl

-- 5 lacks the share; 7 stays missing, since it is near 5, which is chosen though not listed
case-listed : listed near (λ i. not (eqb i 5)) (1 ∷ 3 ∷ 5 ∷ 7 ∷ []) ≡ 1 ∷ []
unfolding choose_all choose near_any near passing
case-listed = refl
