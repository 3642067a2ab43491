-- A worked case, which need not be read to know what is promised: lows of a row of eight apexes, among them equal ones.
use Rattle.std.specs.Prelude.{◌≡◌, refl, [], ◌∷◌, ℕ, get_or}
use Rattle.row_baselines.specs.Lows.{left_low, right_low, base_at}

-- valley, apex, valley, and so on
unfoldable pub mark : ℕ → ℕ
mark j = get_or (3 ∷ 9 ∷ 4 ∷ 6 ∷ 1 ∷ 6 ∷ 2 ∷ 5 ∷ 0 ∷ 6 ∷ 5 ∷ 9 ∷ 3 ∷ 4 ∷ 2 ∷ 7 ∷ 1 ∷ []) j 0

unfoldable pub base : ℕ → ℕ
base k = base_at mark 8 k

pub bases : (base 0 ∷ base 1 ∷ base 2 ∷ base 3 ∷ base 4 ∷ base 5 ∷ base 6 ∷ base 7 ∷ []) ≡ (3 ∷ 4 ∷ 1 ∷ 2 ∷ 5 ∷ 1 ∷ 3 ∷ 2 ∷ [])
unfolding left_low right_low base_at base mark
bases = refl
