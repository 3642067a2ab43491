-- Room for the search of a row.
use Rattle.std.specs.Prelude.{ℕ, ◌+◌, ◌*◌, ◌≤◌}
use Rattle.limits.specs.Limits.{max_samples}

-- Room for the search of a row of n samples: a word for each sample, one for every second, and eight for each apex. The three are the
-- lengths of the lists for turns, bases and what is found.
pub record Room (n turns bases found : ℕ) : Type 0 where
  pub turns-long : n ≤ turns
  pub bases-long : n ≤ 2 * bases + 1
  pub found-long : 4 * n ≤ found + 4

-- Arrays for turns and bases of these lengths are room for rows of up to n samples, and small.
pub record Sizes (n bases : ℕ) : Type 0 where
  pub bases-long : n ≤ 2 * bases + 1
  pub few : n ≤ max_samples
  pub few-bases : bases ≤ max_samples
