-- What a search for the apexes of a row leaves: its candidates and their baselines.
use Rattle.std.specs.Prelude.{◌≡◌, List, ℕ, ◌+◌, ◌*◌, ◌≤◌, ◌<◌, length, get_or, Float}
use Rattle.std.specs.Float.{binary32}
use Rattle.std.specs.Float.Ieee.{of_bits}
use Rattle.limits.specs.Limits.{exact_index}
use Rattle.numeric.specs.Plain.{AllPlain}
use Rattle.row_apex.specs.Apex.{candidates, baseline}
use Rattle.row_turns.specs.Turns.{turn, apexes_of}

-- room for a row's turns, for the bases of its apexes, and for two words of each apex on the stack
pub record Room (y : List Float) (turns bases stack : List ℕ) : Type 0 where
  pub plain : AllPlain y
  pub short : length y ≤ exact_index
  pub turns-long : length y ≤ length turns
  pub bases-long : length y ≤ 2 * length bases + 1
  pub stack-long : length y ≤ length stack + 1

-- The m candidates stand at the odd places of `turns`, and the patterns of their baselines in `bases`.
pub record Searched (y : List Float) (turns bases : List ℕ) (m : ℕ) : Type 0 where
  pub are : candidates y ≡ apexes_of turns m
  pub turns-long : 2 * m ≤ length turns
  pub bases-long : m ≤ length bases
  pub low : (k : ℕ) → k < m → 0 < turn turns (2 * k + 1)
  pub high : (k : ℕ) → k < m → turn turns (2 * k + 1) + 1 < length y
  pub rise : (k : ℕ) → k + 1 < m → turn turns (2 * k + 1) < turn turns (2 * k + 3)
  pub bases-are : (k : ℕ) → k < m → of_bits binary32 (get_or bases k 0) ≡ baseline y (turn turns (2 * k + 1))
