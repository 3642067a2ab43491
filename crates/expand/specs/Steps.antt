-- What the steps of expansion ask of scratch.
use Rattle.std.specs.Prelude.{ℕ, ◌≤◌}

-- scratch with a place for each of n frames
pub record Lendable (n raw smooth order : ℕ) : Type 0 where
  pub raw-long : n ≤ raw
  pub smooth-long : n ≤ smooth
  pub order-long : n ≤ order
