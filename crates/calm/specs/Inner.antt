-- What the inner functions ask of each other, after the model has been tested. Definitions only; no public contract cites them.
-- Assumes nothing.
use Rattle.std.specs.Prelude.{List, ℕ, ◌+◌, ◌*◌, ◌≤◌, ◌<◌, ℤ}
use Rattle.integers.specs.Sums.{magnitudes}
use Rattle.reachability.specs.Sets.{reach_limit}

-- Reaches of n coordinates, each within its limit together with the drift.
pub record SmallReaches (n : ℕ) (reaches drift : List ℤ) : Type 0 where
  pub most : n ≤ 6
  pub small : (i : ℕ) → i < 6 → magnitudes reaches i + magnitudes drift i ≤ reach_limit

-- Sums of six reaches.
pub record SmallTotals (x y : ℕ) : Type 0 where
  pub initial : x ≤ 6 * reach_limit
  pub entering : y ≤ 6 * reach_limit
