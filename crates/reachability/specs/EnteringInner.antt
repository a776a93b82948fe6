-- What the functions that prepare an input set and a drift for a sweep ask. Definitions only; no public contract cites them.
-- Assumes nothing.
use Rattle.std.specs.Prelude.{List, ℕ, ◌≤◌, ◌<◌, ℤ, nat_abs}
use Rattle.integers.specs.Sums.{vector}
use Rattle.reachability.specs.Sets.{reach_limit}
use Rattle.reachability.specs.SetsInner.{Counted}
use Rattle.reachability.specs.Entering.{entering_reach}
use Rattle.reachability.specs.declared.sets.Shape.{Shape}

-- Each reach of what enters within its limit.
pub record EnteringSmall (shape : Shape) (count : ℕ) (xs drift : List ℤ) : Type 0 where
  pub counted : Counted count
  pub small : (i : ℕ) → i < 6 → entering_reach shape count xs drift i ≤ reach_limit

-- Coordinates and a vector that can be added.
pub record Movable (count : ℕ) (xs by : List ℤ) : Type 0 where
  pub counted : Counted count
  pub coordinates : (k : ℕ) → nat_abs (vector xs k) ≤ reach_limit
  pub vector-small : (i : ℕ) → i < 6 → nat_abs (vector by i) ≤ reach_limit
