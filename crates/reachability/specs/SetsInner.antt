-- What the inner functions ask of each other, after the public ones have tested their arguments. Definitions only; no public
-- contract cites them. Assumes nothing.
use Rattle.std.specs.Prelude.{ℕ, ◌*◌, ◌≤◌, ◌<◌, List, ℤ, nat_abs}
use Rattle.integers.specs.Sums.{vector}
use Rattle.stepping.specs.Limits.{growth_limit}
use Rattle.reachability.specs.Sets.{reach_of, reach_limit, points}
use Rattle.reachability.specs.declared.sets.Shape.{Shape}
use Rattle.reachability.specs.declared.sets.Shape.TheVariants.{Box, Zonotope, Vertices}

-- A count that some shape allows.
pub record Counted (count : ℕ) : Type 0 where
  pub some : 1 ≤ count
  pub most : count ≤ 16

-- A shape whose support and reach are taken point by point.
abbrev pub Pointwise : Shape → Type 0
Pointwise Box = ⊥
Pointwise Zonotope = Unit {0}
Pointwise Vertices = Unit {0}

-- Coordinates within the reach limit, and a direction within the growth limit.
pub record Tested (xs r : List ℤ) : Type 0 where
  pub coordinates : (k : ℕ) → nat_abs (vector xs k) ≤ reach_limit
  pub values : (i : ℕ) → i < 6 → nat_abs (vector r i) ≤ growth_limit

-- Each reach within its limit.
pub record ReachSmall (shape : Shape) (count : ℕ) (xs : List ℤ) : Type 0 where
  pub small : (i : ℕ) → i < 6 → reach_of shape count (points xs) i ≤ reach_limit

-- The most that a product of a tested value and a tested coordinate, and a dot product, can come to.
abbrev pub product_limit : ℕ
product_limit = growth_limit * reach_limit

abbrev pub term_limit : ℕ
term_limit = 6 * product_limit
