-- Recurrence 15 and 16 and Limits 11: support and reach of what enters at a move, which is an input together with the drift (Runs 9).
-- Definitions only. Assumes nothing.
use Rattle.std.specs.Prelude.{Bool, ◌&&◌, List, ℕ, ◌+◌, leb, ℤ, nat_abs, ◌+ℤ◌}
use Rattle.integers.specs.Sums.{vector, dot, all_below}
use Rattle.reachability.specs.Sets.{points, support_of, reach_of, reach_limit}
use Rattle.reachability.specs.declared.sets.Shape.{Shape}

-- Recurrence 15: the support of the input set at r, plus r · drift.
abbrev pub entering_support : ℕ → Shape → ℕ → List ℤ → List ℤ → (ℕ → ℤ) → ℤ
entering_support n shape count xs drift r = support_of n shape count (points xs) r +ℤ dot n r (vector drift)

-- Recurrence 16: the reach of the input set in a coordinate, plus |drift|.
abbrev pub entering_reach : Shape → ℕ → List ℤ → List ℤ → ℕ → ℕ
entering_reach shape count xs drift i = reach_of shape count (points xs) i + nat_abs (vector drift i)

-- Limits 11, in each coordinate.
abbrev pub entering_ok : Shape → ℕ → List ℤ → List ℤ → Bool
entering_ok shape count xs drift = all_below 6 (λ i. leb (entering_reach shape count xs drift i) reach_limit)

-- Refusals 17: what a reader tests of an input set point by point, the reach being that of the points so far.
abbrev pub entering_within : Shape → ℕ → List ℤ → List ℤ → Bool
entering_within shape count xs drift = (leb 1 count && leb count 16) && entering_ok shape count xs drift
