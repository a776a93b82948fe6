-- A reach within its limit together with a drift is so by itself. Assumes nothing.
use mathlib.Core.Path.{◌≡◌, ap₂}
use mathlib.Core.Bool.{true, ◌&&◌}
use mathlib.Core.List.{List}
use Prim.Native.Nat.{ℕ, ◌+◌, ◌≤◌}
use native.Mathlib.Omega.{arith}
use borrow.Author.Tests.{le-leb, leb-true}
use lib.Dec.{leb}
use lib.IntN.{ℤ, nat_abs}
use Rattle.integers.specs.Sums.{vector}
use Rattle.integers.proofs.Sums.{all_below-at, all_below-intro}
use Rattle.integers.proofs.Booleans.{and-true}
use Rattle.reachability.specs.Sets.{points, reach_of, reach_limit, reach_within}
use Rattle.reachability.specs.Entering.{entering_reach, entering_ok, entering_within}
use Rattle.reachability.specs.declared.sets.Shape.{Shape}

pub within-alone : (shape : Shape) (count : ℕ) (xs drift : List ℤ) → entering_within shape count xs drift ≡ true → reach_within shape count xs ≡ true
within-alone shape count xs drift t =
    let both = and-true (leb 1 count && leb count 16) (entering_ok shape count xs drift) t in
    ap₂ ◌&&◌ both.0
    (all_below-intro 6 (λ i. leb (reach_of shape count (points xs) i) reach_limit)
    (λ i h. le-leb (reach_of shape count (points xs) i) reach_limit (alone (reach_of shape count (points xs) i) (nat_abs (vector drift i)) (leb-true (entering_reach shape count xs drift i) reach_limit (all_below-at 6 (λ j. leb (entering_reach shape count xs drift j) reach_limit) both.1 i h)))))
  where
    alone : (a b : ℕ) → a + b ≤ reach_limit → a ≤ reach_limit
    alone a b h = omega arith
