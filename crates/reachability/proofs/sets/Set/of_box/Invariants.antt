-- `reachability::sets::Set::of_box`: `sum` is the running sum of the products with the corner taken. Assumes nothing.
use mathlib.Core.Bool.{cond}
use lib.Signed.{lt_z}
use Rattle.integers.specs.Sums.{vector}
use Rattle.integers.proofs.RunningSum.{RunningSum}
use Rattle.integers.proofs.Basics.{pos, ◌*ℤ◌}
use Rattle.reachability.specs.Sets.{points}
use Rattle.reachability.specs.SetsInner.{product_limit}
use Rattle.reachability.proofs.sets.Set.of_box.Given as goal

abbrev pub invariant-loop-i : goal.invariant-loop-i
invariant-loop-i l =
    RunningSum 6 (λ i. vector l.r i *ℤ cond (lt_z (pos 0) (vector l.r i)) (points l.self.points 1 i) (points l.self.points 0 i)) product_limit l.i l.sum
