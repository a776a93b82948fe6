-- `reachability::sets::Set::dot`: `sum` is the running sum of the products. Assumes nothing.
use Rattle.integers.specs.Sums.{vector}
use Rattle.integers.proofs.RunningSum.{RunningSum}
use Rattle.integers.proofs.Basics.{◌*ℤ◌}
use Rattle.reachability.specs.Sets.{points}
use Rattle.reachability.specs.SetsInner.{product_limit}
use Rattle.reachability.proofs.sets.Set.dot.Given as goal

abbrev pub invariant-loop-i : goal.invariant-loop-i
invariant-loop-i l = RunningSum 6 (λ i. vector l.r i *ℤ points l.self.points l.k i) product_limit l.i l.sum
