-- `reachability::walk::errors_of`: `sum` is the running sum of the products.
use Rattle.std.proofs.Common.{◌*◌, pos}
use Rattle.integers.specs.Sums.{magnitudes}
use Rattle.integers.proofs.RunningSum.{RunningSum}
use Rattle.stepping.specs.Limits.{error_limit}
use Rattle.reachability.specs.Sets.{reach_limit}
use Rattle.reachability.proofs.walk.errors_of.Given as goal

abbrev pub invariant-loop-i : goal.invariant-loop-i
invariant-loop-i l = RunningSum 6 (λ j. pos (magnitudes l.e j * magnitudes l.reaches j)) (error_limit * reach_limit) l.i (pos l.sum)
