-- `calm::limit::total`: `sum` is the running sum of the reaches, each with its drift. Assumes nothing.
use Rattle.integers.proofs.Basics.{◌+◌, pos}
use Rattle.integers.specs.Sums.{magnitudes}
use Rattle.integers.proofs.RunningSum.{RunningSum}
use Rattle.reachability.specs.Sets.{reach_limit}
use Rattle.calm.proofs.limit.total.Given as goal

abbrev pub invariant-loop-i : goal.invariant-loop-i
invariant-loop-i l = RunningSum l.n (λ j. pos (magnitudes l.reaches j + magnitudes l.drift j)) reach_limit l.i (pos l.sum)
