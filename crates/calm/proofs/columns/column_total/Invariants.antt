-- `calm::columns::column_total`: `sum` is the running sum of the magnitudes. Assumes nothing.
use Rattle.integers.proofs.Basics.{pos, nat_abs}
use Rattle.integers.specs.Sums.{matrix}
use Rattle.integers.proofs.RunningSum.{RunningSum}
use Rattle.calm.proofs.columns.column_total.Given as goal

abbrev pub invariant-loop-p : goal.invariant-loop-p
invariant-loop-p l = RunningSum l.n (λ q. pos (nat_abs (matrix l.matrix q l.i))) 2147483648 l.p l.sum
