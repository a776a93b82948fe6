-- `stepping::column::product_sum`: `sum` is the running sum of the products. Assumes nothing.
use Rattle.std.proofs.Common.{◌*◌, ◌*ℤ◌}
use Rattle.integers.specs.Sums.{vector, matrix as matrix_of}
use Rattle.integers.proofs.RunningSum.{RunningSum}
use Rattle.stepping.specs.Limits.{entry_limit, growth_limit}
use Rattle.stepping.proofs.column.product_sum.Given as goal

abbrev pub invariant-loop-p : goal.invariant-loop-p
invariant-loop-p l = RunningSum 6 (λ p. matrix_of l.matrix p l.i *ℤ vector l.r p) (entry_limit * growth_limit) l.p l.sum
