-- `stepping::column::error_sum`: `sum` is the running sum of the products. Assumes nothing.
use Rattle.std.proofs.Common.{◌≡◌, ◌≤◌, ◌*◌, nat_abs}
use Rattle.integers.specs.Sums.{magnitudes, sum_ℕ, matrix as matrix_of}
use Rattle.stepping.specs.Limits.{entry_limit, error_limit}
use Rattle.stepping.proofs.column.error_sum.Given as goal

abbrev pub invariant-loop-p : goal.invariant-loop-p
invariant-loop-p l = record { is : l.sum ≡ sum_ℕ l.p (λ p. nat_abs (matrix_of l.matrix p l.i) * magnitudes l.e p); small : l.sum ≤ l.p * (entry_limit * error_limit) }
