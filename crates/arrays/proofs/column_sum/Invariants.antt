-- `arrays::column_sum`: `sum` is the sum of the magnitudes passed. Assumes nothing.
use Rattle.std.proofs.Common.{◌≡◌, ◌≤◌, ◌*◌, nat_abs}
use Rattle.integers.specs.Sums.{matrix, sum_ℕ}
use Rattle.arrays.proofs.column_sum.Given as goal

abbrev pub invariant-loop-j : goal.invariant-loop-j
invariant-loop-j l = record { is : l.sum ≡ sum_ℕ l.j (λ k. nat_abs (matrix l.rows k l.i)); small : l.sum ≤ l.j * 2147483648 }
