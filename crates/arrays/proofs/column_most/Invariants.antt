-- `arrays::column_most`: `most` is the largest of the magnitudes passed. Assumes nothing.
use Rattle.std.proofs.Common.{◌≡◌, nat_abs}
use Rattle.integers.specs.Sums.{matrix, max_ℕ}
use Rattle.arrays.proofs.column_most.Given as goal

abbrev pub invariant-loop-k : goal.invariant-loop-k
invariant-loop-k l = l.most ≡ max_ℕ l.k (λ k. nat_abs (matrix l.rows k l.i))
