-- `arrays::all_between`: `ok` is the test of every element passed. Assumes nothing.
use Rattle.std.proofs.Common.{◌≡◌}
use Rattle.integers.specs.Sums.{vector, all_below}
use Rattle.arrays.specs.Tests.{between}
use Rattle.arrays.proofs.all_between.Given as goal

abbrev pub invariant-loop-x : goal.invariant-loop-x
invariant-loop-x l = l.ok ≡ all_below l.x-index (λ k. between l.low l.high (vector l.xs k))
