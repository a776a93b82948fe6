-- `arrays::column_sum` meets its contract. Assumes nothing.
use Rattle.std.proofs.Common.{arith, refl}
use Rattle.integers.specs.Sums.{sum_ℕ}
use Rattle.integers.proofs.Sums.{sum_ℕ-next}
use Rattle.arrays.proofs.column_sum.Goals as goal

pub loop-j-init : goal.loop-j-init
unfolding sum_ℕ
loop-j-init c = record { is = refl; small = omega arith }

pub loop-j-preserved : goal.loop-j-preserved
loop-j-preserved c = record { is = sum_ℕ-next _ _ c.loop-j.invariant.is c.size-sum.ensures.0; small = omega arith }
