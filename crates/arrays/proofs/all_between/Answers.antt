-- `arrays::all_between` meets its contract. Assumes nothing.
use Rattle.std.proofs.Common.{rules, refl}
use Rattle.integers.specs.Sums.{all_below}
use Rattle.integers.proofs.Sums.{all_below-next}
use Rattle.arrays.proofs.all_between.Goals as goal

pub loop-x-init : goal.loop-x-init
unfolding all_below
loop-x-init c = refl

pub loop-x-preserved : goal.loop-x-preserved
loop-x-preserved c = all_below-next _ _ c.loop-x.invariant (search rules)
