-- `arrays::column_most` meets its contract. Assumes nothing.
use Rattle.std.proofs.Common.{rules, refl, ◌∙◌}
use Rattle.integers.specs.Sums.{max_ℕ}
use Rattle.integers.proofs.Sums.{max_ℕ-next}
use Rattle.arrays.proofs.column_most.Goals as goal

pub loop-k-init : goal.loop-k-init
unfolding max_ℕ
loop-k-init c = refl

pub loop-k-preserved : goal.loop-k-preserved
loop-k-preserved c = (search rules) ∙ max_ℕ-next _ _ c.loop-k.invariant c.size.ensures.0
