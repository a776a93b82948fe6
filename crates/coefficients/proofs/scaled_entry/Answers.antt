-- `coefficients::scaled_entry`: the test is that of the magnitude. Assumes nothing.
use Rattle.std.proofs.Common.{arith}
use Rattle.std.proofs.lemmas.Grind.{common_steps}
use Rattle.coefficients.specs.Entries.{scaled_entry}
use Rattle.coefficients.proofs.scaled_entry.Goals as goal

pub returns-then-contains : goal.returns-then-contains
unfolding scaled_entry
returns-then-contains c = grind (arith, common_steps)

pub returns-else-contains : goal.returns-else-contains
unfolding scaled_entry
returns-else-contains c = grind (arith, common_steps)
