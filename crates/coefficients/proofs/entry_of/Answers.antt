-- `coefficients::entry_of`: each kind of entry by its own function. Assumes nothing.
use Rattle.std.proofs.Common.{rules}
use Rattle.coefficients.specs.Entries.{entry_of}
use Rattle.coefficients.proofs.entry_of.Goals as goal

pub returns-in-Scaled : goal.returns-in-Scaled
unfolding entry_of
returns-in-Scaled c = search rules

pub returns-in-Fitted : goal.returns-in-Fitted
unfolding entry_of
returns-in-Fitted c = search rules
