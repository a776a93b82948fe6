-- `coefficients::entry_of_bits`: the bits of the number are the pattern again, and a NaN's are those of a NaN.
-- Assumes nothing.
use Rattle.integers.proofs.Basics.{ap, ◌∙◌}
use lib.Ieee.{Float}
use Rattle.coefficients.specs.Entries.{entry_of}
use Rattle.coefficients.specs.declared.Coefficient.TheVariants.{Fitted}
use Rattle.coefficients.proofs.Fitting.{entry_of-bits}
use Rattle.coefficients.proofs.entry_of_bits.Goals as goal

pub returns : goal.returns
returns c = c.entry_of.ensures ∙ ap (λ (x : Float). entry_of (Fitted x)) c.value_of.ensures ∙ entry_of-bits c.args.bits c.ranges.bits.fits
