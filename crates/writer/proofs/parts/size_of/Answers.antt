-- `writer::parts::size_of` meets its contract: it adds up the lengths of the parts. Assumes nothing.
use Rattle.integers.proofs.Basics.{arith}
use Rattle.writer.proofs.parts.Counts.{counts}
use Rattle.writer.proofs.parts.Lengths.{length-file_of}
use Rattle.writer.proofs.parts.size_of.Goals as goal

pub overflow_add-vectors-2 : goal.overflow_add-vectors-2
overflow_add-vectors-2 c = let few = counts c.args.model c.requires in record { fits = omega (arith, c.drift_count-drifts.ensures, c.input_count-inputs.ensures) }

pub overflow_add-vectors-3 : goal.overflow_add-vectors-3
overflow_add-vectors-3 c = let few = counts c.args.model c.requires in record { fits = omega (arith, c.drift_count-drifts.ensures, c.input_count-inputs.ensures) }

pub overflow_mul-result : goal.overflow_mul-result
overflow_mul-result c = let few = counts c.args.model c.requires in record { fits = omega (arith, c.drift_count-drifts.ensures, c.input_count-inputs.ensures) }

pub overflow_add-result : goal.overflow_add-result
overflow_add-result c = let few = counts c.args.model c.requires in record { fits = omega (arith, c.drift_count-drifts.ensures, c.input_count-inputs.ensures) }

pub overflow_mul-result-2 : goal.overflow_mul-result-2
overflow_mul-result-2 c = let few = counts c.args.model c.requires in record { fits = omega (arith, c.drift_count-drifts.ensures, c.input_count-inputs.ensures) }

pub overflow_add-result-2 : goal.overflow_add-result-2
overflow_add-result-2 c = let few = counts c.args.model c.requires in record { fits = omega (arith, c.drift_count-drifts.ensures, c.input_count-inputs.ensures) }

pub overflow_add-result-3 : goal.overflow_add-result-3
overflow_add-result-3 c = let few = counts c.args.model c.requires in record { fits = omega (arith, c.drift_count-drifts.ensures, c.input_count-inputs.ensures) }

pub overflow_add-result-4 : goal.overflow_add-result-4
overflow_add-result-4 c = let few = counts c.args.model c.requires in record { fits = omega (arith, c.drift_count-drifts.ensures, c.input_count-inputs.ensures) }

pub returns : goal.returns
returns c = omega (arith, c.drift_count-drifts.ensures, c.input_count-inputs.ensures, length-file_of c.args.model)
