-- What the loop of `writer::parts::put_vectors` keeps: the records of the rows passed stand in the buffer.
use Rattle.integers.proofs.Basics.{◌*◌}
use Rattle.text.specs.Output.{PutNext}
use Rattle.writer.specs.Writing.{vector_records}
use Rattle.writer.proofs.parts.put_vectors.Given as goal

abbrev pub invariant-loop-k : goal.invariant-loop-k
invariant-loop-k l = PutNext (25 * l.k) (vector_records l.first l.other l.k l.xs) l.fn.out l.out
