-- What the loop of `writer::parts::put_rows` keeps: the records of the rows passed stand in the buffer.
use Rattle.integers.proofs.Basics.{◌*◌}
use Rattle.text.specs.Output.{PutNext}
use Rattle.writer.specs.Writing.{row_records}
use Rattle.writer.proofs.parts.put_rows.Given as goal

abbrev pub invariant-loop-p : goal.invariant-loop-p
invariant-loop-p l = PutNext (26 * l.p) (row_records l.p l.rows) l.fn.out l.out
