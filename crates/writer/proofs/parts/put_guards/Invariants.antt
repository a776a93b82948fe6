-- What the loop of `writer::parts::put_guards` keeps: the records of the guards passed stand in the buffer.
use Rattle.integers.proofs.Basics.{◌*◌}
use Rattle.text.specs.Output.{PutNext}
use Rattle.writer.specs.Writing.{guard_records}
use Rattle.writer.proofs.parts.put_guards.Given as goal

abbrev pub invariant-loop-g : goal.invariant-loop-g
invariant-loop-g l = PutNext (10 * l.g) (guard_records l.g l.watched l.levels) l.fn.out l.out
