-- What the loop of `writer::encoding::put_six` keeps: the entries passed stand in the buffer.
use Rattle.integers.proofs.Basics.{◌*◌}
use Rattle.integers.specs.Sums.{matrix}
use Rattle.numbers.specs.Numbers.{signed_bytes}
use Rattle.text.specs.Text.{each}
use Rattle.text.specs.Output.{PutNext}
use Rattle.writer.proofs.encoding.put_six.Given as goal

abbrev pub invariant-loop-i : goal.invariant-loop-i
invariant-loop-i l = PutNext (4 * l.i) (each l.i (λ k. signed_bytes 4 (matrix l.xs l.row k))) l.fn.out l.out
