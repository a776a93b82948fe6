-- The loop of `reader::read`: reading on from the offset gives the reading of the file. The measure is the number of bytes left.
-- Assumes nothing.
use Rattle.std.proofs.Common.{◌≡◌, ◌≤◌, ◌-◌, length}
use Rattle.reader.specs.Reading.{read_from, read_model}
use Rattle.reader.proofs.read.Given as goal

abbrev pub invariant-loop-next : goal.invariant-loop-next
invariant-loop-next l = (l.at ≤ length l.file) × (read_from l.file l.at l.state ≡ read_model l.file)

abbrev pub decreases-loop-next : goal.decreases-loop-next
decreases-loop-next l = length l.file - l.at
