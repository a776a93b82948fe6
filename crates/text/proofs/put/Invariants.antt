-- What the loop of `text::put` keeps: the bytes passed stand in the buffer.
use Rattle.std.proofs.Common.{◌≡◌, ◌≤◌, length}
use lib.Seq.{paste}
use Rattle.text.proofs.put.Given as goal

abbrev pub invariant-loop-i : goal.invariant-loop-i
invariant-loop-i l = (l.i ≤ length l.word) × (l.out ≡ paste l.initial.out l.at l.word l.i)
