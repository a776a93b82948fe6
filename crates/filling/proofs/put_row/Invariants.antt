-- The loop of `filling::put_row`: the first i numbers are stored. Assumes nothing.
use Rattle.std.proofs.Common.{◌≡◌}
use Rattle.filling.specs.Models.{put_first}
use Rattle.filling.proofs.put_row.Given as goal

abbrev pub invariant-loop-i : goal.invariant-loop-i
invariant-loop-i l = l.xs ≡ put_first l.i l.fn.xs l.row l.six
