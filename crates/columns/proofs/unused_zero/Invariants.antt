-- `columns::unused_zero`: each entry before i is one of the first n, or zero. Assumes nothing.
use Rattle.std.proofs.Common.{◌≡◌, ℕ, ◌<◌, true}
use Rattle.columns.proofs.ColumnLaws.{passes}
use Rattle.columns.proofs.unused_zero.Given as goal

abbrev pub invariant-loop-i : goal.invariant-loop-i
invariant-loop-i l = (j : ℕ) → j < l.i → passes l.layout.first l.n l.layout.width l.body j ≡ true
