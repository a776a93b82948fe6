-- `calm::columns::all_calm`: every column passed is calm. Assumes nothing.
use Rattle.integers.proofs.Basics.{◌≡◌, true, ℕ, ◌<◌}
use lib.Dec.{leb}
use Rattle.integers.specs.Sums.{matrix}
use Rattle.stepping.specs.Limits.{matrix_unit}
use Rattle.calm.specs.Calm.{column_total}
use Rattle.calm.proofs.columns.all_calm.Given as goal

abbrev pub invariant-loop-i : goal.invariant-loop-i
invariant-loop-i l = (j : ℕ) → j < l.i → leb (column_total l.n (matrix l.matrix) j) matrix_unit ≡ true
