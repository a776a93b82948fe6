-- `coefficients::rows::entries_of`: before entry i, the first refusal and what is stored of those before it. Assumes nothing.
use Rattle.coefficients.specs.Rows.{mixed_row}
use Rattle.coefficients.proofs.RowSoFar.{RowSoFar}
use Rattle.coefficients.proofs.rows.entries_of.Given as goal

abbrev pub invariant-loop-i : goal.invariant-loop-i
invariant-loop-i l = RowSoFar l.n (mixed_row l.coefficients) l.i l.first l.six
