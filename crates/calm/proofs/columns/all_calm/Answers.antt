-- `calm::columns::all_calm`: a column that sums to too much fails the whole test. Assumes nothing.
use Rattle.integers.proofs.Basics.{sym, ap, ◌∙◌, pos, w64}
use borrow.Author.Tests.{lt-leb, ltb-true}
use lib.Dec.{leb}
use lib.Signed.{lt_z}
use native.Mathlib.Nat.{lt_of_lt_of_le}
use Rattle.integers.specs.Sums.{matrix}
use Rattle.integers.proofs.Sums.{all_below-fails, all_below-intro}
use Rattle.integers.proofs.Machine.{read-given}
use Rattle.stepping.specs.Limits.{matrix_unit}
use Rattle.calm.specs.Calm.{column_total}
use Rattle.calm.proofs.columns.all_calm.Goals as goal

pub returns-then-column_total-gt-COLUMN_LIMIT : goal.returns-then-column_total-gt-COLUMN_LIMIT
returns-then-column_total-gt-COLUMN_LIMIT c =
    let a = c.args in
    let total-is = read-given w64 c.column_total.result c.column_total.type_inv ∙ c.column_total.ensures in
    let above = ltb-true matrix_unit (column_total a.n (matrix a.matrix.now) c.loop-i.i) (sym (ap (lt_z (pos matrix_unit)) total-is) ∙ c.if-column_total-gt-COLUMN_LIMIT.true) in
    sym (all_below-fails a.n (λ j. leb (column_total a.n (matrix a.matrix.now) j) matrix_unit) c.loop-i.i c.loop-i-test.true (lt-leb _ _ above))

pub returns : goal.returns
returns c =
    let a = c.args in
    sym (all_below-intro a.n (λ j. leb (column_total a.n (matrix a.matrix.now) j) matrix_unit) (λ j h. c.loop-i.invariant j (lt_of_lt_of_le h c.loop-i-test.false)))
