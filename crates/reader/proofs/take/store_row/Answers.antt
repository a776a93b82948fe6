-- `reader::take::store_row` meets its contract: the row's number first, then that of its entries. Assumes nothing.
use Rattle.std.proofs.Common.{◌≡◌, sym, ◌∙◌, ap, arith}
use Rattle.std.proofs.lemmas.Grind.{common_steps}
use Rattle.std.proofs.lemmas.Result.{err_from_is_err_and}
use Rattle.coefficients.specs.Rows.{row_refused, row_six}
use Rattle.reader.proofs.FileNumbers.{of_entry-number}
use Rattle.reader.proofs.take.store_row.Goals as goal

-- the row is the next one, and an entry is refused
pub returns-in_err-six : goal.returns-in_err-six
returns-in_err-six c =
    let next : c.args.row ≡ c.args.state.now.rows = omega arith in
    let p = err_from_is_err_and c.from_residual.result c.from_residual.ensures.1 in
    let n = ap row_refused c.in_err-six.was ∙ sym (of_entry-number _) in
    rw (p.1, p.2) (grind (arith, common_steps))

-- the row is the next one, and none is
pub returns : goal.returns
returns c =
    let next : c.args.row ≡ c.args.state.now.rows = omega arith in
    let n = ap row_refused c.in_ok-six.was in
    let six = ap row_six c.in_ok-six.was in
    grind (arith, common_steps)
