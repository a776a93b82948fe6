-- `reader::take::take_row` meets its contract: the row as it is held has the number and the entries of its body. Assumes nothing.
use Rattle.std.proofs.Common.{ap, ◌∙◌}
use mathlib.Core.List.{List}
use lib.IntN.{ℤ}
use Rattle.coefficients.specs.declared.rows.FittedRow.{FittedRow}
use Rattle.coefficients.specs.Rows.{entries_of, scaled_row, fitted_row}
use Rattle.reader.proofs.take.RowTaken.{fitted-taken, scaled-taken, row-taken}
use Rattle.reader.proofs.take.take_row.Goals as goal

pub returns-then-layout-eq-FITTED_WIDTH : goal.returns-then-layout-eq-FITTED_WIDTH
returns-then-layout-eq-FITTED_WIDTH c =
    let n = c.args.state.now.model.n in
    row-taken c.args.state.now c.args.layout c.args.body.now _ _
    (ap (λ (x : FittedRow). x.number) c.fitted_row-held.ensures)
    (c.fitted_entries.ensures
    ∙ ap (λ (x : FittedRow). entries_of n (fitted_row x.values)) c.fitted_row-held.ensures
    ∙ fitted-taken n c.args.layout c.args.body.now c.type_inv.body c.if-layout-eq-FITTED_WIDTH.true)
    c.store_row.ensures

pub returns-else-layout-eq-FITTED_WIDTH : goal.returns-else-layout-eq-FITTED_WIDTH
returns-else-layout-eq-FITTED_WIDTH c =
    let n = c.args.state.now.model.n in
    row-taken c.args.state.now c.args.layout c.args.body.now _ _
    c.first_byte.ensures
    (c.scaled_entries-entries.ensures
    ∙ ap (λ (six : List ℤ). entries_of n (scaled_row six)) c.six_at.ensures
    ∙ scaled-taken n c.args.layout c.args.body.now c.if-layout-eq-FITTED_WIDTH.false)
    c.store_row-else-layout-eq-FITTED_WIDTH.ensures
