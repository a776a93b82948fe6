-- `reader::advance` meets its contract, by what the record step says stands at the offset. Assumes nothing.
use Rattle.std.proofs.Common.{sym, arith}
use Rattle.std.proofs.lemmas.Result.{err_from_is_err_and}
use borrow.Author.Tests.{eq-eqb, ne_eqb}
use Rattle.records.proofs.KnownKinds.{most-le}
use Rattle.records.proofs.RecordAt.{whole_of}
use Rattle.reader.proofs.Advancing.{advances-nothing, advances-unknown, advances-cut, advances-whole-kind, advances-value, advances-behind, advances-at-end}
use Rattle.reader.proofs.order.KindNumbers.{kind_number-zero}
use Rattle.reader.proofs.advance.Goals as goal

pub returns-in_err-layout-in-Ok : goal.returns-in_err-layout-in-Ok
returns-in_err-layout-in-Ok c =
    let p = err_from_is_err_and c.from_residual.result c.from_residual.ensures.1 in
    rw (p.1, p.2)
    (advances-whole-kind _ _ _ c.args.state.now _ _ (sym c.in-Ok.ensures.record_is) _ c.in_err-layout-in-Ok.ensures)

pub take-requires-clause-few : goal.take-requires-clause-few
take-requires-clause-few c = rw c.in_ok-layout-in-Ok.ensures.1 (kind_number-zero _ _ c.in_ok-layout-in-Ok.ensures.0).1

pub take-requires-clause-most_bound : goal.take-requires-clause-most_bound
take-requires-clause-most_bound c = rw c.in_ok-layout-in-Ok.ensures.1 (most-le c.in-Ok.kind)

pub returns-in_err-take-in-Ok : goal.returns-in_err-take-in-Ok
returns-in_err-take-in-Ok c =
    let p = err_from_is_err_and c.from_residual-in_err-take-in-Ok.result c.from_residual-in_err-take-in-Ok.ensures.1 in
    let l = c.in_ok-layout-in-Ok.ensures in
    let n = rw l.1 at c.in_err-take-in-Ok.ensures in
    rw (p.1, p.2) (advances-value _ _ _ c.take.new.state _ _ (sym c.in-Ok.ensures.record_is) l.0 _ n)

pub returns-then-layout-eq-END : goal.returns-then-layout-eq-END
returns-then-layout-eq-END c =
    let l = c.in_ok-layout-in-Ok.ensures in
    let n = rw l.1 at c.in_ok-take-in-Ok.ensures in
    let e = rw l.1 at c.if-layout-eq-END.true in
    advances-at-end _ _ _ _ _ _ (sym c.in-Ok.ensures.record_is) l.0 n.0 n.1 (eq-eqb _ _ e)

pub overflow_add-result : goal.overflow_add-result
overflow_add-result c = omega (arith, (whole_of _ _ _ _ (sym c.in-Ok.ensures.record_is)).within)

pub overflow_add-result-in-Ok : goal.overflow_add-result-in-Ok
overflow_add-result-in-Ok c = omega (arith, (whole_of _ _ _ _ (sym c.in-Ok.ensures.record_is)).within)

pub returns-else-layout-eq-END : goal.returns-else-layout-eq-END
returns-else-layout-eq-END c =
    let l = c.in_ok-layout-in-Ok.ensures in
    let n = rw l.1 at c.in_ok-take-in-Ok.ensures in
    let e = rw l.1 at c.if-layout-eq-END.false in
    advances-behind _ _ _ _ _ _ (sym c.in-Ok.ensures.record_is) l.0 n.0 n.1 (ne_eqb _ _ e)

pub returns-in-Err-Nothing : goal.returns-in-Err-Nothing
returns-in-Err-Nothing c =
    let step = rw c.in-Err-Nothing.field-0-is at c.in-Err-Nothing.ensures in
    advances-nothing _ _ _ c.args.state.now (sym step.record_is)

pub returns-in-Err-Short : goal.returns-in-Err-Short
returns-in-Err-Short c =
    let step = rw c.in-Err-Short.field-0-is at c.in-Err-Short.ensures in
    rw c.and.ensures (advances-cut _ _ _ c.args.state.now _ _ (sym step.record_is) c.admit-in-Err-Short.ensures)

pub returns-in-Err-Unknown : goal.returns-in-Err-Unknown
returns-in-Err-Unknown c =
    let step = rw c.in-Err-Unknown.field-0-is at c.in-Err-Unknown.ensures in
    advances-unknown _ _ _ c.args.state.now (sym step.record_is)
