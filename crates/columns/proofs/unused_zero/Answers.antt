-- `columns::unused_zero`: by the laws of a body that passes. Assumes nothing.
use Rattle.std.proofs.Common.{sym, ◌∙◌, arith}
use Rattle.integers.proofs.Sums.{all_below-intro, all_below-fails}
use Rattle.columns.proofs.ColumnLaws.{passes, passes-beyond, unused_zero-none, unused_zero-some}
use Rattle.columns.proofs.unused_zero.Goals as goal

-- without entries
pub returns-then-layout-eq0 : goal.returns-then-layout-eq0
returns-then-layout-eq0 c = sym (unused_zero-none c.args.n c.args.layout c.args.body.now c.if-layout-eq0.true)

pub returns-then-not-column_zero : goal.returns-then-not-column_zero
returns-then-not-column_zero c =
    let l = c.args.layout in
    let i = c.loop-i.i in
    sym (unused_zero-some c.args.n l c.args.body.now c.if-layout-eq0.false
    ∙ all_below-fails 6 (passes l.first c.args.n l.width c.args.body.now) i (omega arith)
    (passes-beyond l.first c.args.n l.width c.args.body.now i c.loop-i.auto.i ∙ sym c.column_zero.ensures ∙ c.if-not-column_zero.true))

pub returns : goal.returns
returns c =
    let l = c.args.layout in
    sym (unused_zero-some c.args.n l c.args.body.now c.if-layout-eq0.false
    ∙ all_below-intro 6 (passes l.first c.args.n l.width c.args.body.now) (λ j h. c.loop-i.invariant j (omega arith)))
