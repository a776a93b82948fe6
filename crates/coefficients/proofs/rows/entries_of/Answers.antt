-- `coefficients::rows::entries_of`: by the laws of a row so far. Assumes nothing.
use Rattle.integers.proofs.Basics.{◌≡◌, sym, ap, subst, ◌∙◌, ◌+◌, arith, rules, ℤ, w32, to_z, of_z, set}
use Rattle.std.proofs.Common.{Option}
use Rattle.std.specs.Option.{option_or}
use Rattle.std.specs.Result.{result_err}
use Rattle.coefficients.specs.declared.EntryRefusal.{EntryRefusal}
use Rattle.coefficients.specs.Entries.{entry_value}
use Rattle.coefficients.specs.Rows.{mixed_row, unless_refused}
use Rattle.coefficients.proofs.RowSoFar.{RowSoFar, row-start, row-more, row-done, unwrap-is}
use Rattle.coefficients.proofs.rows.entries_of.Goals as goal

pub loop-i-init : goal.loop-i-init
loop-i-init c = row-start _ _

pub loop-i-preserved : goal.loop-i-preserved
loop-i-preserved c =
    let i = c.loop-i.i in
    let row = mixed_row c.args.coefficients in
    let read : to_z w32 (of_z w32 c.unwrap_or.result) ≡ c.unwrap_or.result = search rules in
    let first = c.or-first.ensures ∙ ap (option_or c.loop-i.first) (c.err.ensures.value ∙ ap result_err c.entry_of-answer.ensures) in
    let value = read ∙ c.unwrap_or.ensures ∙ unwrap-is c.entry_of-answer.result ∙ ap entry_value c.entry_of-answer.ensures in
    subst (λ (o : Option EntryRefusal). RowSoFar c.args.n row (i + 1) o (set c.loop-i.six i (to_z w32 (of_z w32 c.unwrap_or.result)))) (sym first)
    (subst (λ (z : ℤ). RowSoFar c.args.n row (i + 1) (option_or c.loop-i.first (result_err (row i))) (set c.loop-i.six i z)) (sym value)
    (row-more _ _ c.loop-i.invariant (omega arith) (omega arith)))

pub returns-in-None : goal.returns-in-None
returns-in-None c =
    sym (ap (λ (o : Option EntryRefusal). unless_refused o c.loop-i.six) c.in-None.is) ∙ row-done _ _ c.loop-i.invariant (omega arith)

pub returns-in-Some : goal.returns-in-Some
returns-in-Some c =
    sym (ap (λ (o : Option EntryRefusal). unless_refused o c.loop-i.six) c.in-Some.is) ∙ row-done _ _ c.loop-i.invariant (omega arith)
