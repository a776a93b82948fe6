-- `coefficients::rows::fitted_entries`: each value of the row is one of the six. Assumes nothing.
use Rattle.integers.proofs.Basics.{◌≡◌, ap, ◌∙◌, rules, pos}
use Rattle.std.proofs.Common.{get_or}
use Rattle.std.specs.Float.{nan}
use Rattle.coefficients.specs.declared.Coefficient.TheVariants.{Scaled, Fitted}
use Rattle.coefficients.specs.Entries.{entry_of}
use Rattle.coefficients.proofs.RowLaws.{entries_of-cong}
use Rattle.coefficients.proofs.rows.fitted_entries.Goals as goal

pub returns : goal.returns
returns c =
    c.entries_of.ensures
    ∙ entries_of-cong c.args.n (λ i h.
    let m = (c.map.ensures.items.at i nan (Scaled (pos 0)) h).2 in
    let is : get_or c.map.result i (Scaled (pos 0)) ≡ Fitted (get_or c.args.held.values i nan) = search rules in
    ap entry_of is)
