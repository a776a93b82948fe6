-- `coefficients::rows::scaled_entries`: each number of the row is one of the six. Assumes nothing.
use Rattle.integers.proofs.Basics.{◌≡◌, ap, ◌∙◌, rules, pos}
use Rattle.std.proofs.Common.{get_or}
use Rattle.coefficients.specs.declared.Coefficient.TheVariants.{Scaled}
use Rattle.coefficients.specs.Entries.{entry_of}
use Rattle.coefficients.proofs.RowLaws.{entries_of-cong}
use Rattle.coefficients.proofs.rows.scaled_entries.Goals as goal

pub returns : goal.returns
returns c =
    c.entries_of.ensures
    ∙ entries_of-cong c.args.n (λ i h.
    let m = (c.map.ensures.items.at i (pos 0) (Scaled (pos 0)) h).2 in
    let is : get_or c.map.result i (Scaled (pos 0)) ≡ Scaled (get_or c.args.six i (pos 0)) = search rules in
    ap entry_of is)
