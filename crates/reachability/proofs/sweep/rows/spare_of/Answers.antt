-- `reachability::sweep::rows::spare_of` meets its contract: a sum in range has a spare figure. Assumes nothing.
use Rattle.std.proofs.Common.{ap, ap₂, ◌∙◌, Bool, ℕ, cond, Option, Some, None, unwrap_or}
use mathlib.Core.Bool.{◌&&◌}
use borrow.Author.Tests.{le-leb}
use Rattle.stepping.specs.Limits.{growth_limit}
use Rattle.stepping.specs.Recurrence.{spare}
use Rattle.reachability.proofs.sweep.rows.spare_of.Goals as goal

pub returns : goal.returns
returns c =
    let s = c.args.sum in
    let found = c.spare_bits.ensures.answer ∙ ap (λ (t : Bool). cond t (Some (spare s)) None) (ap₂ ◌&&◌ (le-leb 1 s c.requires.0) (le-leb s growth_limit c.requires.1)) in
    c.unwrap_or.ensures ∙ ap (λ (o : Option ℕ). unwrap_or o 0) found
