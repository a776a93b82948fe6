-- `limits::all_zero` meets its contract. Assumes nothing.
use Rattle.std.proofs.Common.{rules, refl, ℕ, nat_abs, ◌∙◌}
use lib.Dec.{eqb}
use Rattle.std.proofs.lemmas.Iterator.{YieldsList-from_range}
use Rattle.std.proofs.lemmas.Iterator.Search.{all_from_yields_List}
use Rattle.integers.specs.Sums.{matrix}
use Rattle.integers.proofs.Chains.{list_all-range}
use Rattle.limits.proofs.all_zero.Goals as goal

pub returns : goal.returns
returns c =
    let zero = λ (i : ℕ). eqb (nat_abs (matrix c.args.entries.now c.args.k i)) 0 in
    all_from_yields_List zero _ _ _ c.all.ensures.ran (YieldsList-from_range 0 6 6 refl refl) (λ x b q k. search rules) ∙ list_all-range zero 6
