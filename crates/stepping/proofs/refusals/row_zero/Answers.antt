-- `stepping::refusals::row_zero` meets its contract. Assumes nothing.
use Rattle.std.proofs.Common.{rules, refl, nat_abs, ◌∙◌}
use lib.Dec.{ltb, eqb}
use mathlib.Core.Bool.{◌||◌}
use Rattle.std.proofs.lemmas.Iterator.{YieldsList-from_range}
use Rattle.std.proofs.lemmas.Iterator.Search.{all_from_yields_List}
use Rattle.integers.specs.Sums.{matrix as matrix_of}
use Rattle.integers.proofs.Chains.{list_all-range}
use Rattle.stepping.proofs.refusals.row_zero.Goals as goal

pub returns : goal.returns
returns c =
    let a = c.args in
    all_from_yields_List (λ i. ltb i a.from || eqb (nat_abs (matrix_of a.matrix.now a.p i)) 0) _ _ _ c.all.ensures.ran (YieldsList-from_range 0 6 6 refl refl) (λ x b q k. search rules)
    ∙ list_all-range (λ i. ltb i a.from || eqb (nat_abs (matrix_of a.matrix.now a.p i)) 0) 6
