-- `stepping::refusals::zero_around` meets its contract. Assumes nothing.
use Rattle.std.proofs.Common.{rules, ◌∙◌, refl}
use Rattle.std.proofs.lemmas.Iterator.{YieldsList-from_range}
use Rattle.std.proofs.lemmas.Iterator.Search.{all_from_yields_List}
use Rattle.integers.proofs.Chains.{list_all-range}
use Rattle.stepping.specs.Inner.{row_zero, zeros_from}
use Rattle.stepping.proofs.refusals.zero_around.Goals as goal

pub returns : goal.returns
returns c =
    let a = c.args in
    all_from_yields_List (λ p. row_zero p (zeros_from a.n p) a.matrix.now) _ _ _ c.all.ensures.ran (YieldsList-from_range 0 6 6 refl refl) (λ x b q k. search rules)
    ∙ list_all-range (λ p. row_zero p (zeros_from a.n p) a.matrix.now) 6
