-- `stepping::refusals::zero_beyond` meets its contract. Assumes nothing.
use Rattle.std.proofs.Common.{rules, pos, nat_abs, ◌∙◌}
use lib.Dec.{eqb}
use Rattle.std.proofs.lemmas.Iterator.{YieldsList-from_slice}
use Rattle.std.proofs.lemmas.Iterator.Search.{all_from_yields_List}
use Rattle.std.proofs.lemmas.Iterator.Adapters.{YieldsList-from_skip}
use Rattle.integers.proofs.Chains.{list_all-dropped}
use Rattle.stepping.proofs.refusals.zero_beyond.Goals as goal

pub returns : goal.returns
returns c =
    let a = c.args in
    all_from_yields_List (λ x. eqb (nat_abs x) 0) _ _ _ c.all.ensures.ran (YieldsList-from_skip a.n (YieldsList-from_slice a.xs.now (cc)) (cc)) (λ x b q k. search rules)
    ∙ rw c.told-xs at (list_all-dropped (λ x. eqb (nat_abs x) 0) a.n a.xs.now (pos 0))
