-- `limits::direction_ok` meets its contract. Assumes nothing.
use Rattle.std.proofs.Common.{rules, pos, ap, ◌∙◌, ℕ}
use Rattle.std.proofs.lemmas.Iterator.{YieldsList-from_slice}
use Rattle.std.proofs.lemmas.Iterator.Search.{all_from_yields_List}
use Rattle.std.proofs.lemmas.Iterator.Consumers.{YieldsList-from_enumerate}
use Rattle.integers.specs.Sums.{all_below, vector}
use Rattle.integers.proofs.Chains.{list_all-enumerated}
use Rattle.limits.specs.Limits.{value_ok}
use Rattle.limits.proofs.direction_ok.Goals as goal

pub returns : goal.returns
returns c =
    let a = c.args in
    all_from_yields_List (λ p. value_ok a.n p.0 p.1) _ _ _ c.all.ensures.ran (YieldsList-from_enumerate (YieldsList-from_slice a.r.now (cc)) (cc)) (λ x b q k. search rules)
    ∙ list_all-enumerated (λ p. value_ok a.n p.0 p.1) a.r.now (pos 0)
    ∙ ap (λ (n : ℕ). all_below n (λ i. value_ok a.n i (vector a.r.now i))) c.told-r
