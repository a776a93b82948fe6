-- `limits::guards_ok` meets its contract. Assumes nothing.
use Rattle.std.proofs.Common.{rules, refl, ℕ, get_or, ◌∙◌}
use borrow.Author.Tests.{le-leb}
use Rattle.std.proofs.lemmas.Iterator.{YieldsList-from_range}
use Rattle.std.proofs.lemmas.Iterator.Search.{all_from_yields_List}
use Rattle.integers.specs.Sums.{vector}
use Rattle.integers.proofs.Chains.{list_all-range}
use Rattle.limits.specs.Limits.{guard_ok}
use Rattle.limits.proofs.guards_ok.Goals as goal

pub returns-then-guards-le-MOST_GUARDS : goal.returns-then-guards-le-MOST_GUARDS
returns-then-guards-le-MOST_GUARDS c =
    let a = c.args in
    let ok = λ (g : ℕ). guard_ok a.directions a.guards g (get_or a.watched.now g 0) (vector a.levels.now g) in
    let each = all_from_yields_List ok _ _ c.all.result c.all.ensures.ran (YieldsList-from_range 0 16 16 refl refl) (λ x b q k. search rules) ∙ list_all-range ok 16 in
    simp (le-leb a.guards 16 c.if-guards-le-MOST_GUARDS.true) each
