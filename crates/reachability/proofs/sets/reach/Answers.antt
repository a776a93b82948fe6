-- `reachability::sets::reach`: the set has passed, so its reaches may be taken. Assumes nothing.
use Rattle.integers.proofs.Basics.{sym, ◌∙◌}
use Rattle.integers.proofs.Booleans.{and-true}
use Rattle.reachability.proofs.sets.Facts.{set-facts}
use Rattle.reachability.proofs.sets.reach.Goals as goal

pub reaches-requires : goal.reaches-requires
reaches-requires c =
    let s = c.args.set in
    let facts = set-facts c.args.n s.shape s.count s.points (and-true _ _ (sym c.ok.ensures ∙ c.if-ok.true)).1 in
    (facts.counted, facts.reach-small)
