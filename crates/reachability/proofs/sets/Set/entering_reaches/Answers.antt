-- `reachability::sets::Set::entering_reaches`: each element is the reach in its coordinate. Assumes nothing.
use Rattle.integers.proofs.Basics.{ℕ, pos, rules}
use Rattle.integers.proofs.FromFn.{from_fn-tabulate}
use Rattle.reachability.specs.Entering.{entering_reach}
use Rattle.reachability.proofs.sets.Set.entering_reaches.Goals as goal

pub returns : goal.returns
returns c =
    let s = c.args.self.now in
    from_fn-tabulate _ _ (λ (i : ℕ). pos (entering_reach s.shape s.count s.points c.args.drift.now i)) _ 6 c.from_fn.ensures.items (λ j y q l h. search rules)
