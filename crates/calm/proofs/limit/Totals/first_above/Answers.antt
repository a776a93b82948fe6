-- `calm::limit::Totals::first_above`: the first step whose limit is above the slack, or none. Assumes nothing.
use Rattle.integers.proofs.Basics.{◌≡◌, sym, ap, ◌∙◌, suc, ◌+◌, arith}
use borrow.Author.Tests.{lt-ltb}
use lib.Dec.{ltb}
use Rattle.reachability.proofs.FirstPlace.{first_found, first-missing}
use Rattle.calm.specs.Calm.{limit_of}
use Rattle.calm.proofs.limit.Totals.first_above.Goals as goal

pub returns-then-slack-limit_at : goal.returns-then-slack-limit_at
returns-then-slack-limit_at c =
    let t = c.args.self.now in
    first_found (suc c.args.last) (λ j. ltb c.args.slack (limit_of t.initial t.entering j)) c.loop-k.k c.loop-k.invariant (omega arith)
    (sym (ap (ltb c.args.slack) c.limit_at.ensures) ∙ lt-ltb c.args.slack c.limit_at.result c.if-slack-limit_at.true)

pub returns : goal.returns
returns c =
    let t = c.args.self.now in
    let end : c.loop-k.k ≡ c.args.last + 1 = omega arith in
    sym end ∙ first-missing (suc c.args.last) (λ j. ltb c.args.slack (limit_of t.initial t.entering j)) c.loop-k.k c.loop-k.invariant (omega arith)
