-- `calm::limit::total`: each turn adds a reach and the drift beside it. Assumes nothing.
use Rattle.integers.proofs.Basics.{◌≡◌, ap, ap₂, ℕ, ◌+◌, arith, rules, pos}
use Rattle.std.proofs.lemmas.Int.{ints}
use Rattle.integers.specs.Sums.{magnitudes}
use Rattle.integers.proofs.RunningSum.{running-start, running_more, running-done_ℕ}
use Rattle.reachability.specs.Sets.{reach_limit}
use Rattle.calm.proofs.limit.total.Goals as goal

pub loop-i-init : goal.loop-i-init
loop-i-init c = running-start c.args.n _ reach_limit

pub loop-i-preserved : goal.loop-i-preserved
loop-i-preserved c =
    let i = c.loop-i.i in
    let reach-is : c.unsigned_abs.result ≡ magnitudes c.args.reaches.now i = search (rules, ints) in
    let size_is : c.from.result ≡ magnitudes c.args.drift.now i = search (rules, ints) in
    running_more c.loop-i.invariant c.loop-i-test.true (c.requires.small i (omega arith)) (ap (λ (k : ℕ). pos (c.loop-i.sum + k)) (ap₂ ◌+◌ reach-is size_is))

pub returns : goal.returns
returns c = running-done_ℕ c.loop-i.invariant (omega arith)
