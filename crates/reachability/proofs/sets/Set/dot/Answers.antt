-- `reachability::sets::Set::dot`: each turn adds a term. Assumes nothing.
use Rattle.integers.proofs.Basics.{refl, ◌+◌, ◌*◌, ◌*ℤ◌, w64, to_z}
use Rattle.integers.specs.Sums.{vector}
use Rattle.integers.proofs.RunningSum.{running-start}
use Rattle.reachability.specs.Sets.{points}
use Rattle.reachability.specs.SetsInner.{product_limit}
use Rattle.reachability.proofs.sets.Terms.{TermAdded, term-added}
use Rattle.reachability.proofs.sets.Set.dot.Goals as goal

term : (c : goal.After-from) → TermAdded (λ j. vector c.args.r.now j *ℤ points c.args.self.now.points c.args.k j) c.loop-i.i (to_z w64 c.loop-i.sum-bits) (vector c.args.r.now c.loop-i.i) c.from.result
term c =
    let i = c.loop-i.i in
    term-added (points c.args.self.now.points c.args.k i) c.loop-i.invariant c.loop-i-test.true refl c.from.ensures (c.requires.1.values i c.loop-i-test.true) (c.requires.1.coordinates (6 * c.args.k + i))

pub loop-i-init : goal.loop-i-init
loop-i-init c = running-start 6 _ product_limit

pub overflow_mul-sum : goal.overflow_mul-sum
overflow_mul-sum c = (term c).product-fits

pub overflow_add-sum : goal.overflow_add-sum
overflow_add-sum c = (term c).sum-fits

pub loop-i-preserved : goal.loop-i-preserved
loop-i-preserved c = (term c).more
