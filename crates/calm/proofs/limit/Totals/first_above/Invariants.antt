-- `calm::limit::Totals::first_above`: at no step passed is the limit above the slack. Assumes nothing.
use Rattle.integers.proofs.Basics.{suc}
use lib.Dec.{ltb}
use Rattle.reachability.proofs.FirstPlace.{NoneBefore}
use Rattle.calm.specs.Calm.{limit_of}
use Rattle.calm.proofs.limit.Totals.first_above.Given as goal

abbrev pub invariant-loop-k : goal.invariant-loop-k
invariant-loop-k l = NoneBefore (suc l.last) (λ j. ltb l.slack (limit_of l.self.initial l.self.entering j)) l.k
