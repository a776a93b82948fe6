-- `reachability::sets::Set::move_by`: the numbers passed are moved, and the others are as they were. Assumes nothing.
use Prim.Native.Nat.{◌%◌}
use Rattle.integers.proofs.Basics.{◌≡◌, ◌+ℤ◌}
use Rattle.integers.specs.Sums.{vector}
use Rattle.integers.proofs.Machine.{filled}
use Rattle.reachability.proofs.sets.Set.move_by.Given as goal

abbrev pub invariant-loop-k : goal.invariant-loop-k
invariant-loop-k l = l.self ≡ record l.fn.self { points = filled (λ j. vector l.fn.self.points j +ℤ vector l.by (j % 6)) l.k l.fn.self.points }
