-- `reachability::sets::Set::of_points`: `figure` is the support of the points passed. Assumes nothing.
use Rattle.reachability.proofs.sets.SupportSoFar.{SupportSoFar}
use Rattle.reachability.proofs.sets.Set.of_points.Given as goal

abbrev pub invariant-loop-k : goal.invariant-loop-k
invariant-loop-k l = SupportSoFar l.self.shape l.self.count l.self.points l.r l.k l.figure
