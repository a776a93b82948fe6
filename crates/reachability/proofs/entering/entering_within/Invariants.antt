-- `reachability::entering::entering_within`: the test holds of every coordinate passed. Assumes nothing.
use Rattle.integers.proofs.Basics.{◌≡◌, true, ℕ, ◌<◌}
use lib.Dec.{leb}
use Rattle.reachability.specs.Sets.{reach_limit}
use Rattle.reachability.specs.Entering.{entering_reach}
use Rattle.reachability.proofs.entering.entering_within.Given as goal

abbrev pub invariant-loop-i : goal.invariant-loop-i
invariant-loop-i l = (j : ℕ) → j < l.i → leb (entering_reach l.shape l.count l.points l.drift j) reach_limit ≡ true
