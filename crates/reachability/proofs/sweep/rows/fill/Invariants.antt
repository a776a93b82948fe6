-- `reachability::sweep::rows::fill`: `SweptSoFar` holds of what the loop carries.
use Rattle.reachability.proofs.sweep.SweepLoop.{SweptSoFar}
use Rattle.reachability.proofs.sweep.rows.fill.Given as goal

abbrev pub invariant-loop-k : goal.invariant-loop-k
invariant-loop-k l = SweptSoFar l.fn.model l.fn.direction l.initial.bounds l.initial.slacks l.walk l.bounds l.slacks l.largest l.k
