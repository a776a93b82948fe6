-- `reachability::walk::Walk::back` meets its contract: the errors stay inside their width. Assumes nothing.
use Rattle.std.proofs.Common.{arith}
use Rattle.reachability.proofs.walk.Terms.{errors-small}
use Rattle.reachability.proofs.walk.Walk.back.Goals as goal

pub overflow_add-self-2 : goal.overflow_add-self-2
overflow_add-self-2 c = omega (arith, errors-small c.errors_of.ensures c.requires.terms.errors, c.requires.errors-small)
