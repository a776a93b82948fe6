-- `listing::guards::put_guards`: the lines of the guards passed stand in the buffer.
use Rattle.std.proofs.Common.{◌*◌}
use Rattle.text.specs.Text.{each}
use Rattle.text.specs.Output.{PutNext}
use Rattle.listing.specs.Listing.{guard_text}
use Rattle.listing.proofs.guards.put_guards.Given as goal

abbrev pub invariant-loop-g : goal.invariant-loop-g
invariant-loop-g l = PutNext (56 * l.g) (each l.g (guard_text l.fn.model)) l.fn.out l.out
