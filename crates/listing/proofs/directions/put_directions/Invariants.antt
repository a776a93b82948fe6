-- `listing::directions::put_directions`: the directions passed have their lines, and their guards their answers noted.
use Rattle.std.proofs.Common.{◌*◌}
use Rattle.text.specs.Text.{each}
use Rattle.text.specs.Output.{PutNext}
use Rattle.listing.specs.Listing.{direction_text}
use Rattle.listing.specs.Inner.{Noted}
use Rattle.listing.proofs.directions.put_directions.Given as goal

abbrev pub invariant-loop-d : goal.invariant-loop-d
invariant-loop-d l = Noted l.model l.d l.answers × PutNext (16758 * l.d) (each l.d (direction_text l.model)) l.fn.out l.out
