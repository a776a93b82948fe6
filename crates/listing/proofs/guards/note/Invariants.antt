-- `listing::guards::note`: the guards passed have their answers noted.
use Rattle.listing.specs.Inner.{Notes}
use Rattle.listing.proofs.guards.note.Given as goal

abbrev pub invariant-loop-g : goal.invariant-loop-g
invariant-loop-g l = Notes l.model l.direction l.g l.initial.answers l.answers
