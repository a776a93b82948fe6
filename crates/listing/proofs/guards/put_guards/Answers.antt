-- `listing::guards::put_guards` meets its contract: a turn puts one guard's line behind those of the guards passed. Assumes nothing.
use Rattle.text.proofs.Outputs.{next_is, next-each}
use Rattle.listing.specs.Listing.{guard_text}
use Rattle.listing.proofs.Answers.{guard-text}
use Rattle.listing.proofs.guards.put_guards.Goals as goal

pub loop-g-preserved : goal.loop-g-preserved
loop-g-preserved c =
    let m = c.args.model in
    let g = c.loop-g.g in
    next-each 56 g (guard_text m) c.loop-g.invariant (next_is _ (guard-text m g _ (c.requires.0.is g c.loop-g-test.true)) c.put_guard.ensures)
