-- `listing::directions::put_swept` meets its contract: the rows stand behind the first line. Assumes nothing.
use Rattle.std.proofs.Common.{sym, ap, arith}
use Rattle.reachability.specs.Answers.{Swept}
use Rattle.text.proofs.Outputs.{next_is, next_then}
use Rattle.listing.specs.Inner.{swept}
use Rattle.listing.proofs.Outputs.{next-most, next_fits}
use Rattle.listing.proofs.directions.put_swept.Goals as goal

pub returns-in-Ok : goal.returns-in-Ok
returns-in-Ok c =
    let head = next_fits (rw c.from.ensures at c.put_line.ensures) (omega (arith, c.requires.1)) in
    next_is _ (sym (ap (λ (x : Swept). swept c.args.direction x c.args.bounds.now c.args.slacks.now) c.in-Ok.is)) (next-most _ (omega arith) (next_then head c.put_rows.ensures))
