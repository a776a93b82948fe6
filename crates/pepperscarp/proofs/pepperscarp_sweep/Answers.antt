-- `pepperscarp::pepperscarp_sweep` meets its contract. Where the file is refused nothing is touched; where it was read its model is
-- accepted, so the sweep's figure is small. Assumes nothing.
use Rattle.pepperscarp.proofs.Replying.{refused-small, reply-refused, sweep-answers, read_small, reply-read}
use Rattle.pepperscarp.proofs.pepperscarp_sweep.Goals as goal

pub swept-requires : goal.swept-requires
swept-requires c = read_small sweep-answers _ c.in-Ok.ensures.answer c.sweep.ensures

pub returns-in-Ok : goal.returns-in-Ok
returns-in-Ok c = reply-read sweep-answers _ c.in-Ok.ensures.answer c.sweep.ensures c.swept.ensures

pub refused-requires : goal.refused-requires
refused-requires c = refused-small _ c.in-Err.ensures.answer

pub returns-in-Err : goal.returns-in-Err
returns-in-Err c = reply-refused _ c.in-Err.ensures.answer c.refused.ensures
