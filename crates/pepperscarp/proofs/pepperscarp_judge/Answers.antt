-- `pepperscarp::pepperscarp_judge` meets its contract. Where the file is refused nothing is touched; where it was read its model is
-- accepted, so the judge's figure is small. Assumes nothing.
use Rattle.pepperscarp.proofs.Replying.{refused-small, reply-refused, judge-answers, read_small, reply-read}
use Rattle.pepperscarp.proofs.pepperscarp_judge.Goals as goal

pub judged-requires : goal.judged-requires
judged-requires c = read_small judge-answers _ c.in-Ok.ensures.answer c.judge.ensures

pub returns-in-Ok : goal.returns-in-Ok
returns-in-Ok c = reply-read judge-answers _ c.in-Ok.ensures.answer c.judge.ensures c.judged.ensures

pub refused-requires : goal.refused-requires
refused-requires c = refused-small _ c.in-Err.ensures.answer

pub returns-in-Err : goal.returns-in-Err
returns-in-Err c = reply-refused _ c.in-Err.ensures.answer c.refused.ensures
