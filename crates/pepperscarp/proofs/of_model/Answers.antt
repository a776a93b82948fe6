-- `pepperscarp::of_model` meets its contract: the offset of a refused file is small. Assumes nothing.
use Rattle.pepperscarp.proofs.Replying.{refused-small}
use Rattle.pepperscarp.proofs.of_model.Goals as goal

pub refused-requires : goal.refused-requires
refused-requires g c = refused-small _ c.in-Err.ensures.answer
