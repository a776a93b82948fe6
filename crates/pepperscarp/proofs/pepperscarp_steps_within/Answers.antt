-- `pepperscarp::pepperscarp_steps_within` meets its contract: a model that was read is accepted, so the steps within a slack are few.
-- Assumes nothing.
use Rattle.std.proofs.Common.{rules}
use Rattle.reader.proofs.ReadModels.{read_model-accepted}
use Rattle.pepperscarp.proofs.Figures.{stayed-small}
use Rattle.pepperscarp.proofs.pepperscarp_steps_within.Goals as goal

pub of_model-requires : goal.of_model-requires
of_model-requires c = search (rules, stayed-small, read_model-accepted)
