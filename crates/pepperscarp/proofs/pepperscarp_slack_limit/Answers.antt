-- `pepperscarp::pepperscarp_slack_limit` meets its contract: the limit of a model is small. Assumes nothing.
use Rattle.std.proofs.Common.{rules}
use Rattle.pepperscarp.proofs.Figures.{limited-small}
use Rattle.pepperscarp.proofs.pepperscarp_slack_limit.Goals as goal

pub of_model-requires : goal.of_model-requires
of_model-requires c = search (rules, limited-small)
