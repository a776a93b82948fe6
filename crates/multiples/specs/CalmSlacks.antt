-- Calm 4: the limit of a calm model's slacks, said of multiplied directions. Definitions only, for a law; no contract cites them.
-- Assumes nothing.
use Rattle.std.specs.Prelude.{ℕ, ◌≤◌, ◌<◌, List, ℤ}
use Rattle.reachability.specs.Recurrence.{growth_step, slack}
use Rattle.reachability.specs.declared.model.Model.{Model}
use Rattle.calm.specs.Calm.{slack_limit}
use Rattle.multiples.specs.Report.{with_entries}

-- With any entries that are accepted, the limit is the model's own, in the counts of the multiplied direction, and no direction is
-- refused for growth.
pub record MultipliedWithin (m : Model) (entries levels : List ℤ) : Type 0 where
  pub within : (d : ℕ) → d < m.questions.directions → (k : ℕ) → k ≤ m.steps → slack (with_entries m entries levels) d k ≤ slack_limit m k
  pub ungrown : (d : ℕ) → d < m.questions.directions → m.steps < growth_step (with_entries m entries levels) d
