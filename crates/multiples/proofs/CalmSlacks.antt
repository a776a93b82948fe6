-- Calm 4: neither whether a model is calm nor its limits depend on its directions, so that the limits of the model are those of the
-- model with multiplied directions. Assumes nothing.
use mathlib.Core.Path.{◌≡◌}
use mathlib.Core.Bool.{true}
use mathlib.Core.List.{List}
use lib.IntN.{ℤ}
use Rattle.reachability.specs.Limits.{accepted}
use Rattle.reachability.specs.declared.model.Model.{Model}
use Rattle.calm.specs.Calm.{calm_model}
use Rattle.calm.proofs.Laws.{slack-within}
use Rattle.multiples.specs.Report.{with_entries}
use Rattle.multiples.specs.CalmSlacks.{MultipliedWithin}

pub multiplied-within : (m : Model) (entries levels : List ℤ) → accepted (with_entries m entries levels) ≡ true → calm_model m ≡ true → MultipliedWithin m entries levels
multiplied-within m entries levels ok calm =
    let law = slack-within (with_entries m entries levels) ok calm in
    record { within = law.within; ungrown = law.ungrown }
