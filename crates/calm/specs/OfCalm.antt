-- What is answered of a model by its sums, where it is calm. Definitions only; no public contract cites them. Assumes nothing.
use Rattle.std.specs.Prelude.{◌≡◌, true, ℕ, Result, Ok, Err}
use Rattle.reachability.specs.declared.model.Model.{Model}
use Rattle.calm.specs.Calm.{initial_total, entering_total}
use Rattle.calm.specs.Answers.{calm_answer, by_calmness}
use Rattle.calm.specs.declared.CalmRefusal.{CalmRefusal}
use Rattle.calm.specs.declared.CalmRefusal.TheVariants.{Invalid, NotCalm}
use Rattle.calm.specs.declared.limit.Totals.{Totals}

-- Calm 2: X and Y of a model that is calm.
pub record CalmTotals (m : Model) (t : Totals) : Type 0 where
  pub calm : calm_answer m ≡ Ok true
  pub initial-is : t.initial ≡ initial_total m
  pub entering-is : t.entering ≡ entering_total m

-- Calm 2, Refusals 11 and 26: the totals of a calm model, or the refusal of one that breaks a rule or is not calm, whatever a calm one
-- would get.
abbrev pub TotalsAnswer : Model → Result Totals CalmRefusal → Type 0
TotalsAnswer m (Ok t) = CalmTotals m t
TotalsAnswer m (Err e) = (x : Result ℕ CalmRefusal) → by_calmness (calm_answer m) (Err Invalid) (Err NotCalm) x ≡ Err e
