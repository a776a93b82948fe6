-- Recurrence 17: bounds, slacks and verdicts of a model with the drift left out, by its input set alone. Definitions only, for a law;
-- no contract cites them. Assumes nothing.
use Rattle.std.specs.Prelude.{◌≡◌, ℕ, suc, ◌<◌, ℤ, pos}
use Rattle.integers.specs.Sums.{vector}
use Rattle.stepping.specs.Recurrence.{bound_of, slack_of}
use Rattle.reachability.specs.Sets.{points, support_of, reach_of}
use Rattle.reachability.specs.Recurrence.{errors_by, supports_by, raw_bound_of, raw_slack_of, bound, slack}
use Rattle.reachability.specs.Verdicts.{verdict_below, verdict}
use Rattle.reachability.specs.declared.model.Model.{Model}
use Rattle.reachability.specs.declared.verdicts.Verdict.{Verdict}

-- The drift is zero in each of the n coordinates.
abbrev pub NoDrift : Model → Type 0
NoDrift m = (i : ℕ) → i < m.n → vector m.drift i ≡ pos 0

-- Recurrence 10 and 11, with the input set alone in the place of what enters.
abbrev pub sets_errors : Model → ℕ → ℕ → ℕ
sets_errors m = errors_by m (reach_of m.input.shape m.input.count (points m.input.points))

abbrev pub sets_supports : Model → ℕ → ℕ → ℤ
sets_supports m = supports_by m (support_of m.n m.input.shape m.input.count (points m.input.points))

-- Recurrence 13 and 14.
abbrev pub sets_bound : Model → ℕ → ℕ → ℤ
sets_bound m d k = bound_of (raw_bound_of (sets_supports m d k) (sets_errors m d k))

abbrev pub sets_slack : Model → ℕ → ℕ → ℕ
sets_slack m d k = slack_of (raw_bound_of (sets_supports m d k) (sets_errors m d k)) (raw_slack_of (sets_errors m d k))

-- Verdicts 2 to 4.
abbrev pub sets_verdict : Model → ℕ → ℤ → Verdict
sets_verdict m d level = verdict_below (suc m.steps) level (sets_bound m d) (λ k. pos (sets_slack m d k))

-- Recurrence 17: of every direction, level and step. Growth and the spare figure look at neither set nor drift.
pub record AsWithoutDrift (m : Model) : Type 0 where
  pub bounds : (d k : ℕ) → bound m d k ≡ sets_bound m d k
  pub slacks : (d k : ℕ) → slack m d k ≡ sets_slack m d k
  pub verdicts : (d : ℕ) (level : ℤ) → verdict m d level ≡ sets_verdict m d level
