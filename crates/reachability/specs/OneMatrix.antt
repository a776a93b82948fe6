-- Recurrence 18: growth and the spare figure where the same matrix makes every move. Definitions only, for a law; no contract cites them.
-- Assumes nothing.
use Rattle.std.specs.Prelude.{◌≡◌, ℕ, suc, ltb}
use Rattle.integers.specs.Sums.{max_ℕ}
use Rattle.stepping.specs.Limits.{growth_limit}
use Rattle.stepping.specs.Recurrence.{spare}
use Rattle.reachability.specs.Motion.{matrix_at}
use Rattle.reachability.specs.Recurrence.{working, place_sum, first_place, growth_step, spare_figure}
use Rattle.reachability.specs.declared.model.Model.{Model}

-- Model 6: nothing switches.
abbrev pub OneMatrix : Model → Type 0
OneMatrix m = (t u : ℕ) → matrix_at m.motion t ≡ matrix_at m.motion u

-- The growth sum at the end of the walk of step k, so of the specification's r(k) and e(k).
abbrev pub end_sum : Model → ℕ → ℕ → ℕ
end_sum m d k = place_sum m.n (working m d k k)

-- Recurrence 18: the ends alone settle the first step with growth and the spare figure.
pub record ByEnds (m : Model) : Type 0 where
  pub growth : (d : ℕ) → growth_step m d ≡ first_place (suc m.steps) (λ k. ltb growth_limit (end_sum m d k))
  pub spare-is : (d : ℕ) → spare_figure m d ≡ spare (max_ℕ (suc m.steps) (end_sum m d))
