-- Calm 1 to 7: calm models, the limit of their slacks, and what holds of them. Definitions only. That it holds is proved
-- (`proofs.Laws`). Assumes nothing.
use Rattle.std.specs.Prelude.{Bool, ℕ, suc, ◌+◌, ◌*◌, ◌-◌, ◌/◌, ◌≤◌, ◌<◌, leb, ltb, ℤ, nat_abs}
use Rattle.integers.specs.Whole.{ceil_div_ℕ}
use Rattle.integers.specs.Sums.{matrix, sum_ℕ, all_below}
use Rattle.stepping.specs.Limits.{matrix_unit, direction_unit}
use Rattle.reachability.specs.Motion.{rows_of}
use Rattle.reachability.specs.Recurrence.{Working, walk, first_place, growth_step, initial_reach, entering_reach_of, slack}
use Rattle.reachability.specs.declared.model.Model.{Model}

-- Calm 1: the magnitudes of the entries in column i, summed over the rows.
abbrev pub column_total : ℕ → (ℕ → ℕ → ℤ) → ℕ → ℕ
column_total n m i = sum_ℕ n (λ p. nat_abs (m p i))

-- Calm 1: a matrix is calm where no column sums to more than 65,536, which is the factor 1.
abbrev pub calm_matrix : ℕ → (ℕ → ℕ → ℤ) → Bool
calm_matrix n m = all_below n (λ i. leb (column_total n m i) matrix_unit)

-- Calm 1: a model is calm where its matrix is.
abbrev pub calm_model : Model → Bool
calm_model m = calm_matrix m.n (matrix (rows_of m.motion))

-- Calm 2: X, the sum of the initial reaches, and Y, that of the reaches of what enters, the drift included (Recurrence 16).
abbrev pub initial_total : Model → ℕ
initial_total m = sum_ℕ m.n (initial_reach m)

abbrev pub entering_total : Model → ℕ
entering_total m = sum_ℕ m.n (entering_reach_of m)

-- Calm 3: k × X + k × (k - 1) / 2 × Y, which T(k) is at most. k × (k - 1) is even, so its half is whole.
abbrev pub errors_of : ℕ → ℕ → ℕ → ℕ
errors_of x y k = k * x + k * (k - 1) / 2 * y

-- Calm 3: the limit at step k. The 1 that is added first stands inside the quotient, which is rounded up.
abbrev pub limit_of : ℕ → ℕ → ℕ → ℕ
limit_of x y k = ceil_div_ℕ (errors_of x y k + 1) direction_unit + 1

abbrev pub slack_limit : Model → ℕ → ℕ
slack_limit m k = limit_of (initial_total m) (entering_total m) k

-- Calm 4 and 6, of a model: no slack is above the limit of its step, and no direction is refused for growth.
pub record SlacksWithin (m : Model) : Type 0 where
  pub within : (d : ℕ) → d < m.questions.directions → (k : ℕ) → k ≤ m.steps → slack m d k ≤ slack_limit m k
  pub ungrown : (d : ℕ) → d < m.questions.directions → m.steps < growth_step m d

-- Calm 5: errors of at most j half units after j moves, for any sequence of calm matrices and any first r.
abbrev pub SmallErrors : ℕ → (ℕ → ℕ → ℕ → ℤ) → ℕ → Working → Type 0
SmallErrors n moves k w = (j : ℕ) → j ≤ k → (i : ℕ) → i < n → (walk n moves k w j).e i ≤ j

-- Calm 7: the first of the steps 0 to K whose limit is above a slack, K + 1 where there is none.
abbrev pub first_above : Model → ℕ → ℕ
first_above m s = first_place (suc m.steps) (λ k. ltb s (slack_limit m k))
