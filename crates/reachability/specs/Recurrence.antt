-- Recurrence 6 to 16, of a model: its working directions, growth and the spare figure over all steps, bounds and slacks. Definitions
-- only. What is of one step is in the crate `stepping`.
-- The walk of step k takes the direction back over the moves before that step, the latest first; place j comes after j moves. With one
-- matrix (Model 6) the walks of all steps agree, and at place j they are at the specification's r(j) and e(j): *OneMatrix*.
-- Assumes nothing.
use Rattle.std.specs.Prelude.{Bool, cond, ℕ, zero, suc, ◌+◌, ◌*◌, ◌-◌, ltb, ℤ, pos, ◌+ℤ◌}
use Rattle.integers.specs.Sums.{sum, sum_ℕ, max_ℕ, dot_ℕ, transposed}
use Rattle.stepping.specs.Limits.{growth_limit}
use Rattle.stepping.specs.Recurrence.{first_r, first_e, next_r, next_e, half_up, growth_sum, spare, bound_of, slack_of}
use Rattle.reachability.specs.Sets.{points, support_of, reach_of}
use Rattle.reachability.specs.Entering.{entering_support, entering_reach}
use Rattle.reachability.specs.Runs.{moves, direction}
use Rattle.reachability.specs.declared.model.Model.{Model}

-- Recurrence 1: a working direction r with its errors e, which count half units.
pub record Working : Type 0 where
  pub r : ℕ → ℤ
  pub e : ℕ → ℕ

abbrev pub first : (ℕ → ℤ) → Working
first d = record { r = first_r d; e = first_e }

abbrev pub next : ℕ → (ℕ → ℕ → ℤ) → Working → Working
next n m w = record { r = next_r n m w.r; e = next_e n m w.r w.e }

-- The walk of step k from w, after j moves back, the last of them the move k - j.
unfoldable pub walk : ℕ → (ℕ → ℕ → ℕ → ℤ) → ℕ → Working → ℕ → Working
walk n moves k w zero = w
walk n moves k w (suc j) = next n (moves (k - suc j)) (walk n moves k w j)

-- Recurrence 1: the same walk of a direction x without rounding, counted in 1 / 65,536 ^ j of the unit after j moves.
unfoldable pub unrounded : ℕ → (ℕ → ℕ → ℕ → ℤ) → ℕ → (ℕ → ℤ) → ℕ → ℕ → ℤ
unrounded n moves k x zero = x
unrounded n moves k x (suc j) = transposed n (moves (k - suc j)) (unrounded n moves k x j)

-- r(j) and e(j) on the walk of step k of direction d.
abbrev pub working : Model → ℕ → ℕ → ℕ → Working
working m d k j = walk m.n (moves m) k (first (direction m d)) j

-- Recurrence 6: the growth sum of a place, and that of step k: the largest over the places 0 to k of its walk.
abbrev pub place_sum : ℕ → Working → ℕ
place_sum n w = growth_sum n w.r w.e

abbrev pub sum_at : Model → ℕ → ℕ → ℕ
sum_at m d k = max_ℕ (suc k) (λ j. place_sum m.n (working m d k j))

-- Recurrence 7: growth at step k.
abbrev pub grows_at : Model → ℕ → ℕ → Bool
grows_at m d k = ltb growth_limit (sum_at m d k)

-- The first place below n that passes the test, n where none does.
unfoldable pub first_place : ℕ → (ℕ → Bool) → ℕ
first_place zero p = 0
first_place (suc n) p = cond (p 0) 0 (suc (first_place n (λ k. p (suc k))))

-- Recurrence 7: the first of the steps 0 to K with growth, K + 1 where there is none.
abbrev pub growth_step : Model → ℕ → ℕ
growth_step m d = first_place (suc m.steps) (grows_at m d)

-- Recurrence 8: the spare figure, over the steps 0 to K.
abbrev pub spare_figure : Model → ℕ → ℕ
spare_figure m d = spare (max_ℕ (suc m.steps) (sum_at m d))

-- Sets 9 and Sets 13: support and reach of the initial set.
abbrev pub initial_support : Model → (ℕ → ℤ) → ℤ
initial_support m = support_of m.n m.initial.shape m.initial.count (points m.initial.points)

abbrev pub initial_reach : Model → ℕ → ℕ
initial_reach m = reach_of m.initial.shape m.initial.count (points m.initial.points)

-- Recurrence 15 and 16: support and reach of what enters at a move.
abbrev pub entering_support_of : Model → (ℕ → ℤ) → ℤ
entering_support_of m = entering_support m.n m.input.shape m.input.count m.input.points m.drift

abbrev pub entering_reach_of : Model → ℕ → ℕ
entering_reach_of m = entering_reach m.input.shape m.input.count m.input.points m.drift

-- Recurrence 10: the error term of a reach.
abbrev pub error_at : ℕ → (ℕ → ℕ) → Working → ℕ
error_at n reach w = dot_ℕ n w.e reach

-- Recurrence 10: the error terms of step k, of the initial set at k and of what enters, with this reach, at each j below k.
abbrev pub errors_by : Model → (ℕ → ℕ) → ℕ → ℕ → ℕ
errors_by m reach d k = error_at m.n (initial_reach m) (working m d k k) + sum_ℕ k (λ j. error_at m.n reach (working m d k j))

-- Recurrence 11: the supports of step k, counted in the same way, with this support of what enters.
abbrev pub supports_by : Model → ((ℕ → ℤ) → ℤ) → ℕ → ℕ → ℤ
supports_by m support d k = initial_support m (working m d k k).r +ℤ sum k (λ j. support (working m d k j).r)

-- Recurrence 10: T. Recurrence 11: the supports.
abbrev pub error_total : Model → ℕ → ℕ → ℕ
error_total m = errors_by m (entering_reach_of m)

abbrev pub support_total : Model → ℕ → ℕ → ℤ
support_total m = supports_by m (entering_support_of m)

-- Recurrence 11 and 12: the raw bound and the raw slack, of a sum of supports and of error terms.
abbrev pub raw_bound_of : ℤ → ℕ → ℤ
raw_bound_of supports errors = supports +ℤ pos (half_up errors)

abbrev pub raw_slack_of : ℕ → ℕ
raw_slack_of errors = 2 * half_up errors

abbrev pub raw_bound : Model → ℕ → ℕ → ℤ
raw_bound m d k = raw_bound_of (support_total m d k) (error_total m d k)

abbrev pub raw_slack : Model → ℕ → ℕ → ℕ
raw_slack m d k = raw_slack_of (error_total m d k)

-- Recurrence 13 and 14: the bound and the slack of a step, rounded.
abbrev pub bound : Model → ℕ → ℕ → ℤ
bound m d k = bound_of (raw_bound m d k)

abbrev pub slack : Model → ℕ → ℕ → ℕ
slack m d k = slack_of (raw_bound m d k) (raw_slack m d k)
