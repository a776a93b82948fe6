-- Recurrence 1 to 8, of one step, and Recurrence 13 and 14: working directions with their errors, growth, the spare figure, and the
-- rounding of a step. Definitions only. r is a vector of whole numbers, e of natural numbers, n the number of coordinates.
-- Assumes nothing.
use Rattle.std.specs.Prelude.{◌≡◌, ℕ, zero, suc, ◌+◌, ◌*◌, ◌^◌, ◌<◌, Bool, cond, leb, ℤ, pos, nat_abs, ◌*ℤ◌}
use Rattle.integers.specs.Whole.{NearHalves, nearest_div, ceil_div, ceil_div_ℕ, fraction}
use Rattle.integers.specs.Sums.{transposed, sum_ℕ, max_ℕ}
use Rattle.stepping.specs.Limits.{matrix_unit, direction_unit, growth_limit}

-- Recurrence 1: what errors say. r, with the errors e, stands for the exact direction x, which is counted in 1 / s of the unit: in
-- each coordinate twice the distance of x from s × r is at most s × e.
pub record Stands (n s : ℕ) (x r : ℕ → ℤ) (e : ℕ → ℕ) : Type 0 where
  pub near : (i : ℕ) → i < n → NearHalves (x i) (pos s *ℤ r i) (s * e i)

-- Recurrence 2: r(0) and e(0).
abbrev pub first_r : (ℕ → ℤ) → ℕ → ℤ
first_r d i = pos direction_unit *ℤ d i

abbrev pub first_e : ℕ → ℕ
first_e i = 0

-- Recurrence 3: N is `transposed n m r`.
-- Recurrence 4: the next r, the nearest; a half goes up.
abbrev pub next_r : ℕ → (ℕ → ℕ → ℤ) → (ℕ → ℤ) → ℕ → ℤ
next_r n m r i = nearest_div (transposed n m r i) matrix_unit

-- Recurrence 5: the errors by the magnitudes of a column, rounded up, and 1 more for an N that was rounded.
abbrev pub error_sum : ℕ → (ℕ → ℕ → ℤ) → (ℕ → ℕ) → ℕ → ℕ
error_sum n m e i = sum_ℕ n (λ p. nat_abs (m p i) * e p)

abbrev pub next_e : ℕ → (ℕ → ℕ → ℤ) → (ℕ → ℤ) → (ℕ → ℕ) → ℕ → ℕ
next_e n m r e i = ceil_div_ℕ (error_sum n m e i) matrix_unit + fraction (transposed n m r i) matrix_unit

-- Recurrence 6, 11 and 12: half of an error, or of errors, rounded up.
abbrev pub half_up : ℕ → ℕ
half_up t = ceil_div_ℕ t 2

-- Recurrence 6: the growth sum.
abbrev pub growth_sum : ℕ → (ℕ → ℤ) → (ℕ → ℕ) → ℕ
growth_sum n r e = max_ℕ n (λ i. nat_abs (r i) + half_up (e i))

-- The largest h up to k that passes the test, 0 where none above 0 does.
unfoldable pub greatest : ℕ → (ℕ → Bool) → ℕ
greatest zero p = 0
greatest (suc k) p = cond (p (suc k)) (suc k) (greatest k p)

-- Recurrence 8: the spare figure of a largest growth sum s. For a sum above 0 no h above 30 passes.
abbrev pub spare : ℕ → ℕ
spare s = greatest 30 (λ h. leb (2 ^ h * s) growth_limit)

-- Recurrence 13: the bound of a raw bound.
abbrev pub bound_of : ℤ → ℤ
bound_of raw = ceil_div raw direction_unit

-- Recurrence 14: the slack of a raw bound and a raw slack.
abbrev pub slack_of : ℤ → ℕ → ℕ
slack_of raw slack = ceil_div_ℕ slack direction_unit + fraction raw direction_unit

-- Routines 10: what the rounding of a raw bound and a raw slack gives.
pub record Rounds (raw : ℤ) (raw_slack : ℕ) (b s : ℤ) : Type 0 where
  pub bound-is : b ≡ bound_of raw
  pub slack-is : s ≡ pos (slack_of raw raw_slack)
